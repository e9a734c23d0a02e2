-- The words of this crate, for those that use it.
pub use Rattle.store_placement.specs.Chosen.{IsChosen, IsChosenList, is_free, is_free_low, is_opened_by, opened_by}
unfoldable pub use Rattle.store_placement.specs.Chosen.{before_singles, free_addresses, free_lows, is_single, is_taken, open_pairs, singles}
pub use Rattle.store_placement.specs.Demands.{AreFixedInside, AreWithin, Demands, IsOfStatements, demands, fixed_at, fixed_count, pair_count, same_pair}
pub use Rattle.store_placement.specs.First.{IsFirst, IsFirstTwo, Never, NeverTwo, NeverWith}
unfoldable pub use Rattle.store_placement.specs.First.{below}
pub use Rattle.store_placement.specs.Forced.{given, given_by, same_address}
unfoldable pub use Rattle.store_placement.specs.Forced.{all_forced, forced}
pub use Rattle.store_placement.specs.Listed.{IsListed, are_different, is_kept}
pub use Rattle.store_placement.specs.Placement.{AreApart, HasPlacement, IsPlacement, Places}
pub use Rattle.store_placement.specs.Program.{Decodes, IsAtNone, IsFilled, IsOnlyAt, LeadsInside, goto_end, pair_of, placed_default, placed_next, placed_statement, statement_pair}
unfoldable pub use Rattle.store_placement.specs.Program.{demands_of}
pub use Rattle.store_placement.specs.Reading.{pair_address, with_free}
unfoldable pub use Rattle.store_placement.specs.Reading.{with_pairs}
pub use Rattle.store_placement.specs.Refusals.{Refuses, are_split, is_false_target, is_pair_of, is_true_target, is_wrong, stands_beside, stands_in}
unfoldable pub use Rattle.store_placement.specs.Refusals.{clashes, collide, in_wrong_half, split_apart, stands_twice}
pub use Rattle.store_placement.specs.StoreFile.{IsReadFrom, RefusesFile, is_bad, magic, number_at, word_bytes}
unfoldable pub use Rattle.store_placement.specs.StoreFile.{machine_of, store_file, word_at}
pub use Rattle.store_placement.specs.Taken.{AreTaken, has_split, is_marked, may_collide, share_address}
