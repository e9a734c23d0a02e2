-- The words of other crates that these proofs use.
pub use borrow.Author.Count.{below_more}
pub use Rattle.std.proofs.Common.{Bool, Err, IfSome, IsTrue, List, None, Option, Some, [], ap, append-nil, arith, cond, drop, eq-eqb, eqb, eqb-true, ext_get_or}
pub use Rattle.std.proofs.Common.{false, filter, get_or, get_or-set_other, get_or-set_same, get_or-take, inl, inr, is_none, le-ltb, length, length-append}
pub use Rattle.std.proofs.Common.{length-set, length-take-le, lt-ltb, ltb, ltb-false, ltb-true, map, map-id, min, nat_eq, nat_lt, ne_eqb, not, option_and_then}
pub use Rattle.std.proofs.Common.{refl, replicate, set, slice_get, slice_index, slice_index_or, subst, suc, sym, take, take-append-drop, true, zero, ℕ, ◌%◌}
pub use Rattle.std.proofs.Common.{◌&&◌, ◌*◌, ◌++◌, ◌+◌, ◌-◌, ◌/◌, ◌<◌, ◌^◌, ◌||◌, ◌∙◌, ◌∷◌, ◌≡◌, ◌≢◌, ◌≤◌, ◌⊎◌}
pub use Rattle.std.proofs.lemmas.Bool.{and_from, and_parts, cases_eq, cases_lt, eqb-false, false_from_ne_true, not-false, not-true, or_cases, or_left, or_parts}
pub use Rattle.std.proofs.lemmas.Bool.{or_right}
pub use Rattle.std.proofs.lemmas.List.{drop_all, drop_more, get_or-replicate, get_or_past, length-map, length-replicate, length_push, map-append, map_push}
pub use Rattle.std.proofs.lemmas.List.{take_more}
pub use Rattle.std.proofs.lemmas.List.Elements.{filter-append, filter_map-append}
pub use Rattle.std.proofs.lemmas.List.Filters.{length-filter_both}
pub use Rattle.std.proofs.lemmas.List.Folds.{list_any_more, list_any_none}
pub use Rattle.std.proofs.lemmas.List.FromFn.{fill_by_all, get_or-map-range_with_len, length-map-range_with_len, length-range_with_len, map-range_with_len_more}
pub use Rattle.std.proofs.lemmas.List.Recursion.{is_count_by}
pub use Rattle.std.proofs.lemmas.Map.Made.{length-le_from_is_member}
pub use Rattle.std.proofs.lemmas.Option.{get_or_from_slice_get, same_Some, slice_get_within}
pub use Rattle.std.proofs.lemmas.Result.{err_from_is_err_and}
pub use Rattle.std.specs.Cmp.{nat_eq_equiv}
pub use Rattle.std.specs.Cmp.Lexicographic.{same_text}
pub use Rattle.std.specs.List.{All, AllByRecursion, cons_option, count_by, filter_map, find, flat_map, list_all, list_any, range_with_len, starts_with}
pub use Rattle.std.specs.Option.{ForSome, IsSome, option_map, option_or, option_to_list}
pub use Rattle.std.specs.Set.{distinct_count, is_member, unique_keys}
pub use Rattle.mic_words.specs.declared.machine.Machine.{Machine}
pub use Rattle.mic_words.specs.declared.machine.Machine.TheVariants.{Mic1, Mic2}
pub use Rattle.micro_word.specs.Prelude.{ControlStore, IsStore, is_next, is_part, is_valid, microword_of}
unfoldable pub use Rattle.micro_word.specs.Prelude.{is_canonical}
pub use Rattle.micro_word.specs.declared.statement.Placed.{Placed}
pub use Rattle.micro_word.specs.declared.statement.PlacedNext.{PlacedNext}
pub use Rattle.mal_line.specs.declared.next.Next.{Next}
pub use Rattle.mal_parser.specs.declared.statement.Statement.{Statement}
pub use Rattle.store_placement.specs.Prelude.{AreApart, AreTaken, AreWithin, Demands, HasPlacement, IsChosen, IsChosenList, IsFilled, IsFirst, IsFirstTwo, IsListed}
pub use Rattle.store_placement.specs.Prelude.{IsOfStatements, IsPlacement, IsReadFrom, LeadsInside, Never, NeverTwo, NeverWith, Places, Refuses, are_different}
pub use Rattle.store_placement.specs.Prelude.{are_split, demands, fixed_at, given, given_by, has_split, is_bad, is_false_target, is_free, is_free_low, is_kept}
pub use Rattle.store_placement.specs.Prelude.{is_marked, is_opened_by, is_pair_of, is_true_target, is_wrong, magic, may_collide, number_at, opened_by}
pub use Rattle.store_placement.specs.Prelude.{pair_address, pair_of, placed_default, placed_next, placed_statement, same_address, same_pair, share_address}
pub use Rattle.store_placement.specs.Prelude.{stands_beside, stands_in, statement_pair, with_free, word_bytes}
unfoldable pub use Rattle.store_placement.specs.Prelude.{all_forced, before_singles, below, clashes, collide, demands_of, forced, free_addresses, free_lows}
unfoldable pub use Rattle.store_placement.specs.Prelude.{in_wrong_half, is_single, is_taken, machine_of, open_pairs, singles, split_apart, stands_twice}
unfoldable pub use Rattle.store_placement.specs.Prelude.{store_file, with_pairs, word_at}
pub use Rattle.store_placement.specs.declared.pair.Pair.{Pair}
pub use Rattle.store_placement.specs.declared.refusal.PlaceError.{PlaceError}
