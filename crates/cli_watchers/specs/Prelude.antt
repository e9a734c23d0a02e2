-- The words of this crate, for those that use it.
pub use Rattle.cli_watchers.specs.Cached.{CacheKept, SaysNothing, access_at, access_in, accesses_by, accesses_of, after_access, after_cycle, all_counted, at_mar, at_pc, cache_line, counts_of, has_room, kept_after, kept_in, kept_of_cycles, start_kept}
pub use Rattle.cli_watchers.specs.Counted.{AreClockedAfter, Completed, IsClockedAfter, Reached, boot_cycles, boundaries_of, completed_from, completed_in, cut_cycles, cut_from, cycles_of, end_after, of_row, reached_by, tally_of}
pub use Rattle.cli_watchers.specs.Lines.{AreLinesOf, Traced}
pub use Rattle.cli_watchers.specs.Naming.{Placed, Unused, default_text, label_text}
pub use Rattle.cli_watchers.specs.Profile.{Profile, Silent, boot_of, completed, more, no_tally, plus, profile_after, profile_of_cycles, profile_text, reached_at, row_at, row_line, rows_text, start_profile, tallies_at, tally_at}
pub use Rattle.cli_watchers.specs.Rows.{AreRowsUpTo, IsRowAt, row_name, row_names, row_number}
