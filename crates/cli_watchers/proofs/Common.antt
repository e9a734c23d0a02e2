-- The words of other crates that these proofs use.
pub use Rattle.std.proofs.Common.{Bool, List, None, Option, Some, [], add-one, ap, append-nil, append_assoc, arith, codes, drop, drop-cons, eqb-true, false}
pub use Rattle.std.proofs.Common.{get_or, get_or-set_other, if◌then◌else◌, inl, inr, length, length-append, length-set, lt-ltb, map, nat_lt, option_map, refl}
pub use Rattle.std.proofs.Common.{replicate, slice_get, slice_index, slice_set, subst, suc, sym, take, true, unwrap_or, zero, ℕ, ◌*◌, ◌++◌, ◌+◌, ◌/◌, ◌<◌, ◌==◌}
pub use Rattle.std.proofs.Common.{◌^◌, ◌∙◌, ◌∷◌, ◌≡◌, ◌≢◌, ◌≤◌, ◌⊎◌}
pub use Rattle.std.proofs.Math.ListN.{get_or-append}
pub use Rattle.std.proofs.Math.Seq.{get_or-append_seam}
pub use Rattle.std.proofs.lemmas.Bool.{cases_lt, eqb-false}
pub use Rattle.std.proofs.lemmas.Grind.{get_or-set_at}
pub use Rattle.std.proofs.lemmas.List.{drop_all, length-map, length-replicate}
pub use Rattle.std.proofs.lemmas.Option.{get_or_from_slice_get, slice_get-get_or, slice_get-map, slice_get_within, unwrap_or-slice_get}
pub use Rattle.mic_words.specs.declared.machine.Machine.{Machine}
pub use Rattle.mic_words.specs.declared.machine.Machine.TheVariants.{Mic1, Mic2}
pub use Rattle.mic_base.specs.Prelude.{HasCause, Puts, hex_text}
unfoldable pub use Rattle.micro_word.specs.Prelude.{statement_of}
pub use Rattle.micro_word.specs.declared.statement.Mem.{Mem}
pub use Rattle.console_port.specs.Prelude.{BusView}
pub use Rattle.mem_cache.specs.declared.counts.CacheCounts.{CacheCounts}
pub use Rattle.mic_clock.specs.Prelude.{completes}
pub use Rattle.mic_clock.specs.declared.counts.Boundary.{Boundary}
pub use Rattle.mic_clock.specs.declared.end.End.{End}
pub use Rattle.mic_clock.specs.declared.registers.Registers.{Registers}
pub use Rattle.mic_watched.specs.Prelude.{kept_of}
pub use Rattle.mic_watched.specs.declared.cycle.Cycle.{Cycle}
pub use Rattle.mal_parser.specs.Prelude.{MalView, parts_text}
pub use Rattle.ijvm_instr.specs.Prelude.{mnemonic_of}
pub use Rattle.ijvm_instr.specs.declared.instr.Instr.{Instr}
pub use Rattle.ijvm_instr.specs.declared.instr.TheConstants.{INSTRUCTIONS}
pub use Rattle.ijvm_image.specs.Prelude.{ImageView}
pub use Rattle.cli_watchers.specs.Prelude.{AreClockedAfter, AreRowsUpTo, CacheKept, Completed, IsRowAt, Placed, Profile, Reached, SaysNothing, Silent, Unused}
pub use Rattle.cli_watchers.specs.Prelude.{access_at, access_in, accesses_by, accesses_of, after_access, after_cycle, all_counted, at_mar, at_pc, boot_cycles}
pub use Rattle.cli_watchers.specs.Prelude.{boot_of, boundaries_of, completed, completed_from, completed_in, counts_of, cut_cycles, cut_from, cycles_of}
pub use Rattle.cli_watchers.specs.Prelude.{default_text, end_after, has_room, kept_after, kept_of_cycles, label_text, more, no_tally, of_row, plus}
pub use Rattle.cli_watchers.specs.Prelude.{profile_after, reached_at, reached_by, row_at, row_line, row_name, row_names, row_number, rows_text, start_profile}
pub use Rattle.cli_watchers.specs.Prelude.{tallies_at, tally_at, tally_of}
pub use Rattle.cli_watchers.specs.declared.profiler.RowCount.{RowCount}
