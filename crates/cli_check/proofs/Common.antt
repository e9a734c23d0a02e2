-- The words of other crates that these proofs use.
pub use Rattle.std.proofs.Common.{Bool, List, Ok, Option, Some, [], add-one, ap, append-nil, append_assoc, drop, drop-cons, false, find, get_or, if◌then◌else◌}
pub use Rattle.std.proofs.Common.{length, map, option_map, refl, rules, string_bytes, subst, sym, true, ℕ, ◌&&◌, ◌++◌, ◌+◌, ◌<◌, ◌==◌, ◌∙◌, ◌∷◌, ◌≡◌, ◌≤◌}
pub use Rattle.std.proofs.lemmas.List.{drop_all}
pub use Rattle.ijvm_instr.specs.declared.instr.Instr.{Instr}
pub use Rattle.mic1_checks.specs.declared.judged.Costs.{Costs}
pub use Rattle.mic1_checks.specs.declared.leaf.Counts.{Counts}
pub use Rattle.cli_outside.specs.Prelude.{FilesState, LentView, OutsideView, Over, SinkState, SourceState, files_of, given_back, outside_view, sink_of}
pub use Rattle.cli_outside.specs.Prelude.{source_of}
pub use Rattle.cli_check.specs.Prelude.{Asked, CheckEnds, JudgesFor, NotShown, Proved, asked, asked_in, instr_line, proved_text, rows_text}
pub use Rattle.cli_check.specs.declared.words.MachineName.{MachineName}
pub use Rattle.cli_check.specs.declared.words.MachineName.TheVariants.{Mic1, Mic2, Mic3}
