-- The words of other crates that this one uses.
pub use Rattle.std.specs.Fmt.{decimal}
pub use Rattle.std.specs.List.{position}
pub use Rattle.std.specs.Str.{bytes_eq}
pub use Rattle.mic_words.specs.declared.machine.Machine.{Machine}
pub use Rattle.mic_base.specs.Prelude.{HasCause, Puts, hex_text}
pub use Rattle.micro_word.specs.Prelude.{statement_of}
pub use Rattle.micro_word.specs.declared.statement.Mem.{Mem}
pub use Rattle.mem_cache.specs.declared.counts.CacheCounts.{CacheCounts}
pub use Rattle.mic_clock.specs.Prelude.{completes, state_line}
pub use Rattle.mic_clock.specs.declared.buses.Computed.{Computed}
pub use Rattle.mic_clock.specs.declared.buses.Drive.{Drive}
pub use Rattle.mic_clock.specs.declared.counts.Boundary.{Boundary}
pub use Rattle.mic_clock.specs.declared.counts.Counts.{Counts}
pub use Rattle.mic_clock.specs.declared.end.End.{End}
pub use Rattle.mic_clock.specs.declared.registers.Registers.{Registers}
pub use Rattle.mic_watched.specs.Prelude.{kept_of}
pub use Rattle.mic_watched.specs.declared.cycle.Cycle.{Cycle}
pub use Rattle.mal_parser.specs.Prelude.{MalView, fallback_of, label_at, parts_text}
pub use Rattle.mal_parser.specs.declared.statement.Statement.{Statement}
pub use Rattle.store_placement.specs.Prelude.{IsOnlyAt, Places, demands_of}
pub use Rattle.ijvm_instr.specs.Prelude.{instr_at, instr_text, mnemonic_of}
pub use Rattle.ijvm_instr.specs.declared.instr.Instr.{Instr}
pub use Rattle.ijvm_image.specs.Prelude.{ImageView}
pub use Rattle.verifier_facts.specs.Prelude.{IsKind}
pub use Rattle.verifier_facts.specs.declared.kind.Kind.{Kind}
pub use Rattle.cli_outside.specs.Prelude.{PutsAfter}
