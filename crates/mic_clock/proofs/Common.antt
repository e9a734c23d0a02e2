-- The words of other crates that these proofs use.
pub use Rattle.std.proofs.Common.{Bool, Err, IfErr, IsOk, IsSome, List, None, Ok, OnOk, Option, Result, Some, [], add-zero, add_comm, ap, arith, eq-eqb, false}
pub use Rattle.std.proofs.Common.{if◌then◌else◌, inl, inr, is_some, length, max, nat_le, ne_eqb, refl, rules, slice_index, subst, suc, sym, take, true, zero, ℕ}
pub use Rattle.std.proofs.Common.{◌&&◌, ◌*◌, ◌++◌, ◌+◌, ◌-◌, ◌<◌, ◌==◌, ◌∙◌, ◌≡◌, ◌≢◌, ◌≤◌, ◌⊎◌}
pub use Rattle.std.proofs.lemmas.Bool.{cases_lt}
pub use Rattle.std.proofs.lemmas.Bool.Decides.{nat_tests}
pub use Rattle.std.specs.List.{flat_map}
pub use Rattle.mic_words.specs.declared.machine.Machine.{Machine}
pub use Rattle.mic_base.specs.Prelude.{hex_text}
pub use Rattle.micro_word.specs.Prelude.{AreLines, ControlStore, fields_of}
pub use Rattle.micro_word.specs.declared.lines.Lines.{Lines}
pub use Rattle.console_port.specs.Prelude.{BusView, HasFaultCause, IsFault, IsLed, Shows, SinkGoesOn, Stands, Untaken, World, fault_of}
pub use Rattle.console_port.specs.declared.fault.BusFault.{BusFault}
pub use Rattle.mic_clock.specs.declared.buses.Computed.{Computed}
pub use Rattle.mic_clock.specs.declared.buses.Drive.{Drive}
pub use Rattle.mic_clock.specs.declared.counts.Boundary.{Boundary}
pub use Rattle.mic_clock.specs.declared.counts.Counts.{Counts}
pub use Rattle.mic_clock.specs.declared.end.End.{End}
pub use Rattle.mic_clock.specs.declared.registers.Registers.{Registers}
pub use Rattle.mic_clock.specs.declared.running.Running.{Running}
