-- The words of other crates that these proofs use.
pub use Rattle.std.proofs.Common.{Bool, List, None, Ok, Option, Some, [], ap, ap₂, arith, false, if◌then◌else◌, length, nat_lt, refl, subst, suc, sym, true}
pub use Rattle.std.proofs.Common.{zero, ℕ, ◌%◌, ◌&&◌, ◌+◌, ◌-◌, ◌/◌, ◌<◌, ◌==◌, ◌^◌, ◌||◌, ◌∙◌, ◌∷◌, ◌≡◌, ◌≢◌, ◌≤◌}
pub use Rattle.std.proofs.lemmas.Bool.Decides.{nat_tests}
pub use Rattle.std.specs.Prelude.{⊤}
unfoldable pub use Rattle.mic_words.specs.Prelude.{signed_byte, wrap}
pub use Rattle.micro_word.specs.Prelude.{addr_bits, jam_bits, names, place_on_bus}
unfoldable pub use Rattle.micro_word.specs.Prelude.{statement_of}
pub use Rattle.micro_word.specs.declared.statement.AluOp.{AluOp}
pub use Rattle.micro_word.specs.declared.statement.BusSource.{BusSource}
pub use Rattle.micro_word.specs.declared.statement.Mem.{Mem}
pub use Rattle.micro_word.specs.declared.statement.Placed.{Placed}
pub use Rattle.micro_word.specs.declared.statement.PlacedNext.{PlacedNext}
pub use Rattle.micro_word.specs.declared.statement.PlacedNext.TheVariants.{Dispatch, Goto}
pub use Rattle.console_port.specs.Prelude.{BusView, ChangesOnly, IsLed, Refusal, World, refused_by}
unfoldable pub use Rattle.console_port.specs.Prelude.{given_after, read_refusal, read_value, untaken_after, word_refusal, write_refusal}
pub use Rattle.mic_clock.specs.Prelude.{Done, IsEdge, Outcome, Refused, buses_in, refusal_in}
pub use Rattle.mic_clock.specs.declared.buses.Computed.{Computed}
pub use Rattle.mic_clock.specs.declared.buses.Drive.{Drive}
pub use Rattle.mic_clock.specs.declared.registers.Registers.{Registers}
pub use Rattle.mic_clock.specs.declared.registers.Tail.TheVariants.{Queue}
pub use Rattle.mic_datapath.specs.Prelude.{Asks, IsAccess, IsTransfer, LeadsInside, NineRegisters, answered, edge_waits, first_refusal, memory_refusal, outcome}
pub use Rattle.mic_datapath.specs.Prelude.{over_fails, ports_given, registers_at, sampled, second_clear, unrefused, word_under_way, written}
pub use Rattle.mic_datapath.specs.declared.ports.Ports.{Ports}
pub use Rattle.mic2_fetch_unit.specs.Prelude.{sample_refusal}
unfoldable pub use Rattle.mic2_fetch_unit.specs.Prelude.{edge, edge_refusal, jump}
pub use Rattle.mic2_datapath.specs.Prelude.{access_refusal, byte_at, demand, dispatch_bytes, is_to_instruction, next_micro, operand_bytes, registers_of, source}
pub use Rattle.mic2_datapath.specs.Prelude.{unit_after, unit_refusal, unit_samples}
pub use Rattle.mic3_datapath.specs.declared.pipeline.Asked.{Asked}
