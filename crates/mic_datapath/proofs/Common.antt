-- The words of other crates that these proofs use.
pub use Rattle.std.proofs.Common.{Bool, IsTrue, List, None, Option, Some, [], ap, arith, drop, false, get_or-set_other, get_or-set_same, if◌then◌else◌, inl}
pub use Rattle.std.proofs.Common.{inr, length, length-set, nat_lt, refl, slice_index, slice_set, subst, sym, true, ℕ, ◌%◌, ◌++◌, ◌/◌, ◌<◌, ◌==◌, ◌∙◌, ◌∷◌, ◌≡◌}
pub use Rattle.std.proofs.Common.{◌≢◌, ◌≤◌, ◌⊎◌}
pub use Rattle.std.proofs.lemmas.Bool.{cases_Bool, cases_eq, cases_lt}
pub use Rattle.std.proofs.lemmas.Bool.Decides.{nat_tests}
pub use Rattle.mic_words.specs.Prelude.{is_negative}
pub use Rattle.micro_word.specs.Prelude.{AreSlots, IsSlot, addr_bits, fits_side, is_next, jam_bits, names, row}
pub use Rattle.micro_word.specs.declared.statement.AluOp.{AluOp}
pub use Rattle.micro_word.specs.declared.statement.BusSource.{BusSource}
pub use Rattle.micro_word.specs.declared.statement.Mem.{Mem}
pub use Rattle.micro_word.specs.declared.statement.PlacedNext.{PlacedNext}
pub use Rattle.mic_alu.specs.Prelude.{controls_of, enabled, gates}
pub use Rattle.console_port.specs.Prelude.{Untaken, World, after_write, console_at}
unfoldable pub use Rattle.console_port.specs.Prelude.{given_after, read_refusal, untaken_after}
pub use Rattle.mic_datapath.specs.Prelude.{LetsBytesWait, arrived, is_read, jammed, memory_refusal, next_address, sampled, written}
pub use Rattle.mic_datapath.specs.declared.ports.Ports.{Ports}
