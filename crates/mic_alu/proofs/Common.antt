-- The words of other crates that these proofs use.
pub use Rattle.std.proofs.Common.{Bool, add-zero, ap, arith, cond, false, if◌then◌else◌, max, min, pow_pos, refl, suc, sym, true, w32, zero, ℕ, ⊎_elim, ◌%◌}
pub use Rattle.std.proofs.Common.{◌&&◌, ◌*◌, ◌+◌, ◌-◌, ◌/◌, ◌<◌, ◌^◌, ◌∙◌, ◌≡◌, ◌≤◌}
pub use Rattle.std.proofs.lemmas.Nat.{and_le_l, and_le_r, and_mask, or_lt, xor_lt}
pub use Rattle.std.specs.Int.{bit_at}
pub use Rattle.std.specs.Int.Bits.{bit_and, bit_or, or_zero_r, xor_add_and, xor_zero_r}
unfoldable pub use Rattle.mic_words.specs.Prelude.{wrap}
pub use Rattle.micro_word.specs.declared.statement.AluOp.{AluOp}
pub use Rattle.mic_alu.specs.Prelude.{AreHandedOn, before, carry_to, combined, controls_of, enabled, gate, gates, hands_on, left_at, right_at, slice_bit}
pub use Rattle.mic_alu.specs.Prelude.{slice_carry}
pub use Rattle.mic_alu.specs.declared.wires.Wires.{Wires}
