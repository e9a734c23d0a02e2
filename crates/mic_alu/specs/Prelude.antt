-- The words of this crate, for those that use it.
pub use Rattle.mic_alu.specs.Gates.{combined, controls_of, enabled, gates}
pub use Rattle.mic_alu.specs.Rounds.{AreHandedOn, before}
pub use Rattle.mic_alu.specs.Slices.{carry_to, gate, hands_on, left_at, right_at, slice_bit, slice_carry}
