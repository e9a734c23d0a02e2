-- The words of this crate, for those that use it.
pub use Rattle.ijvm_instr.specs.Halves.{byte_below, high, low, size_least, whole_half}
pub use Rattle.ijvm_instr.specs.Instructions.{AreInRange, IsInstr, SpellsInstr, StandAt, begun_at, mnemonic_of, operand_bytes, prefix, row_of, size_of, spelling, target, two_bytes, whole, word_of}
unfoldable pub use Rattle.ijvm_instr.specs.Instructions.{instr_at, of_bytes}
pub use Rattle.ijvm_instr.specs.Jumps.{HasLines, Jump, distance_in, distances, first_far, is_far, jumps_of}
pub use Rattle.ijvm_instr.specs.Text.{instr_text}
