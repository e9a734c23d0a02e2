-- The words of other crates that this one uses.
pub use Rattle.mic_words.specs.Prelude.{is_negative, minus, plus}
pub use Rattle.mic_words.specs.declared.machine.Machine.{Machine}
pub use Rattle.mic_words.specs.declared.machine.Machine.TheVariants.{Mic1, Mic2}
pub use Rattle.console_port.specs.Prelude.{next_byte}
pub use Rattle.ijvm_instr.specs.Prelude.{instr_at, row_of, target, word_of}
pub use Rattle.ijvm_instr.specs.declared.instr.Instr.{Instr}
pub use Rattle.ijvm_instr.specs.declared.row.Cost.{Cost}
pub use Rattle.ijvm_instr.specs.declared.row.Cost.TheVariants.{Always, ByEntry, IfTaken}
pub use Rattle.ijvm_instr.specs.declared.row.Row.{Row}
pub use Rattle.ijvm_image.specs.Prelude.{ImageView, method_at}
pub use Rattle.ijvm_image.specs.declared.method.Method.{Method}
