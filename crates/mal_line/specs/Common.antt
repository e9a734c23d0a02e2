-- The words of other crates that this one uses.
pub use Rattle.std.specs.List.{list_all, list_any, prefix_len, slice_split}
pub use Rattle.std.specs.Option.{option_map_or}
pub use Rattle.mic_words.specs.declared.machine.Machine.{Machine}
pub use Rattle.mic_words.specs.declared.machine.Machine.TheVariants.{Mic1, Mic2}
pub use Rattle.micro_word.specs.Prelude.{idle, is_h, is_part, loads, register_bit}
pub use Rattle.micro_word.specs.declared.destination.Destination.{Destination}
pub use Rattle.micro_word.specs.declared.statement.AluOp.{AluOp}
pub use Rattle.micro_word.specs.declared.statement.BusSource.{BusSource}
pub use Rattle.micro_word.specs.declared.statement.Mem.{Mem}
pub use Rattle.micro_word.specs.declared.statement.Part.{Part}
pub use Rattle.micro_word.specs.declared.statement.Shift.{Shift}
pub use Rattle.micro_word.specs.declared.statement.Test.{Test}
pub use Rattle.mal_tokens.specs.declared.token.Token.{Token}
pub use Rattle.mal_tokens.specs.declared.word.Word.{Word}
