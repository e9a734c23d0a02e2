-- The words of other crates that this one uses.
pub use Rattle.std.specs.List.{slice_get, zip}
pub use Rattle.source_text.specs.Prelude.{FailsBy, Grammar, Leads, LineRefusals, Parser, StaysBy, Step, add_said, contents, place_of_name}
pub use Rattle.ijvm_program.specs.Prelude.{ProgramView, UnitView, most_names}
pub use Rattle.ijvm_program.specs.declared.line.Constant.{Constant}
pub use Rattle.ijvm_program.specs.declared.line.Label.{Label}
pub use Rattle.ijvm_program.specs.declared.line.Operation.{Operation}
pub use Rattle.ijvm_tokens.specs.Prelude.{ijvm, read}
pub use Rattle.ijvm_tokens.specs.declared.token.Token.{Token}
pub use Rattle.ijvm_line.specs.Prelude.{LinesReadAsSpelled, LinesRefusedAsFaulty, access_instr, increment_instr, line_from, made, mark_place, parameters}
pub use Rattle.ijvm_line.specs.declared.content.Content.{Content}
pub use Rattle.ijvm_line.specs.declared.instruction.Instruction.{Instruction}
pub use Rattle.ijvm_line.specs.declared.line.LineFault.{LineFault}
pub use Rattle.ijvm_line.specs.declared.place.Mark.{Mark}
pub use Rattle.ijvm_line.specs.declared.place.Place.{Place}
