-- The words of other crates that these proofs use.
pub use Rattle.std.proofs.Common.{All, Bool, Err, IfErr, IfOk, IsSome, IsSomeAnd, List, None, Ok, Option, Result, Some, [], ap, append-nil, append_assoc, arith}
pub use Rattle.std.proofs.Common.{cond, drop, false, inl, inr, is_some, le-ltb, leb-false, leb-true, length, length-append, ltb-false, map, nat_le, nat_lt, not}
pub use Rattle.std.proofs.Common.{option_and_then, option_map, refl, replicate, subst, suc, sym, take, take-append-drop, true, zero, ℕ, ◌++◌, ◌+◌, ◌<◌, ◌||◌}
pub use Rattle.std.proofs.Common.{◌∙◌, ◌∷◌, ◌≡◌, ◌≤◌, ◌⊎◌}
pub use Rattle.std.proofs.lemmas.Bool.{lt-leb, not-false, not_from_true, or_from, or_parts}
pub use Rattle.std.proofs.lemmas.List.Elements.{All-append, All-cons, All-nil}
pub use Rattle.std.proofs.lemmas.Result.{err_from_is_err_and}
pub use Rattle.std.proofs.option.Match.{None-if_not_some}
pub use Rattle.std.specs.List.{slice_get, zip}
pub use Rattle.std.specs.Prelude.{⊤}
pub use Rattle.source_text.specs.Prelude.{Agrees, FailsBy, IsReadAsSpelled, Leads, Makes, StopsAt, bound, contents, place_below, place_of_name}
pub use Rattle.ijvm_program.specs.Prelude.{IsProgram, IsUnit, NamesPosition, ProgramView, UnitView, most_names}
pub use Rattle.ijvm_program.specs.declared.line.CodeLine.{CodeLine}
pub use Rattle.ijvm_program.specs.declared.line.Constant.{Constant}
pub use Rattle.ijvm_program.specs.declared.line.Label.{Label}
pub use Rattle.ijvm_program.specs.declared.line.Operation.{Operation}
pub use Rattle.ijvm_tokens.specs.declared.token.Token.{Token}
pub use Rattle.ijvm_line.specs.Prelude.{IsForm, access_instr, increment_instr, instruction_of, line_from, made, mark_place, parameters, word}
pub use Rattle.ijvm_line.specs.declared.content.Content.{Content}
pub use Rattle.ijvm_line.specs.declared.form.Form.{Form}
pub use Rattle.ijvm_line.specs.declared.instruction.Instruction.{Instruction}
pub use Rattle.ijvm_line.specs.declared.line.LineFault.{LineFault}
pub use Rattle.ijvm_line.specs.declared.place.Mark.{Mark}
pub use Rattle.ijvm_line.specs.declared.place.Place.{Place}
pub use Rattle.ijvm_asm.specs.declared.draft.DraftLine.{DraftLine}
pub use Rattle.ijvm_asm.specs.declared.error.AsmError.{AsmError}
