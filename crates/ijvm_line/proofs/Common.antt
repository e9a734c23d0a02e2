-- The words of other crates that these proofs use.
pub use Rattle.std.proofs.Common.{Bool, Err, List, None, Ok, Option, Result, Some, [], ap, codes, false, find, if◌then◌else◌, inl, inr, option_and_then}
pub use Rattle.std.proofs.Common.{option_map, refl, subst, sym, true, ℕ, ℤ, ◌&&◌, ◌∙◌, ◌∷◌, ◌≡◌}
pub use Rattle.std.proofs.lemmas.Bool.{and_parts}
pub use Rattle.std.proofs.lemmas.Option.{option_and_then_some}
pub use Rattle.std.proofs.lemmas.Slice.Eq.{bytes_eq-Decides}
pub use Rattle.std.specs.List.{filter_map}
pub use Rattle.std.specs.Str.{bytes_eq, str_eq_ignore_ascii_case, str_to_ascii_lowercase}
pub use Rattle.source_text.specs.Prelude.{chosen, find_passes, mapped}
pub use Rattle.ijvm_instr.specs.Prelude.{mnemonic_of}
pub use Rattle.ijvm_instr.specs.declared.instr.Instr.{Instr}
pub use Rattle.ijvm_instr.specs.declared.instr.TheConstants.{INSTRUCTIONS}
pub use Rattle.ijvm_tokens.specs.declared.sign.Sign.{Sign}
pub use Rattle.ijvm_tokens.specs.declared.token.Token.{Token}
pub use Rattle.ijvm_line.specs.Reading.{increment}
pub use Rattle.ijvm_line.specs.declared.content.Content.{Content}
pub use Rattle.ijvm_line.specs.declared.form.Form.{Form}
pub use Rattle.ijvm_line.specs.declared.line.LineFault.{LineFault}
pub use Rattle.ijvm_line.specs.declared.mnemonic.Kind.{Kind}
pub use Rattle.ijvm_line.specs.declared.place.Mark.{Mark}
pub use Rattle.ijvm_line.specs.declared.place.Place.{Place}
pub use Rattle.ijvm_line.specs.declared.statement.Operand.{Operand}
pub use Rattle.ijvm_line.specs.declared.statement.Statement.{Statement}
