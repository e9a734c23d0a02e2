-- The words of other crates that these proofs use.
pub use Rattle.std.proofs.Common.{Bool, FitsSigned, IfSome, List, None, Ok, Option, Some, [], ap, append-nil, append_assoc, arith, codes, cond, eqb-true, false}
pub use Rattle.std.proofs.Common.{inl, length, ltb-true, nat_lt, negsuc, not, option_map, pos, refl, subst, suc, sym, true, w64, zero, ℕ, ℤ, ◌%◌, ◌&&◌, ◌++◌}
pub use Rattle.std.proofs.Common.{◌+◌, ◌/◌, ◌<◌, ◌==◌, ◌^◌, ◌||◌, ◌∙◌, ◌∷◌, ◌≡◌, ◌≤◌}
pub use Rattle.std.proofs.lemmas.Bool.{agree_below_at, and_from, and_parts, cond_both, not-true}
pub use Rattle.std.proofs.lemmas.Bool.Decides.{nat_tests}
pub use Rattle.std.proofs.lemmas.Fmt.{length-decimal-le}
pub use Rattle.std.proofs.lemmas.List.Elements.{All-from_recursion}
pub use Rattle.std.proofs.lemmas.List.Folds.{list_all-append}
pub use Rattle.std.specs.Char.{digit_char}
pub use Rattle.std.specs.Fmt.{decimal, signed_decimal}
pub use Rattle.std.specs.List.{AllByRecursion, filter, list_all}
pub use Rattle.mic_words.specs.declared.machine.Machine.{Machine}
pub use Rattle.mic_words.specs.declared.machine.Machine.TheVariants.{Mic1, Mic2}
pub use Rattle.mic_base.specs.Prelude.{is_name_byte, signed_decimal_short}
unfoldable pub use Rattle.mic_base.specs.Prelude.{hex_text, number_of}
pub use Rattle.source_text.specs.Prelude.{AreBlank, begins_with, ends_with, named}
pub use Rattle.micro_word.specs.Prelude.{fits_side, has_operation, is_mixed, is_part, may_be_a, may_be_b, may_fetch, row}
pub use Rattle.micro_word.specs.declared.statement.AluOp.{AluOp}
pub use Rattle.micro_word.specs.declared.statement.BusSource.{BusSource}
pub use Rattle.micro_word.specs.declared.statement.Mem.{Mem}
pub use Rattle.micro_word.specs.declared.statement.Part.{Part}
pub use Rattle.micro_word.specs.declared.statement.Shift.{Shift}
pub use Rattle.micro_word.specs.declared.statement.Test.{Test}
pub use Rattle.mal_tokens.specs.Prelude.{IsLabelText, IsLexeme, IsTextOf, SpellsTokens, label_lexeme, may_end, number_lexeme, sign_lexeme, sign_text}
pub use Rattle.mal_tokens.specs.Prelude.{spelled_as, word_lexeme, word_text}
pub use Rattle.mal_tokens.specs.declared.sign.Sign.{Sign}
pub use Rattle.mal_tokens.specs.declared.token.Token.{Token}
pub use Rattle.mal_tokens.specs.declared.word.Word.{Word}
pub use Rattle.mal_line.specs.declared.chain.Assignment.{Assignment}
pub use Rattle.mal_line.specs.declared.content.Content.{Content}
pub use Rattle.mal_line.specs.declared.content.Parts.{Parts}
pub use Rattle.mal_line.specs.declared.line.Form.{Form}
pub use Rattle.mal_line.specs.declared.next.Next.{Next}
pub use Rattle.mal_line.specs.declared.operation.Operation.{Operation}
pub use Rattle.mal_line.specs.declared.tree.Tree.{Tree}
