-- The words of other crates that these proofs use.
pub use Rattle.std.proofs.Common.{Bool, Contains, Err, IfErr, IfOk, IsTrue, List, None, Ok, Option, Result, Some, [], ap, append-nil, arith, bit_or, cond, drop}
pub use Rattle.std.proofs.Common.{drop-cons, eqb-true, false, get_or, inl, inr, is_some, length, length-drop, lt-ltb, max, nat_lt, negsuc, not, option_and_then}
pub use Rattle.std.proofs.Common.{option_map, pos, refl, subst, suc, sym, take, take-append-drop, take_all, true, zero, ℕ, ℤ, ◌&&◌, ◌++◌, ◌+◌, ◌<◌, ◌==◌, ◌||◌}
pub use Rattle.std.proofs.Common.{◌∙◌, ◌∷◌, ◌≡◌, ◌≢◌, ◌≤◌, ◌⊎◌}
pub use Rattle.std.proofs.Math.Seq.{drop-append_seam, take-append_seam}
pub use Rattle.std.proofs.lemmas.Bool.{and_parts, cases_lt, or_parts, or_right}
pub use Rattle.std.proofs.lemmas.Bool.Decides.{nat_tests}
pub use Rattle.std.proofs.lemmas.List.{take_rest}
pub use Rattle.std.proofs.lemmas.List.Sums.{fails_before_first}
pub use Rattle.std.proofs.lemmas.Nat.{or_lt}
pub use Rattle.std.proofs.lemmas.Nat.Bits.{bit_at-lt, bit_at_or}
pub use Rattle.std.specs.Int.{bit_at}
pub use Rattle.std.specs.List.{list_all, list_any, onto_first, prefix_len}
pub use Rattle.mic_words.specs.declared.machine.Machine.{Machine}
pub use Rattle.mic_words.specs.declared.machine.Machine.TheVariants.{Mic1, Mic2}
pub use Rattle.source_text.specs.Prelude.{begins_with, bound, chosen, mapped, run_all, run_passes}
pub use Rattle.micro_word.specs.Prelude.{fits_side, has_operation, idle, is_h, is_mixed, is_part, loads, may_be_a, may_be_b, may_fetch, register_bit, row}
pub use Rattle.micro_word.specs.declared.destination.Destination.{Destination}
pub use Rattle.micro_word.specs.declared.statement.AluOp.{AluOp}
pub use Rattle.micro_word.specs.declared.statement.BusSource.{BusSource}
pub use Rattle.micro_word.specs.declared.statement.Mem.{Mem}
pub use Rattle.micro_word.specs.declared.statement.Part.{Part}
pub use Rattle.micro_word.specs.declared.statement.Shift.{Shift}
pub use Rattle.micro_word.specs.declared.statement.Test.{Test}
pub use Rattle.mal_tokens.specs.declared.token.Token.{Token}
pub use Rattle.mal_tokens.specs.declared.word.Word.{Word}
pub use Rattle.mal_line.specs.declared.chain.Assignment.{Assignment}
pub use Rattle.mal_line.specs.declared.chain.Tail.{Tail}
pub use Rattle.mal_line.specs.declared.content.Content.{Content}
pub use Rattle.mal_line.specs.declared.content.Parts.{Parts}
pub use Rattle.mal_line.specs.declared.expression.Operand.{Operand}
pub use Rattle.mal_line.specs.declared.gathering.Gathered.{Gathered}
pub use Rattle.mal_line.specs.declared.gathering.PendingIf.{PendingIf}
pub use Rattle.mal_line.specs.declared.line.Form.{Form}
pub use Rattle.mal_line.specs.declared.line.LineFault.{LineFault}
pub use Rattle.mal_line.specs.declared.next.Next.{Next}
pub use Rattle.mal_line.specs.declared.operation.Operation.{Operation}
pub use Rattle.mal_line.specs.declared.piece.Piece.{Piece}
pub use Rattle.mal_line.specs.declared.tree.Tree.{Tree}
