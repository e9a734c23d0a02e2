-- The words of other crates that these proofs use.
pub use borrow.Author.Tests.{true-eqb}
pub use Rattle.std.proofs.Common.{Bool, IfSome, IsTrue, List, None, Option, Some, [], ap, arith, bit_and, bit_or, cond, drop, eqb, false, get_or, if◌then◌else◌}
pub use Rattle.std.proofs.Common.{length, ltb, nat_lt, refl, rules, set, slice_get, slice_index, slice_index_or, subst, suc, sym, take, take_all, true, zero, ℕ}
pub use Rattle.std.proofs.Common.{◌%◌, ◌&&◌, ◌*◌, ◌++◌, ◌+◌, ◌-◌, ◌/◌, ◌<◌, ◌==◌, ◌^◌, ◌∙◌, ◌∷◌, ◌≡◌, ◌≤◌}
pub use Rattle.std.proofs.Math.Nat.{add-mul, add-zero, mul-add, mul_assoc, mul_comm, zero-mul}
pub use Rattle.std.proofs.lemmas.Bool.Decides.{Decides-and, Decides-eqb, Decides-like}
pub use Rattle.std.proofs.lemmas.List.{get_or_append_left, get_or_push, get_or_read, length_push}
pub use Rattle.std.proofs.lemmas.List.Elements.{All-head, All-tail}
pub use Rattle.std.proofs.lemmas.List.Sums.{sum_by-cons, sum_by-insert, sum_by-remove, sum_by-set, sum_by_more, sum_by_push}
pub use Rattle.std.proofs.lemmas.Nat.{and-not, and_assoc, and_comm, and_le_l, and_mask, mul-le, mul-mod_first, mul-mod_second, or_of_32}
pub use Rattle.std.proofs.lemmas.Option.{get_or_from_slice_get, slice_get-get_or, slice_get_read, slice_get_within}
pub use Rattle.std.proofs.lemmas.Result.{IfOk-weaker}
pub use Rattle.std.proofs.lemmas.Slice.Eq.{slice_eq-Decides}
pub use Rattle.std.specs.Bool.{Decides}
pub use Rattle.std.specs.Int.Bits.{and_self, and_zero_l, or_add_and}
pub use Rattle.std.specs.List.{All, insert, remove, sum_by}
pub use Rattle.mic_words.specs.Prelude.{minus, negation, plus}
unfoldable pub use Rattle.mic_words.specs.Prelude.{half, signed_byte, wrap}
pub use Rattle.micro_word.specs.Prelude.{alu}
pub use Rattle.micro_word.specs.declared.statement.AluOp.{AluOp}
pub use Rattle.micro_terms.specs.Prelude.{AreOrdered, Environment, Fits, HasEnvironments, Holds, IsIn, IsNode, IsWithin, NamesBelow, NamesKindBelow}
pub use Rattle.micro_terms.specs.Prelude.{NamesSumBelow, end_of, weight, word_of_kind}
unfoldable pub use Rattle.micro_terms.specs.Prelude.{share, side, value}
pub use Rattle.micro_terms.specs.Ranges.{IsLimited, is_byte_node}
unfoldable pub use Rattle.micro_terms.specs.Ranges.{limit_of}
pub use Rattle.micro_terms.specs.declared.node.Kind.{Kind}
pub use Rattle.micro_terms.specs.declared.node.Node.{Node}
pub use Rattle.micro_terms.specs.declared.node.Node.TheVariants.{Free, Other, Sum}
pub use Rattle.micro_terms.specs.declared.part.Part.{Part}
pub use Rattle.micro_terms.specs.declared.range.Range.{Range}
pub use Rattle.micro_terms.specs.declared.term.Term.{Term}
