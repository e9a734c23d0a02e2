-- The words of other crates that these proofs use.
pub use Rattle.std.proofs.Common.{Bool, Contains, IfSome, List, None, Option, Some, [], ap, arith, cond, eq-eqb, inl, inr, length, length-append, length-set}
pub use Rattle.std.proofs.Common.{max, ne_eqb, refl, rules, slice_get, slice_index_or, slice_set, subst, suc, sym, vec_len, w64, zero, ℕ, ◌%◌, ◌*◌, ◌++◌, ◌+◌}
pub use Rattle.std.proofs.Common.{◌-◌, ◌/◌, ◌<◌, ◌==◌, ◌^◌, ◌↔◌, ◌∙◌, ◌∷◌, ◌≡◌, ◌≢◌, ◌≤◌, ◌⊎◌}
pub use Rattle.std.proofs.lemmas.Bool.{cases_eq, cases_lt}
pub use Rattle.std.proofs.lemmas.List.Elements.{Contains-append_left, Contains-push, Contains-push_cases}
pub use Rattle.std.proofs.lemmas.Nat.{le_or_l}
pub use Rattle.std.proofs.lemmas.Nat.Bits.{bit_at-lt, bit_at-zero, bit_at_clear_other, bit_at_clear_same, bit_at_or, bit_at_set_other, bit_at_set_same}
pub use Rattle.std.proofs.lemmas.Option.{none-some, same_Some, slice_get-get_or, slice_get_read, slice_get_within}
pub use Rattle.std.proofs.lemmas.Result.{on_ok_weaker}
pub use Rattle.std.specs.Int.{bit_at}
pub use Rattle.std.specs.List.Sorted.{IsPermutation}
pub use Rattle.ijvm_instr.specs.Prelude.{size_of}
pub use Rattle.ijvm_instr.specs.declared.row.Row.{Row}
pub use Rattle.ijvm_image.specs.Prelude.{ImageView}
pub use Rattle.verifier_facts.specs.Prelude.{Arrival, GoesOn, HasRow, Into, IsOwn, IsReachedMethod, IsTrueOf, MayCarry, On, Reached, Start, Then, arrival}
pub use Rattle.verifier_facts.specs.Prelude.{left_unset}
pub use Rattle.verifier_facts.specs.declared.error.VerifyError.TheVariants.{UnsetLocal}
pub use Rattle.verifier_reach.specs.Prelude.{IsChecked, IsClosed, get_set_other, get_set_same, kept_at, kept_of, method_inside}
pub use Rattle.verifier_reach.specs.declared.kept.Kept.{Kept}
pub use Rattle.verifier_locals.specs.Prelude.{AreOlder, AreSet, AreWanted, Begin, Carries, Has, IsEndAt, IsGraph, IsHeld, IsIn, IsInside, IsMarked, IsNodeAt}
pub use Rattle.verifier_locals.specs.Prelude.{IsNodeOf, IsPassed, IsPast, IsPlain, IsReady, IsShort, IsShortOf, IsTracing, LeadsTo, MarksMore, Pass, Passes}
pub use Rattle.verifier_locals.specs.Prelude.{ReadsNone, ReadsUnset, Skip, Skips, Stay, Wants, blanks, first_way, held, held_at}
pub use Rattle.verifier_locals.specs.declared.graph.Node.{Node}
pub use Rattle.verifier_locals.specs.declared.local_set.LocalSet.{LocalSet}
pub use Rattle.verifier_locals.specs.declared.trace.Mark.{Mark}
pub use Rattle.verifier_locals.specs.declared.trace.Trace.{Trace}
pub use Rattle.verifier_locals.specs.declared.unset.Wanted.{Wanted}
