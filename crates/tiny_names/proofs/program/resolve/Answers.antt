use Rattle.tiny_names.proofs.Common.{◌≡◌, ℕ, List, [], ap, sym, subst, map, ◌∙◌, Option, Some, err_from_is_err_and, Function, function_tree, Signature}
use Rattle.tiny_names.proofs.Common.{all_faults, first, function_faults, lookup, resolved, IsFirst}
use Rattle.tiny_draft.specs.View as draft_view
use Rattle.tiny_names.specs.declared.fault.Fault.TheVariants as faults
use Rattle.tiny_names.proofs.Wholes.{fault_in, is_resolved, no_fault, no_main}
use Rattle.tiny_names.proofs.program.resolve.Goals as goal

pub returns-in_err-one-clause-err : goal.returns-in_err-one-clause-err
returns-in_err-one-clause-err c =
    let p = err_from_is_err_and c.from_residual-in_err-one.result c.from_residual-in_err-one.ensures.1 in
    let e = c.in_err-one.field-0.0 in
    let f = c.function-item.result in
    rw (p.1, p.2) (subst (λ (l : List Function). IsFirst e (all_faults (map draft_view.function_tree l))) c.items-written.ensures
    (fault_in c.in_ok-table.table.items c.items-written.result.now c.in_ok-table.ensures c.loop-function.function-index f e
    c.loop-function-test.true c.function-item.is c.loop-function.invariant.same
    (subst (λ (t : List (Option Signature)). IsFirst e (function_faults (lookup t) c.loop-function.function-index (draft_view.function_tree f))) c.deref.ensures.value
    (subst (λ (n : ℕ). IsFirst e (function_faults (lookup c.deref.result.now) n (draft_view.function_tree f))) c.loop-function.invariant.count c.in_err-one.ensures.err))))

pub returns-in-None-clause-err : goal.returns-in-None-clause-err
returns-in-None-clause-err c =
    subst (λ (l : List Function). first (all_faults (map draft_view.function_tree l)) ≡ Some faults.NoMain) c.items-written.ensures
    (no_main c.in_ok-table.table.items c.items-written.result.now c.in_ok-table.ensures c.loop-function.function-index
    c.loop-function-test.false c.loop-function.invariant.same
    (ap (λ (t : List (Option Signature)). lookup t 0) (sym c.deref-2.ensures.value) ∙ (sym c.called.ensures ∙ c.in-None.is)))

pub returns-clause-fits : goal.returns-clause-fits
returns-clause-fits c =
    subst (λ (l : List Function). all_faults (map draft_view.function_tree l) ≡ []) c.items-written.ensures
    (no_fault c.in_ok-table.table.items c.items-written.result.now c.in_ok-table.ensures c.loop-function.function-index
    c.loop-function-test.false c.loop-function.invariant.same c.in-Some.main
    (ap (λ (t : List (Option Signature)). lookup t 0) (sym c.deref-2.ensures.value) ∙ (sym c.called.ensures ∙ c.in-Some.is)))

pub returns-clause-ok : goal.returns-clause-ok
returns-clause-ok c =
    c.new.ensures ∙ subst (λ (l : List Function). record { functions = map function_tree c.loop-function.found; main = c.in-Some.main.place } ≡ resolved (map draft_view.function_tree l)) c.items-written.ensures
    (is_resolved c.in_ok-table.table.items c.items-written.result.now c.in_ok-table.ensures c.loop-function.function-index (map function_tree c.loop-function.found) c.in-Some.main
    c.loop-function-test.false
    (ap (λ (t : List (Option Signature)). lookup t 0) (sym c.deref-2.ensures.value) ∙ (sym c.called.ensures ∙ c.in-Some.is)) c.loop-function.invariant.found)
