use Rattle.tiny_names.proofs.Common.{◌∙◌, ap, sym, first, term_faults, lookup}
use Rattle.tiny_draft.specs.Prelude.{term_tree}
use Rattle.tiny_names.proofs.Firsts.{first_none, first_some, steps_at}
use Rattle.tiny_names.proofs.expr.+faults.Goals as goal

pub sum_fault-returns-in-Some-term_fault : goal.sum_fault-returns-in-Some-term_fault
sum_fault-returns-in-Some-term_fault t c =
    let known = lookup c.args.functions.now in
    let seen = c.args.seen.now in
    let s = c.step-item.result in
    let at = steps_at known seen c.items-step-items.result.now c.loop-step.step-index s c.loop-step-test.true c.step-item.is in
    first_some (term_faults known seen (term_tree s.term)) _ _ (sym c.in-Some-term_fault.is ∙ c.term_fault-in-loop-step.ensures)
    ∙ (sym (ap first at) ∙ sym c.loop-step.invariant)

pub sum_fault-loop-step-preserved : goal.sum_fault-loop-step-preserved
sum_fault-loop-step-preserved t c =
    let known = lookup c.args.functions.now in
    let seen = c.args.seen.now in
    let s = c.step-item.result in
    let at = steps_at known seen c.items-step-items.result.now c.loop-step.step-index s c.loop-step-test.true c.step-item.is in
    c.loop-step.invariant ∙ (ap first at
    ∙ first_none (term_faults known seen (term_tree s.term)) _ (sym c.in_default-term_fault.is ∙ c.term_fault-in-loop-step.ensures))
