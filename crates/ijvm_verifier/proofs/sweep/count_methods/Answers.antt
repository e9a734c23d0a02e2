use Rattle.ijvm_verifier.proofs.Common.{◌≡◌, ℕ, arith, subst, length, AreMethodsBelow}
use Rattle.ijvm_verifier.proofs.Swept.{methods_none, methods_add, methods_skip, methods_all}
use Rattle.ijvm_verifier.proofs.sweep.count_methods.Goals as goal
use Rattle.ijvm_verifier.proofs.sweep.count_methods.Goals.{then-is_entry, else-is_entry}

pub loop-at-init : goal.loop-at-init
loop-at-init c = methods_none c.args.image.now

pub loop-at-preserved : goal.loop-at-preserved
loop-at-preserved c =
    elim c.if-is_entry.branch [
      | then-is_entry w ↦ rw w.count-is (methods_add c.args.image.now c.loop-at.at c.loop-at.count c.loop-at.invariant (c.is_entry.ensures.yes w.if-is_entry.true))
      | else-is_entry w ↦ rw w.count-is (methods_skip c.args.image.now c.loop-at.at c.loop-at.count c.loop-at.invariant (c.is_entry.ensures.no w.if-is_entry.false))
    ]

pub returns : goal.returns
returns c =
    let end : c.loop-at.at ≡ length c.args.image.now.text = omega (arith, c.requires.closed.long) in
    methods_all c.args.image.now c.args.seen.now c.loop-at.count c.requires.closed (subst (λ (n : ℕ). AreMethodsBelow c.args.image.now n c.loop-at.count) end c.loop-at.invariant)
