use Rattle.ijvm_verifier.proofs.Common.{◌≡◌, ℕ, arith, subst, length, IsCounted}
use Rattle.ijvm_verifier.proofs.Counts.{counted_all}
use Rattle.ijvm_verifier.proofs.count.count_locals.Goals as goal

pub returns-clause-counted : goal.returns-clause-counted
returns-clause-counted c =
    let end : c.loop-at.at ≡ length c.args.image.now.text = omega (arith, c.requires.closed.long) in
    counted_all c.args.image.now c.args.seen.now c.loop-at.count c.requires.closed (subst (λ (n : ℕ). IsCounted c.args.image.now n c.loop-at.count) end c.loop-at.invariant.counted)
