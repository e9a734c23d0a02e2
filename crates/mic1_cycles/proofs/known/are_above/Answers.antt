use Rattle.mic1_cycles.proofs.Common.{◌≤◌, ◌<◌, List, length, refl, take_all, subst, arith, All, All-more, Write}
use Rattle.mic1_cycles.proofs.known.are_above.Goals as goal

pub loop-write-preserved : goal.loop-write-preserved
loop-write-preserved c e fits knows =
    let ws = c.args.writes.now in
    let i = c.loop-write.write-index in
    let none : Write = record { at = 0; value = 0 } in
    let more : i < length ws = omega (arith, c.loop-write-test.true) in
    All-more (λ (w : Write). 0x8000 ≤ e.word w.at) ws i none more (c.loop-write.invariant e fits knows) (c.if-not-is_at_least.ensures refl e fits knows)

pub returns : goal.returns
returns c is e fits knows =
    let ws = c.args.writes.now in
    subst (λ (xs : List Write). All (λ w. 0x8000 ≤ e.word w.at) xs) (take_all c.loop-write.write-index ws (omega (arith, c.loop-write-test.false))) (c.loop-write.invariant e fits knows)
