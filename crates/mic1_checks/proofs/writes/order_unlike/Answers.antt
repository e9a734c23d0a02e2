use Rattle.mic1_checks.proofs.Common.{◌<◌, ◌+◌, ◌∷◌, ℕ, List, Option, length, take, get_or, sym, ap, ◌∙◌, subst, arith, IfSome, remove, Holds, Write, Knows}
use Rattle.mic1_checks.proofs.Common.{written_by, LeaveAlike}
use Rattle.mic1_checks.proofs.Orders.{one_more}
use Rattle.mic1_checks.proofs.writes.order_unlike.Goals as goal

pub loop-place-preserved : goal.loop-place-preserved
loop-place-preserved c e fits knows words =
    let wanted = c.args.wanted.now in
    let left = c.loop-place.left.items in
    let k = c.loop-place.place in
    let found = c.in-Some.found in
    let none : Write = record { at = 0; value = 0 } in
    let within : k < length wanted = omega (arith, c.loop-place-test.true) in
    let IsFirst : List Write → ℕ → Type 0 =
    λ (xs : List Write) (p : ℕ). Holds c.args.nodes.now (λ e. Knows e c.args.known.now → LeaveAlike e xs (get_or wanted k none ∷ remove xs p)) in
    let first : IsFirst left found =
    subst (λ (xs : List Write). IsFirst xs found) c.deref.ensures.value
    (subst (λ (o : Option ℕ). IfSome o (IsFirst c.deref.result.now)) c.in-Some.is c.in_ok-found.ensures.first) in
    let before : List ℕ = written_by e.word (take k wanted) words in
    ap (λ (ws : List Write). written_by e.word ws (written_by e.word (take (k + 1) wanted) words)) c.remove.ensures.items
    ∙ (ap (λ (ys : List ℕ). written_by e.word (remove left found) ys) (one_more e.word wanted k none within words)
    ∙ (sym (first e fits knows before) ∙ c.loop-place.invariant e fits knows words))
