use Rattle.verifier_locals.proofs.Common.{rules, arith, ◌≡◌, ◌<◌, length, subst, Option, ℕ, Some, None, IfSome, slice_get-get_or, IsPast}
use Rattle.verifier_locals.proofs.Shortcuts.{past_plain}
use Rattle.verifier_locals.proofs.shortcut.past.Goals as goal

pub returns-in-Some : goal.returns-in-Some
returns-in-Some c = λ from before.
    let way : c.args.way ≡ Some c.in_ok-at.at = search rules in
    let lt : c.in_ok-at.at < length c.args.graph.now = subst (λ (w : Option ℕ). IfSome w (λ at. at < length c.args.graph.now)) way c.requires.inside in
    rw c.first_way.ensures
    (past_plain c.args.graph.now c.args.short.now c.in_ok-at.at c.in-Some.field-0 _ _ c.requires.short
    (slice_get-get_or c.args.graph.now c.in_ok-at.at (record { next = None; jump = None; reads = None; stores = None }) lt)
    c.in-Some.ensures
    (slice_get-get_or c.args.short.now c.in_ok-at.at (record { next = None; jump = None; reads = None; stores = None }) (omega (arith, c.requires.short.long)))
    from (subst (λ (w : Option ℕ). IsPast c.args.graph.now from w) way before))
