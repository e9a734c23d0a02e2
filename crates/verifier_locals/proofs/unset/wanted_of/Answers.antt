use Rattle.verifier_locals.proofs.Common.{◌≡◌, ◌∙◌, ◌++◌, ◌∷◌, [], length, length-append, ap, arith, subst, ℕ, AreWanted}
use Rattle.verifier_locals.proofs.Unsets.{wanted_push, wanted_skip, wanted_sorted}
use Rattle.verifier_locals.proofs.unset.wanted_of.Goals as goal
use Rattle.verifier_locals.proofs.unset.wanted_of.Goals.{in-Some+in_ok-push, in_default}

pub loop-at-preserved : goal.loop-at-preserved
loop-at-preserved c =
    elim c.match-wanted_at.branch [
      | in-Some+in_ok-push w ↦
          let is : c.match-wanted_at.wanted.items ≡ c.loop-at.wanted.items ++ w.in-Some.here ∷ [] = ap (λ v. v.items) w.wanted-is ∙ w.in_ok-push.ensures.items in
          record {
            wanted = rw is (wanted_push c.args.image.now c.args.seen.now c.args.graph.now c.loop-at.at c.loop-at.wanted.items w.in-Some.here c.loop-at.invariant.wanted w.in-Some.ensures.only w.in-Some.ensures.small w.in-Some.ensures.all);
            few = rw is (omega (arith, length-append c.loop-at.wanted.items (w.in-Some.here ∷ []), c.loop-at.invariant.few));
          }
      | in_default w ↦
          let is : c.match-wanted_at.wanted.items ≡ c.loop-at.wanted.items = ap (λ v. v.items) w.wanted-is in
          record {
            wanted = rw is (wanted_skip c.args.image.now c.args.seen.now c.args.graph.now c.loop-at.at c.loop-at.wanted.items c.loop-at.invariant.wanted (rw w.in_default.is at c.wanted_at.ensures.all));
            few = rw is (omega (arith, c.loop-at.invariant.few));
          }
    ]

pub returns-clause-wanted : goal.returns-clause-wanted
returns-clause-wanted c =
    wanted_sorted c.args.image.now c.args.seen.now c.args.graph.now (length c.args.seen.now) c.loop-at.wanted.items _ c.sort.ensures.permutation
    (let end : c.loop-at.at ≡ length c.args.seen.now = omega arith in
    subst (λ (n : ℕ). AreWanted c.args.image.now c.args.seen.now c.args.graph.now n c.loop-at.wanted.items) end c.loop-at.invariant.wanted)
