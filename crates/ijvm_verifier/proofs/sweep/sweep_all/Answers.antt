use Rattle.ijvm_verifier.proofs.Common.{◌≡◌, ◌*◌, ◌++◌, ◌∷◌, [], ◌∙◌, ℕ, arith, ap, subst, length, length-append, IsSwept}
use Rattle.ijvm_verifier.proofs.Swept.{none_overlap, none_after, kinds_push}
use Rattle.ijvm_verifier.proofs.sweep.sweep_all.Goals as goal

pub loop-at-preserved : goal.loop-at-preserved
loop-at-preserved c =
    let is : c.push.new.self.items ≡ c.loop-at.kinds.items ++ c.kind_of.result ∷ [] = c.in_ok-push.ensures.items in
    record {
      swept = subst (λ (n : ℕ). IsSwept c.args.image.now n c.in_ok-end-2.end) (omega arith) c.in_ok-end-2.ensures.ok;
      long = ap length is ∙ omega (arith, length-append c.loop-at.kinds.items (c.kind_of.result ∷ []), c.loop-at.invariant.long);
      kinds = rw is (kinds_push c.args.image.now c.loop-at.kinds.items c.loop-at.at c.kind_of.result c.loop-at.invariant.long c.loop-at.invariant.kinds c.kind_of.ensures);
    }

pub returns-clause-apart : goal.returns-clause-apart
returns-clause-apart c =
    let end : 2 * c.loop-at.at ≡ 2 * length c.args.image.now.text = omega (arith, c.requires.closed.long) in
    none_overlap c.args.image.now c.args.seen.now c.loop-at.end c.requires.closed (subst (λ (n : ℕ). IsSwept c.args.image.now n c.loop-at.end) end c.loop-at.invariant.swept)

pub returns-clause-kinds : goal.returns-clause-kinds
returns-clause-kinds c = record {
  long = omega (arith, c.loop-at.invariant.long, c.requires.closed.long);
  each = c.loop-at.invariant.kinds;
  beyond = λ at past. none_after c.args.image.now c.args.seen.now at c.requires.closed past;
}
