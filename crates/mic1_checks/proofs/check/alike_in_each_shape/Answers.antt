use Rattle.mic1_checks.proofs.Common.{ℕ, Ok, inl, inr, subst, arith, slice_index_or, cases_lt, Shape, CarriesInstruction}
use Rattle.mic1_checks.proofs.Instructions.{more}
use Rattle.mic1_checks.proofs.Shapes.{SETTLED, any_shape, shapes}
use Rattle.mic1_checks.proofs.check.alike_in_each_shape.Goals as goal

pub loop-shape-preserved : goal.loop-shape-preserved
loop-shape-preserved c =
    let n = c.args.n in
    let store = c.args.stores.now.store.now.words in
    let other = c.args.stores.now.other.now.words in
    let entry = c.args.stores.now.entry in
    let entry' = c.args.stores.now.other_entry in
    let old = c.loop-shape.leaves.items in
    let new = c.instruction_alike.new.leaves.items in
    let kept = c.in_ok-finding.ensures.kept in
    record {
      each = λ k small. elim (cases_lt k c.loop-shape.shape-index) [
        | inl past ↦ more n (slice_index_or shapes k SETTLED) store other entry entry' old new kept (c.loop-shape.invariant.each k past)
        | inr next ↦
            subst (λ (j : ℕ). CarriesInstruction n (slice_index_or shapes j SETTLED) store other entry entry' new) (omega (arith, small, next))
            (c.in_ok-finding.ensures.carries (λ i. Ok (c.in-None.is i)))
      ];
      kept = λ x h. kept x (c.loop-shape.invariant.kept x h);
    }

pub returns-clause-carries : goal.returns-clause-carries
returns-clause-carries c done shape =
    let each = c.loop-shape.invariant.each in
    any_shape (λ (sh : Shape). CarriesInstruction c.args.n sh c.args.stores.now.store.now.words c.args.stores.now.other.now.words
    c.args.stores.now.entry c.args.stores.now.other_entry c.loop-shape.leaves.items)
    (each 0 (omega arith)) (each 1 (omega arith)) (each 2 (omega arith)) (each 3 (omega arith)) shape.byte shape.word
