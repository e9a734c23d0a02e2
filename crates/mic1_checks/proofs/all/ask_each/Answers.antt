use Rattle.mic1_checks.proofs.Common.{ℕ, inl, inr, subst, arith, slice_index_or, cases_lt, CarriesInstruction, plain}
use Rattle.mic1_checks.proofs.Instructions.{more}
use Rattle.mic1_checks.proofs.all.ask_each.Goals as goal

pub loop-n-preserved : goal.loop-n-preserved
loop-n-preserved c =
    let all = c.args.all.now in
    let store = c.args.stores.now.store.now.words in
    let other = c.args.stores.now.other.now.words in
    let entry = c.args.stores.now.entry in
    let entry' = c.args.stores.now.other_entry in
    let old = c.loop-n.search.leaves.items in
    let new = c.ask.new.search.leaves.items in
    let asked = c.in_ok-ask.ensures in
    record {
      each = λ none k small shape. elim (cases_lt k c.loop-n.n-index) [
        | inl past ↦
            more (slice_index_or all k (plain 0 0)) shape store other entry entry' old new asked.kept
            (c.loop-n.invariant.each (asked.first none) k past shape)
        | inr next ↦
            subst (λ (j : ℕ). CarriesInstruction (slice_index_or all j (plain 0 0)) shape store other entry entry' new) (omega (arith, small, next))
            (asked.carries none shape)
      ];
      kept = λ x h. asked.kept x (c.loop-n.invariant.kept x h);
      first = λ none. c.loop-n.invariant.first (asked.first none);
    }
