use Rattle.mic1_checks.proofs.Common.{Ok, List, [], ◌∷◌, ◌++◌, sym, ◌∙◌, subst, arith, Contains, Contains-append_right, Fits, Counts, CarriesOver}
use Rattle.mic1_checks.proofs.Leaves.{either, more}
use Rattle.mic1_checks.proofs.tree.+explore.Goals as goal

pub returns-in_ok-no-in-Asks-clause-carries : goal.returns-in_ok-no-in-Asks-clause-carries
returns-in_ok-no-in-Asks-clause-carries t c done e fits knows signs signs' answered =
    let b = c.args.start.now in
    let store = c.args.stores.now.store.now.words in
    let other = c.args.stores.now.other.now.words in
    let entry = c.args.stores.now.entry in
    let entry' = c.args.stores.now.other_entry in
    let old = c.explore.new.leaves.items in
    let new = c.explore-in-Asks.new.leaves.items in
    let before : Fits e c.explore.new.work.nodes.nodes.items = c.explore-in-Asks.ensures.grows e fits in
    either e c.args.answers.now c.deref.result.now c.deref-in-Asks.result.now c.in-Asks.answer
    (CarriesOver e b.first b.second store other entry entry' b.row b.operands new) answered
    (c.deref.ensures.value ∙ c.in_ok-yes-in-Asks.ensures) (c.deref-in-Asks.ensures.value ∙ c.in_ok-no-in-Asks.ensures)
    (λ all. more e b.first b.second store other entry entry' b.row b.operands old new c.explore-in-Asks.ensures.kept
    (c.in_ok-unlike-in-Asks.ensures.carries (λ i. Ok (c.in-None.is i)) e before knows signs signs' all))
    (λ all. c.explore-in-Asks.ensures.carries done e fits knows signs signs' all)

pub returns-in_ok-push-in-Alike-clause-carries : goal.returns-in_ok-push-in-Alike-clause-carries
returns-in_ok-push-in-Alike-clause-carries t c done e fits knows signs signs' answered =
    let b = c.args.start.now in
    let stores = c.args.stores.now in
    let counts = c.in-Alike.counts in
    let old = c.args.leaves.now.items in
    more e b.first b.second stores.store.now.words stores.other.now.words stores.entry stores.other_entry b.row b.operands (counts ∷ []) c.push.new.self.items
    (λ k h. subst (λ (xs : List Counts). Contains xs k) (sym {b = old ++ counts ∷ []} c.in_ok-push-in-Alike.ensures.items)
    (Contains-append_right old (counts ∷ []) k h))
    (c.in_ok-counts.ensures.alike counts (λ i. Ok (c.in-Alike.is i)) e fits knows signs signs' answered)

pub returns-in-Stopped-clause-carries : goal.returns-in-Stopped-clause-carries
returns-in-Stopped-clause-carries t c done e fits knows signs signs' answered =
    let b = c.args.start.now in
    let stores = c.args.stores.now in
    more e b.first b.second stores.store.now.words stores.other.now.words stores.entry stores.other_entry b.row b.operands [] c.args.leaves.now.items
    (λ k h. absurd (omega (arith, h.1)))
    (c.in_ok-counts.ensures.stopped (λ i. Ok (c.in-Stopped.is i)) e fits knows signs signs' answered)
