use Rattle.mic1_checks.proofs.Common.{◌≡◌, None, List, ◌∙◌, subst, on_ok_weaker, Instruction, CarriesEach}
use Rattle.mic1_checks.proofs.Instructions.{taken}
use Rattle.mic1_checks.proofs.all.takes_alike.Goals as goal

pub returns-clause-takes : goal.returns-clause-takes
returns-clause-takes c =
    let store = c.args.stores.now.store.now.words in
    let other = c.args.stores.now.other.now.words in
    let entry = c.args.stores.now.entry in
    let entry' = c.args.stores.now.other_entry in
    let found = c.ask_each.new.search in
    on_ok_weaker c.ask_each.result
    (λ (each : found.first ≡ None → CarriesEach c.deref.result.now store other entry entry' found.leaves.items). λ (none : found.first ≡ None).
    taken store other entry entry' found.leaves.items
    (subst (λ (all : List Instruction). CarriesEach all store other entry entry' found.leaves.items) (c.deref.ensures.value ∙ c.in_ok-all.ensures) (each none)))
    c.ask_each.ensures.each
