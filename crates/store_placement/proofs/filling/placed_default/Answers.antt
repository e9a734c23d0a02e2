use Rattle.store_placement.proofs.Common.{◌≡◌, Some, subst, sym, IsTrue, PlacedNext, is_valid}
use Rattle.store_placement.proofs.FillingLemmas.{fallback_leads, fallback_valid}
use Rattle.store_placement.proofs.filling.placed_default.Goals as goal

pub placed_next-requires-clause-inside : goal.placed_next-requires-clause-inside
placed_next-requires-clause-inside c =
    let here : c.args.program.now.fallback ≡ Some c.in-Some.fallback.now = cc in
    fallback_leads c.args.program.now c.args.placement.now c.requires.program c.requires.placement c.in-Some.fallback.now here

pub returns-in-Some-clause-valid : goal.returns-in-Some-clause-valid
returns-in-Some-clause-valid c =
    let here : c.args.program.now.fallback ≡ Some c.in-Some.fallback.now = cc in
    let P : PlacedNext → Type 0 = λ next. IsTrue (is_valid c.args.program.now.machine (record { part = c.in-Some.fallback.now.part; next = next })) in
    subst P (sym c.placed_next.ensures) (fallback_valid c.args.program.now c.args.placement.now c.requires.program c.requires.placement c.in-Some.fallback.now here)
