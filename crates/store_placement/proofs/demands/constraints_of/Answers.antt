use Rattle.store_placement.proofs.Common.{◌≡◌, Some, length, ap, ◌∙◌, arith, length-map}
use Rattle.store_placement.proofs.ProgramLemmas.{fallback_inside}
use Rattle.store_placement.proofs.demands.constraints_of.Goals as goal

pub add_pair-requires-clause-targets : goal.add_pair-requires-clause-targets
add_pair-requires-clause-targets c pair is =
    let program = c.args.program.now in
    let here : program.fallback ≡ Some c.in-Some.fallback.now = cc in
    let inside = fallback_inside program c.add_pairs.ensures.program c.in-Some.fallback.now here pair is in
    let same = ap length (c.add_pairs.ensures.fixed ∙ c.fixed_of-constraints.ensures.fixed) ∙ length-map program.statements (λ s. s.fixed) in
    (omega (arith, inside.0), omega (arith, inside.1))
