use Rattle.store_placement.proofs.ProgramLemmas.{fixed_inside, map_next}
use Rattle.store_placement.proofs.demands.fixed_of.Goals as goal

pub add-requires-clause-address : goal.add-requires-clause-address
add-requires-clause-address c = fixed_inside c.args.program.now c.len-s-end.ensures.program c.loop-s.s c.statement.result.now c.statement.ensures.value

pub loop-s-preserved : goal.loop-s-preserved
loop-s-preserved c = let more = map_next (λ t. t.fixed) c.args.program.now.statements c.loop-s.s c.statement.result.now c.statement.ensures.value in (cc, cc)
