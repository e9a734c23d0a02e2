use Rattle.store_placement.proofs.Common.{length, ap, arith, statement_pair}
use Rattle.store_placement.proofs.ProgramLemmas.{targets_inside, filter_map_next}
use Rattle.store_placement.proofs.demands.add_pairs.Goals as goal

pub add_pair-requires-clause-targets : goal.add_pair-requires-clause-targets
add_pair-requires-clause-targets c pair is =
    let inside = targets_inside c.args.program.now c.len-s-end.ensures.program c.loop-s.s c.statement.result.now c.statement.ensures.value pair is in
    let same = ap length c.loop-s.invariant.1 in
    (omega (arith, inside.0), omega (arith, inside.1))

pub loop-s-preserved : goal.loop-s-preserved
loop-s-preserved c =
    let more = filter_map_next statement_pair c.args.program.now.statements c.loop-s.s c.statement.result.now c.statement.ensures.value in
    (cc, cc, omega arith)
