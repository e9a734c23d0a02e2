use Rattle.micro_terms.proofs.Weights.{multiples_push}
use Rattle.micro_terms.proofs.term.are_multiples.Goals as goal

pub loop-part-preserved : goal.loop-part-preserved
loop-part-preserved c env =
    multiples_push env c.args.parts.now c.loop-part.part-index _ c.loop-part-test.true (c.loop-part.invariant env) c.if-part-ne0.false
