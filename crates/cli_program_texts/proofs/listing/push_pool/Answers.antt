use Rattle.std.proofs.Common.{◌∙◌, arith}
use Rattle.cli_program_texts.proofs.Lines.{pool_end, pool_step}
use Rattle.cli_program_texts.proofs.listing.push_pool.Goals as goal

pub loop-index-preserved : goal.loop-index-preserved
loop-index-preserved c =
    rw c.in_ok-extend_from_slice.ensures.items
    (pool_step c.loop-index.index c.args.pool.now c.loop-index.listing.items _ c.bytes.result.now (omega arith)
    (c.bytes.ensures.value ∙ c.constant_line.ensures) c.loop-index.invariant)

pub returns : goal.returns
returns c = pool_end c.loop-index.index c.args.pool.now c.loop-index.listing.items _ c.loop-index-test.false c.loop-index.invariant
