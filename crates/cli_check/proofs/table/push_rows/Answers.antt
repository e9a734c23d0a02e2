use Rattle.std.proofs.Common.{◌∙◌, arith}
use Rattle.ijvm_instr.specs.declared.instr.Instr.TheVariants.{Nop}
use Rattle.cli_check.proofs.Rows.{rows_end, rows_step}
use Rattle.cli_check.proofs.table.push_rows.Goals as goal

pub loop-instr-preserved : goal.loop-instr-preserved
loop-instr-preserved c =
    rw c.in_ok-extend_from_slice.ensures.items
    (rows_step c.args.costs.now c.loop-instr.instr-index c.args.table.now Nop c.loop-instr.text.items _ c.bytes.result.now (omega arith)
    (c.bytes.ensures.value ∙ c.instr_line.ensures) c.loop-instr.invariant)

pub returns : goal.returns
returns c = rows_end c.args.costs.now c.loop-instr.instr-index c.args.table.now c.loop-instr.text.items _ c.loop-instr-test.false c.loop-instr.invariant
