use Rattle.mic_alu.proofs.Rows.{each_row}
use Rattle.mic_alu.proofs.table.each_row_computes.Goals as goal

pub returns : goal.returns
returns c = each_row
