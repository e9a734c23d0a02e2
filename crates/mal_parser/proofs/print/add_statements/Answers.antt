use Rattle.std.proofs.Common.{arith}
use Rattle.mal_parser.proofs.Printing.{line_added}
use Rattle.mal_parser.proofs.print.add_statements.Goals as goal

pub loop-s-preserved : goal.loop-s-preserved
loop-s-preserved c =
    line_added c.args.program.now c.loop-s.s c.args.text.now.items c.loop-s.text.items c.end_line.new.text.items c.new-line.result c.print_labelled.new.line (omega arith)
    c.new-line.ensures c.print_labelled.ensures c.loop-s.invariant c.in_ok-end_line.ensures
