use Rattle.std.proofs.Common.{arith}
use Rattle.mal_parser.proofs.Printing.{fix_added}
use Rattle.mal_parser.proofs.print.add_fixes.Goals as goal

pub loop-s-preserved : goal.loop-s-preserved
loop-s-preserved c = fix_added c.args.program.now.statements c.loop-s.s c.args.text.now.items c.loop-s.text.items c.add_fix.new.text.items (omega arith) c.loop-s.invariant c.in_ok-add_fix.ensures
