use Rattle.mal_parser.proofs.Common.{◌≡◌, ◌++◌, take, filter_map}
use Rattle.mal_parser.specs.Prelude.{fix_line, text_of}
use Rattle.mal_parser.proofs.print.add_fixes.Given as goal

abbrev pub invariant-loop-s : goal.invariant-loop-s
invariant-loop-s l = l.text.items ≡ l.fn.text.items ++ text_of (filter_map fix_line (take l.s l.program.statements))
