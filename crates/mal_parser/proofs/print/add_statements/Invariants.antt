use Rattle.std.proofs.Common.{◌≡◌, ◌++◌, take, map}
use Rattle.mal_parser.specs.Prelude.{labelled_line, text_of}
use Rattle.mal_parser.proofs.print.add_statements.Given as goal

abbrev pub invariant-loop-s : goal.invariant-loop-s
invariant-loop-s l = l.text.items ≡ l.fn.text.items ++ text_of (map (labelled_line l.program) (take l.s l.program.statements))
