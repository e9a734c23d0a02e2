use Rattle.mal_shipped.proofs.Common.{◌≡◌, take, map, without_line}
use Rattle.mal_shipped.proofs.program.unlined.Given as goal

abbrev pub invariant-loop-s : goal.invariant-loop-s
invariant-loop-s l = l.statements.items ≡ map without_line (take l.s l.program.statements)
