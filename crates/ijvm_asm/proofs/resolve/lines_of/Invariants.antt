use Rattle.std.proofs.Common.{◌≡◌, [], length}
use Rattle.ijvm_asm.specs.Prelude.{lines_from}
use Rattle.ijvm_asm.proofs.resolve.lines_of.Given as goal

abbrev pub invariant-loop-first : goal.invariant-loop-first
invariant-loop-first l = lines_from l.constants l.methods l.unit l.lines.items l.rest ≡ lines_from l.constants l.methods l.unit [] l.unit.lines

abbrev pub decreases-loop-first : goal.decreases-loop-first
decreases-loop-first l = length l.rest
