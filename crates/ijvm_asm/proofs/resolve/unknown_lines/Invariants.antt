use Rattle.std.proofs.Common.{◌≡◌, length}
use Rattle.ijvm_asm.specs.Prelude.{unknown_lines}
use Rattle.ijvm_asm.proofs.resolve.unknown_lines.Given as goal

abbrev pub invariant-loop-first : goal.invariant-loop-first
invariant-loop-first l = unknown_lines l.constants l.methods l.unit l.least l.rest ≡ unknown_lines l.constants l.methods l.unit l.fn.least l.unit.lines

abbrev pub decreases-loop-first : goal.decreases-loop-first
decreases-loop-first l = length l.rest
