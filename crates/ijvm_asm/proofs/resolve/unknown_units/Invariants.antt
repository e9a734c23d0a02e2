use Rattle.std.proofs.Common.{◌≡◌, length}
use Rattle.ijvm_asm.specs.Prelude.{unknown_units}
use Rattle.ijvm_asm.proofs.resolve.unknown_units.Given as goal

abbrev pub invariant-loop-first : goal.invariant-loop-first
invariant-loop-first l = unknown_units l.constants l.methods l.least l.rest ≡ unknown_units l.constants l.methods l.fn.least l.units

abbrev pub decreases-loop-first : goal.decreases-loop-first
decreases-loop-first l = length l.rest
