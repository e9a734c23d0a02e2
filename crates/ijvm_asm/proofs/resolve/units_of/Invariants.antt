use Rattle.std.proofs.Common.{◌≡◌, [], length}
use Rattle.ijvm_asm.specs.Prelude.{units_from}
use Rattle.ijvm_asm.proofs.resolve.units_of.Given as goal

abbrev pub invariant-loop-first : goal.invariant-loop-first
invariant-loop-first l = units_from l.constants l.methods l.units.items l.rest ≡ units_from l.constants l.methods [] l.drafts

abbrev pub decreases-loop-first : goal.decreases-loop-first
decreases-loop-first l = length l.rest
