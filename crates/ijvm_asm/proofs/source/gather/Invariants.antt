use Rattle.std.proofs.Common.{◌≡◌, [], length}
use Rattle.ijvm_asm.specs.Prelude.{gather}
use Rattle.ijvm_asm.proofs.source.gather.Given as goal

abbrev pub invariant-loop-first : goal.invariant-loop-first
invariant-loop-first l = gather l.list l.rest ≡ gather [] l.names

abbrev pub decreases-loop-first : goal.decreases-loop-first
decreases-loop-first l = length l.rest
