use Rattle.std.proofs.Common.{◌≡◌, length}
use Rattle.ijvm_line.specs.Prelude.{is_more}
use Rattle.ijvm_line.proofs.parameters.is_more.Given as goal

abbrev pub invariant-loop-rest : goal.invariant-loop-rest
invariant-loop-rest l = is_more l.rest ≡ is_more l.tokens

abbrev pub decreases-loop-rest : goal.decreases-loop-rest
decreases-loop-rest l = length l.rest
