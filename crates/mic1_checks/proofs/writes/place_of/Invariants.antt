use Rattle.mic1_checks.proofs.Common.{take, All, Holds, Knows}
use Rattle.mic1_checks.proofs.Orders.{IsApart}
use Rattle.mic1_checks.proofs.writes.place_of.Given as goal

abbrev pub invariant-loop-place : goal.invariant-loop-place
invariant-loop-place l = Holds l.nodes (λ e. Knows e l.known → All (IsApart e.word l.write) (take l.place l.among))
