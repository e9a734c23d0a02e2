use Rattle.mic1_cycles.proofs.Common.{◌≤◌, take, All, Holds, Knows}
use Rattle.mic1_cycles.proofs.known.are_above.Given as goal

abbrev pub invariant-loop-write : goal.invariant-loop-write
invariant-loop-write l = Holds l.nodes (λ e. Knows e l.known → All (λ w. 0x8000 ≤ e.word w.at) (take l.write-index l.writes))
