use Rattle.std.proofs.Common.{◌≡◌, ◌-◌, ◌≤◌, length, false, drop}
use Rattle.mal_line.specs.Prelude.{chain_at}
use Rattle.mal_line.proofs.chain.chain_of.Given as goal

abbrev pub invariant-loop-at : goal.invariant-loop-at
invariant-loop-at l = (l.at ≤ length l.tokens) × (chain_at l.machine l.some l.dests (drop l.at l.tokens) ≡ chain_at l.machine false 0 l.tokens)

abbrev pub decreases-loop-at : goal.decreases-loop-at
decreases-loop-at l = length l.tokens - l.at
