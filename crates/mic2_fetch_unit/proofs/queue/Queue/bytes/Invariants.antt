use Rattle.std.proofs.Common.{◌≡◌, take}
use Rattle.mic2_fetch_unit.proofs.queue.Queue.bytes.Given as goal

abbrev pub invariant-loop-place : goal.invariant-loop-place
invariant-loop-place l = l.bytes.items ≡ take l.place l.self
