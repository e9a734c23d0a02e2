use Rattle.ijvm_verifier.proofs.Common.{◌≡◌, ◌*◌, ℕ, Some, length, slice_get, Kind, IsKind, IsSwept}
use Rattle.ijvm_verifier.proofs.sweep.sweep_all.Given as goal

abbrev pub invariant-loop-at : goal.invariant-loop-at
invariant-loop-at l = record {
  swept : IsSwept l.image (2 * l.at) l.end;
  long : length l.kinds.items ≡ l.at;
  kinds : (at : ℕ) (kind : Kind) → slice_get l.kinds.items at ≡ Some kind → IsKind l.image at kind;
}
