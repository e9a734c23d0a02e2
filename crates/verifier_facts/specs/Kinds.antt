-- What stands at a byte of the text.
use Rattle.std.specs.Prelude.{◌≡◌, ℕ, ◌<◌, ◌≤◌, List, length, slice_get, Option, Some}
use Rattle.ijvm_image.specs.Prelude.{ImageView}
use Rattle.verifier_facts.specs.declared.kind.Kind.{Kind}
use Rattle.verifier_facts.specs.declared.kind.Kind.TheVariants as kinds
use Rattle.verifier_facts.specs.Facts.{Piece, Code, Header, Covers}

-- where a piece begins
abbrev pub first : Piece → ℕ
first (Code unit at) = at
first (Header entry) = entry

abbrev pub IsKind : ImageView → ℕ → Kind → Type 0
IsKind image at kinds.Start = (unit : Option ℕ) × Covers image (Code unit at) at
IsKind image at kinds.Header = Covers image (Header at) at
IsKind image at kinds.Inside = (p : Piece) × Covers image p at × (first p < at)
IsKind image at kinds.Unreached = (p : Piece) → Covers image p at → ⊥

-- the kinds of all bytes of the text, and nothing stands past it
pub record AreKinds (image : ImageView) (found : List Kind) : Type 0 where
  pub long : length found ≡ length image.text
  pub each : (at : ℕ) (kind : Kind) → slice_get found at ≡ Some kind → IsKind image at kind
  pub beyond : (at : ℕ) → length image.text ≤ at → IsKind image at kinds.Unreached
