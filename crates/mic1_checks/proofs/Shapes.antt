-- The four shapes.
use Rattle.mic1_checks.proofs.Common.{Bool, true, false, List, [], ◌∷◌, Shape}

abbrev pub SETTLED : Shape
SETTLED = record { byte = false; word = false }

abbrev pub WITH_WORD : Shape
WITH_WORD = record { byte = false; word = true }

abbrev pub WITH_BYTE : Shape
WITH_BYTE = record { byte = true; word = false }

abbrev pub WITH_BOTH : Shape
WITH_BOTH = record { byte = true; word = true }

abbrev pub shapes : List Shape
shapes = SETTLED ∷ WITH_WORD ∷ WITH_BYTE ∷ WITH_BOTH ∷ []

-- what holds of each of the four holds of any
pub any_shape : (P : Shape → Type 0) → P SETTLED → P WITH_WORD → P WITH_BYTE → P WITH_BOTH → (byte word : Bool) → P (record { byte = byte; word = word })
any_shape P a b c d false false = a
any_shape P a b c d false true = b
any_shape P a b c d true false = c
any_shape P a b c d true true = d
