-- What the sweep over the bytes keeps.
use Rattle.std.specs.Prelude.{◌≡◌, ◌≢◌, ℕ, ◌+◌, ◌*◌, ◌<◌, ◌≤◌, ◌↔◌, List, length, Contains, AllPairs}
use Rattle.ijvm_image.specs.Prelude.{ImageView}
use Rattle.verifier_facts.specs.Prelude.{IsReachedMethod, Piece, Code, Header, Covers}

-- the order in which the pieces are met: by address, the instruction before the header
abbrev pub rank : Piece → ℕ
rank (Code unit at) = 2 * at
rank (Header entry) = 2 * entry + 1

-- of the pieces met so far no two share a byte, and each ends at or before this end
pub record IsSwept (image : ImageView) (n end : ℕ) : Type 0 where
  pub apart : (p q : Piece) (b : ℕ) → rank p < n → rank q < n → Covers image p b → Covers image q b → p ≡ q
  pub ends : (p : Piece) (b : ℕ) → rank p < n → Covers image p b → b < end
  pub last : (b : ℕ) → n ≤ 2 * b + 1 → b < end → (p : Piece) × (rank p < n) × Covers image p b

-- the reached methods whose headers begin below this address
pub record AreMethodsBelow (image : ImageView) (n count : ℕ) : Type 0 where
  pub entries : List ℕ
  pub apart : AllPairs (λ e f. e ≢ f) entries
  pub members : (e : ℕ) → Contains entries e ↔ ((e < n) × IsReachedMethod image e)
  pub count_is : count ≡ length entries
  pub few : count ≤ n
