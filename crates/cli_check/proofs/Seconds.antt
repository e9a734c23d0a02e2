-- The second count of a row, found as the first leaf of it.
use Rattle.cli_check.proofs.Common.{◌≡◌, ℕ, Bool, true, false, ◌&&◌, ◌==◌, if◌then◌else◌, List, [], ◌∷◌, Option, Some, refl, find, option_map, Counts}
use Rattle.mic1_checks.specs.Spent.{second_in}

abbrev pub second_of : Option Counts → Option ℕ
second_of = option_map (λ (c : Counts). c.second)

-- whether a leaf is of the row, and has this first count
abbrev pub is_of : ℕ → ℕ → Counts → Bool
is_of row first c = (c.row == row) && (c.first == first)

mapped : (b : Bool) (c : Counts) (rest : Option Counts) (p : Option ℕ) → second_of rest ≡ p →
    second_of (if b then Some c else rest) ≡ (if b then Some c.second else p)
mapped true c rest p h = refl
mapped false c rest p h = h

pub second_found : (leaves : List Counts) (row first : ℕ) → second_of (find (is_of row first) leaves) ≡ second_in leaves row first
second_found [] row first = refl
second_found (c ∷ cs) row first = mapped (is_of row first c) c (find (is_of row first) cs) (second_in cs row first) (second_found cs row first)
