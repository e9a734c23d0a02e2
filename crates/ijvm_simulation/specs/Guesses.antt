-- The next addresses of a symbolic run, guessed in advance.
use Rattle.std.specs.Prelude.{ℕ, List, [], ◌∷◌}
use Rattle.micro_word.specs.declared.statement.PlacedNext.{PlacedNext}
use Rattle.micro_word.specs.declared.statement.PlacedNext.TheVariants.{Goto}

-- the next address: a goto's own, and else the first guess
abbrev pub address_after : PlacedNext → List ℕ → ℕ
address_after (Goto to) gs = to
address_after _ [] = 0
address_after _ (g ∷ gs) = g

-- the guesses that are left
abbrev pub left_of : PlacedNext → List ℕ → List ℕ
left_of (Goto to) gs = gs
left_of _ [] = []
left_of _ (g ∷ gs) = gs
