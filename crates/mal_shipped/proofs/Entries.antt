-- A labelled statement is one of the program's.
use Rattle.mal_shipped.proofs.Common.{◌≡◌, ◌<◌, ℕ, zero, suc, List, [], ◌∷◌, length, Some, arith, Statement, label_at}

pub labelled_inside : (ss : List Statement) (s : ℕ) (name : List ℕ) → label_at ss s ≡ Some name → s < length ss
labelled_inside [] s name e = absurd (cc)
labelled_inside (x ∷ xs) zero name e = omega arith
labelled_inside (x ∷ xs) (suc s) name e = let inside : s < length xs = labelled_inside xs s name e in omega arith
