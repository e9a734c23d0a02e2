-- Tests of numbers, and what a search through a list finds.
use Rattle.std.proofs.Common.{◌≡◌, ℕ, Bool, true, false, ◌&&◌, ◌==◌, ◌<◌, nat_lt, cond, List, [], ◌∷◌, find, Option, Some, IsTrue, refl, sym, ap, ◌∙◌, arith}
use Rattle.std.proofs.lemmas.Bool.Decides.{nat_tests}

pub both : (a b : Bool) → IsTrue (a && b) → IsTrue a × IsTrue b
both true true h = (refl, refl)
both true false h = cc
both false b h = cc

pub join : (a b : Bool) → IsTrue a → IsTrue b → IsTrue (a && b)
join true true h k = refl
join true false h k = cc
join false b h k = cc

pub equal : (a b : ℕ) → IsTrue (a == b) → a ≡ b
equal a b h = grind (arith, nat_tests)

pub below : (a b : ℕ) → IsTrue (nat_lt a b) → a < b
below a b h = grind (arith, nat_tests)

pub above : (a b : ℕ) → a < b → IsTrue (nat_lt a b)
above a b h = grind (arith, nat_tests)

found_at : {X : Type 0} (p : X → Bool) (y x : X) (rest : Option X) (b : Bool) → p y ≡ b → cond b (Some y) rest ≡ Some x → (rest ≡ Some x → IsTrue (p x)) → IsTrue (p x)
found_at p y x rest true e h later = let same : y ≡ x = cc in ap p (sym same) ∙ e
found_at p y x rest false e h later = later h

-- what a search finds passes its test
pub found : {X : Type 0} (p : X → Bool) (xs : List X) (x : X) → find p xs ≡ Some x → IsTrue (p x)
found p [] x h = cc
found p (y ∷ ys) x h = found_at p y x (find p ys) (p y) refl h (found p ys x)
