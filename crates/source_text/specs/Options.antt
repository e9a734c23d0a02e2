-- Lemmas on what a result says of the parts that it was made from.
use Rattle.std.proofs.Common.{◌≡◌, Bool, true, false, List, [], ◌∷◌, Option, Some, None, refl, subst, inl, inr, cond}
use Rattle.std.specs.Prelude.{find, option_map, option_and_then, ◌⊎◌}

pub chosen : {A : Type 0} (b : Bool) (x y z : Option A) → cond b x y ≡ z → ((b ≡ true) × (x ≡ z)) ⊎ ((b ≡ false) × (y ≡ z))
chosen true x y z h = inl (refl, h)
chosen false x y z h = inr (refl, h)

pub mapped : {A B : Type 0} (f : A → B) (o : Option A) (y : B) → option_map f o ≡ Some y → (x : A) × (o ≡ Some x) × (f x ≡ y)
mapped f (Some x) y h = (x, refl, cc)
mapped f None y h = absurd (cc)

pub bound : {A B : Type 0} (f : A → Option B) (o : Option A) (y : B) → option_and_then f o ≡ Some y → (a : A) × (o ≡ Some a) × (f a ≡ Some y)
bound f (Some a) y h = (a, refl, h)
bound f None y h = absurd (cc)

pub find_passes : {A : Type 0} (p : A → Bool) (xs : List A) (x : A) → find p xs ≡ Some x → p x ≡ true
find_passes p [] x h = absurd (cc)
find_passes p (y ∷ ys) x h = elim (chosen (p y) (Some y) (find p ys) (Some x) h) [
  | inl w ↦ let e : y ≡ x = cc in subst (λ z. p z ≡ true) e w.0
  | inr w ↦ find_passes p ys x w.1
]
