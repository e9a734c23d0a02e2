-- How many different elements a list has, one element on.
use Rattle.store_placement.proofs.Common.{◌≡◌, ℕ, ◌+◌, ◌<◌, Bool, true, false, cond, List, ◌∷◌, length, get_or, drop, suc, ap, ◌∙◌, arith, distinct_count}
use Rattle.store_placement.proofs.Common.{unique_keys, is_member, drop_more}

again : {X : Type 0} (same : X → X → Bool) (x : X) (xs : List X) → is_member same xs x ≡ true → distinct_count same (x ∷ xs) ≡ distinct_count same xs
again same x xs is = ap (λ b. length (cond b (unique_keys same xs) (x ∷ unique_keys same xs))) is

one_more : (n : ℕ) → suc n ≡ n + 1
one_more n = omega arith

last : {X : Type 0} (same : X → X → Bool) (x : X) (xs : List X) → is_member same xs x ≡ false → distinct_count same (x ∷ xs) ≡ distinct_count same xs + 1
last same x xs is = ap (λ b. length (cond b (unique_keys same xs) (x ∷ unique_keys same xs))) is ∙ one_more (length (unique_keys same xs))

pub stands_again : {X : Type 0} (same : X → X → Bool) (xs : List X) (k : ℕ) (d : X) → k < length xs → is_member same (drop (k + 1) xs) (get_or xs k d) ≡ true → distinct_count same (drop k xs) ≡ distinct_count same (drop (k + 1) xs)
stands_again same xs k d inside is = ap (distinct_count same) (drop_more xs k d inside) ∙ again same (get_or xs k d) (drop (k + 1) xs) is

pub stands_last : {X : Type 0} (same : X → X → Bool) (xs : List X) (k : ℕ) (d : X) → k < length xs → is_member same (drop (k + 1) xs) (get_or xs k d) ≡ false → distinct_count same (drop k xs) ≡ distinct_count same (drop (k + 1) xs) + 1
stands_last same xs k d inside is = ap (distinct_count same) (drop_more xs k d inside) ∙ last same (get_or xs k d) (drop (k + 1) xs) is

pub ruleset differents = (stands_again, stands_last)
