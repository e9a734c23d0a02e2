-- Lists over the numbers below n, one number on.
use Rattle.store_placement.proofs.Common.{◌≡◌, ℕ, ◌+◌, Bool, true, false, cond, [], ◌∷◌, ◌++◌, Option, Some, None, length, map, filter, refl, sym, ap, ◌∙◌}
use Rattle.store_placement.proofs.Common.{arith, filter_map, cons_option, range_with_len, append-nil, map-id, map-append, length-map, map-range_with_len_more}
use Rattle.store_placement.proofs.Common.{length-range_with_len, filter-append, filter_map-append, below}

pub below_none : below 0 ≡ []
unfolding below
below_none = refl

pub below_more : (n : ℕ) → below (n + 1) ≡ below n ++ n ∷ []
unfolding below
below_more n = sym (map-id (range_with_len 0 (n + 1))) ∙ (map-range_with_len_more (λ k. k) 0 n n (omega arith) ∙ ap (λ xs. xs ++ n ∷ []) (map-id (range_with_len 0 n)))

pub length-below : (n : ℕ) → length (below n) ≡ n
unfolding below
length-below n = length-range_with_len 0 n

pub map-below_more : {X : Type 0} (f : ℕ → X) (n : ℕ) → map f (below (n + 1)) ≡ map f (below n) ++ f n ∷ []
map-below_more f n = rw below_more (map-append f (below n) (n ∷ []))

pub length-map_below : {X : Type 0} (f : ℕ → X) (n : ℕ) → length (map f (below n)) ≡ n
unfolding below
length-map_below f n = simp (length-map, length-range_with_len)

pub filter-below_kept : (p : ℕ → Bool) (n : ℕ) → p n ≡ true → filter p (below (n + 1)) ≡ filter p (below n) ++ n ∷ []
filter-below_kept p n h = rw (below_more, filter-append) (ap (λ b. filter p (below n) ++ cond b (n ∷ []) []) h)

pub filter-below_dropped : (p : ℕ → Bool) (n : ℕ) → p n ≡ false → filter p (below (n + 1)) ≡ filter p (below n)
filter-below_dropped p n h = rw (below_more, filter-append) (ap (λ b. filter p (below n) ++ cond b (n ∷ []) []) h ∙ append-nil (filter p (below n)))

pub filter_map-below_kept : {X : Type 0} (f : ℕ → Option X) (n : ℕ) (x : X) → f n ≡ Some x → filter_map f (below (n + 1)) ≡ filter_map f (below n) ++ x ∷ []
filter_map-below_kept f n x h = rw (below_more, filter_map-append) (ap (λ o. filter_map f (below n) ++ cons_option o []) h)

pub filter_map-below_dropped : {X : Type 0} (f : ℕ → Option X) (n : ℕ) → f n ≡ None → filter_map f (below (n + 1)) ≡ filter_map f (below n)
filter_map-below_dropped f n h = rw (below_more, filter_map-append) (ap (λ o. filter_map f (below n) ++ cons_option o []) h ∙ append-nil (filter_map f (below n)))

pub ruleset belows = (below_none, map-below_more, length-map_below, filter-below_kept, filter-below_dropped, filter_map-below_kept, filter_map-below_dropped)
