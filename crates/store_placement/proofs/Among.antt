-- Elements of a list, and what holds of them.
use Rattle.store_placement.proofs.Common.{◌≡◌, ℕ, ◌+◌, ◌<◌, ◌≤◌, Bool, true, false, cond, ◌&&◌, ◌⊎◌, List, [], ◌∷◌, Option, Some, None, length, map, filter}
use Rattle.store_placement.proofs.Common.{get_or, take, refl, sym, ap, subst, ◌∙◌, inl, inr, zero, suc, arith, All, list_any, filter_map, cons_option, find}
use Rattle.store_placement.proofs.Common.{range_with_len, cases_eq, or_cases, or_left, or_parts, or_right, below}

abbrev pub Among : {X : Type 0} → X → List X → Type 0
Among x [] = ⊥
Among x (y ∷ ys) = (x ≡ y) ⊎ Among x ys

pub right_false : (a b : Bool) → (a && b) ≡ false → a ≡ true → b ≡ false
right_false true b h k = h
right_false false b h k = cc

pub any_at : {X : Type 0} (test : X → Bool) (xs : List X) (x : X) → Among x xs → test x ≡ true → list_any test xs ≡ true
any_at test [] x among passes = absurd among
any_at test (y ∷ ys) x (inl e) passes = or_left (test y) (list_any test ys) (ap test (sym e) ∙ passes)
any_at test (y ∷ ys) x (inr rest) passes = or_right (test y) (list_any test ys) (any_at test ys x rest passes)

pub from_any : {X : Type 0} (test : X → Bool) (xs : List X) → list_any test xs ≡ true → (x : X) × Among x xs × (test x ≡ true)
from_any test [] h = cc
from_any test (y ∷ ys) h = elim (or_cases (test y) (list_any test ys) h) [
  | inl here ↦ (y, inl refl, here)
  | inr later ↦ let r = from_any test ys later in (r.0, inr r.1, r.2)
]

pub none_of : {X : Type 0} (test : X → Bool) (xs : List X) (x : X) → list_any test xs ≡ false → Among x xs → test x ≡ false
none_of test [] x h among = absurd among
none_of test (y ∷ ys) x h (inl e) = ap test e ∙ (or_parts (test y) (list_any test ys) h).0
none_of test (y ∷ ys) x h (inr rest) = none_of test ys x (or_parts (test y) (list_any test ys) h).1 rest

pub All-among : {X : Type 0} (P : X → Type 0) (xs : List X) (x : X) → All P xs → Among x xs → P x
All-among P [] x h among = absurd among
All-among P (y ∷ ys) x h (inl e) = subst P (sym e) (h 0 y (omega arith))
All-among P (y ∷ ys) x h (inr rest) = All-among P ys x (λ k d l. h (suc k) d (omega arith)) rest

pub among_at : {X : Type 0} (xs : List X) (k : ℕ) (d : X) → k < length xs → Among (get_or xs k d) xs
among_at [] k d h = absurd (omega arith)
among_at (y ∷ ys) zero d h = inl refl
among_at (y ∷ ys) (suc k) d h = inr (among_at ys k d (omega arith))

pub All-from_among : {X : Type 0} (P : X → Type 0) (xs : List X) → ((x : X) → Among x xs → P x) → All P xs
All-from_among P xs h k d l = h (get_or xs k d) (among_at xs k d l)

pub among-filter : {X : Type 0} (p : X → Bool) (xs : List X) (x : X) → Among x (filter p xs) → Among x xs × (p x ≡ true)
among-filter p [] x h = absurd h
among-filter p (y ∷ ys) x h =
    elim (p y) as (λ b. p y ≡ b → Among x (cond b (y ∷ filter p ys) (filter p ys)) → Among x (y ∷ ys) × (p x ≡ true)) [
      | true ↦ λ e among. elim among [
        | inl here ↦ (inl here, ap p here ∙ e)
        | inr later ↦ let r = among-filter p ys x later in (inr r.0, r.1)
      ]
      | false ↦ λ e among. let r = among-filter p ys x among in (inr r.0, r.1)
    ] refl h

pub among_filter : {X : Type 0} (p : X → Bool) (xs : List X) (x : X) → Among x xs → p x ≡ true → Among x (filter p xs)
among_filter p [] x among passes = absurd among
among_filter p (y ∷ ys) x (inl e) passes = rw (ap p (sym e) ∙ passes) (inl e)
among_filter p (y ∷ ys) x (inr rest) passes =
    elim (p y) as (λ b. Among x (cond b (y ∷ filter p ys) (filter p ys))) [
      | true ↦ inr (among_filter p ys x rest passes)
      | false ↦ among_filter p ys x rest passes
    ]

pub among-filter_map : {X Y : Type 0} (h : X → Option Y) (xs : List X) (y : Y) → Among y (filter_map h xs) → (x : X) × Among x xs × (h x ≡ Some y)
among-filter_map h [] y among = absurd among
among-filter_map {X} {Y} h (x ∷ xs) y among =
    elim (h x) as (λ o. h x ≡ o → Among y (cons_option o (filter_map h xs)) → (z : X) × Among z (x ∷ xs) × (h z ≡ Some y)) [
      | None ↦ λ e in_rest. let r = among-filter_map h xs y in_rest in (r.0, inr r.1, r.2)
      | Some w ↦ λ e in_both. elim in_both [
        | inl here ↦ (x, inl refl, e ∙ ap Some (sym here))
        | inr later ↦ let r = among-filter_map h xs y later in (r.0, inr r.1, r.2)
      ]
    ] refl among

pub among_filter_map : {X Y : Type 0} (h : X → Option Y) (xs : List X) (x : X) (y : Y) → Among x xs → h x ≡ Some y → Among y (filter_map h xs)
among_filter_map h [] x y among is = absurd among
among_filter_map h (z ∷ xs) x y (inl e) is = rw (ap h (sym e) ∙ is) (inl refl)
among_filter_map h (z ∷ xs) x y (inr rest) is =
    elim (h z) as (λ o. Among y (cons_option o (filter_map h xs))) [
      | None ↦ among_filter_map h xs x y rest is
      | Some w ↦ inr (among_filter_map h xs x y rest is)
    ]

pub among-map : {X Y : Type 0} (f : X → Y) (xs : List X) (y : Y) → Among y (map f xs) → (x : X) × Among x xs × (y ≡ f x)
among-map f [] y among = absurd among
among-map f (x ∷ xs) y (inl e) = (x, inl refl, e)
among-map f (x ∷ xs) y (inr rest) = let r = among-map f xs y rest in (r.0, inr r.1, r.2)

pub among_map : {X Y : Type 0} (f : X → Y) (xs : List X) (x : X) → Among x xs → Among (f x) (map f xs)
among_map f [] x among = absurd among
among_map f (y ∷ ys) x (inl e) = inl (ap f e)
among_map f (y ∷ ys) x (inr rest) = inr (among_map f ys x rest)

pub among-take : {X : Type 0} (n : ℕ) (xs : List X) (x : X) → Among x (take n xs) → Among x xs
among-take zero xs x among = absurd among
among-take (suc n) [] x among = absurd among
among-take (suc n) (y ∷ ys) x (inl e) = inl e
among-take (suc n) (y ∷ ys) x (inr rest) = inr (among-take n ys x rest)

pub among_range : (n a s : ℕ) → a ≤ s → s < a + n → Among s (range_with_len a n)
among_range zero a s low high = absurd (omega arith)
among_range (suc n) a s low high = elim (cases_eq s a) [
  | inl same ↦ inl same
  | inr other ↦ inr (among_range n (a + 1) s (omega arith) (omega arith))
]

pub among-range : (n a s : ℕ) → Among s (range_with_len a n) → (a ≤ s) × (s < a + n)
among-range zero a s among = absurd among
among-range (suc n) a s (inl e) = (omega arith, omega arith)
among-range (suc n) a s (inr rest) = let r = among-range n (a + 1) s rest in (omega arith, omega arith)

pub among_below : (n s : ℕ) → s < n → Among s (below n)
unfolding below
among_below n s h = among_range n 0 s (omega arith) (omega arith)

pub among-below : (n s : ℕ) → Among s (below n) → s < n
unfolding below
among-below n s among = let r = among-range n 0 s among in omega arith

pub found : {X : Type 0} (test : X → Bool) (xs : List X) (x : X) → find test xs ≡ Some x → Among x xs × (test x ≡ true)
found test [] x h = cc
found {X} test (y ∷ ys) x h =
    elim (test y) as (λ b. test y ≡ b → cond b (Some y) (find test ys) ≡ Some x → Among x (y ∷ ys) × (test x ≡ true)) [
      | true ↦ λ e is. let same : x ≡ y = cc in (inl same, ap test same ∙ e)
      | false ↦ λ e is. let r = found test ys x is in (inr r.0, r.1)
    ] refl h

pub find_some : {X : Type 0} (test : X → Bool) (xs : List X) (x : X) → Among x xs → test x ≡ true → (y : X) × (find test xs ≡ Some y)
find_some test [] x among passes = absurd among
find_some {X} test (z ∷ zs) x among passes =
    elim (test z) as (λ b. test z ≡ b → (y : X) × (cond b (Some z) (find test zs) ≡ Some y)) [
      | true ↦ λ e. (z, refl)
      | false ↦ λ e. elim among [ inl here ↦ absurd (let w : true ≡ false = sym passes ∙ (ap test here ∙ e) in cc) | inr later ↦ find_some test zs x later passes ]
    ] refl
