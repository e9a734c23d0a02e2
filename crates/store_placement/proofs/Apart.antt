-- Lists of which no two elements clash, and how long they can be.
use Rattle.store_placement.proofs.Common.{◌≡◌, ◌≢◌, ℕ, ◌+◌, ◌<◌, ◌≤◌, Bool, true, false, cond, List, [], ◌∷◌, Option, Some, None, length, map, filter, take}
use Rattle.store_placement.proofs.Common.{eqb, refl, sym, ap, subst, ◌∙◌, inl, inr, zero, suc, arith, nat_eq_equiv, AllByRecursion, filter_map, cons_option}
use Rattle.store_placement.proofs.Common.{range_with_len, is_member, ne_eqb, eq-eqb, eqb-true, length-le_from_is_member, below}
use Rattle.std.specs.List.{IsDistinct}
use Rattle.store_placement.proofs.Among.{Among, any_at, from_any, among-filter, among-filter_map, among-map, among_map, among-take, among-range}

-- R holds of each element and each later one
abbrev pub Apart : {X : Type 0} → (X → X → Type 0) → List X → Type 0
Apart R [] = Unit {0}
Apart {X} R (x ∷ xs) = ((y : X) → Among y xs → R x y) × Apart R xs

pub Apart-range : (n a : ℕ) → Apart ◌<◌ (range_with_len a n)
Apart-range zero a = tt
Apart-range (suc n) a = (λ y among. let r = among-range n (a + 1) y among in omega arith, Apart-range n (a + 1))

pub Apart-below : (n : ℕ) → Apart ◌<◌ (below n)
unfolding below
Apart-below n = Apart-range n 0

pub Apart-weaker : {X : Type 0} (R S : X → X → Type 0) (xs : List X) → ((x y : X) → R x y → S x y) → Apart R xs → Apart S xs
Apart-weaker R S [] h apart = tt
Apart-weaker R S (x ∷ xs) h apart = (λ y among. h x y (apart.0 y among), Apart-weaker R S xs h apart.1)

pub Apart-filter : {X : Type 0} (R : X → X → Type 0) (p : X → Bool) (xs : List X) → Apart R xs → Apart R (filter p xs)
Apart-filter R p [] apart = tt
Apart-filter R p (x ∷ xs) apart =
    elim (p x) as (λ b. Apart R (cond b (x ∷ filter p xs) (filter p xs))) [
      | true ↦ (λ y among. apart.0 y (among-filter p xs y among).0, Apart-filter R p xs apart.1)
      | false ↦ Apart-filter R p xs apart.1
    ]

pub Apart-filter_map : {X Y : Type 0} (R : X → X → Type 0) (S : Y → Y → Type 0) (h : X → Option Y) → ((x z : X) (a b : Y) → R x z → h x ≡ Some a → h z ≡ Some b → S a b) → (xs : List X) → Apart R xs → Apart S (filter_map h xs)
Apart-filter_map R S h gives [] apart = tt
Apart-filter_map R S h gives (x ∷ xs) apart =
    elim (h x) as (λ o. h x ≡ o → Apart S (cons_option o (filter_map h xs))) [
      | None ↦ λ e. Apart-filter_map R S h gives xs apart.1
      | Some w ↦ λ e. (λ y among. let r = among-filter_map h xs y among in gives x r.0 w y (apart.0 r.0 r.1) e r.2, Apart-filter_map R S h gives xs apart.1)
    ] refl

-- only over the elements of the list
pub Apart-map : {X Y : Type 0} (R : X → X → Type 0) (S : Y → Y → Type 0) (f : X → Y) (xs : List X) → ((x z : X) → Among x xs → Among z xs → R x z → S (f x) (f z)) → Apart R xs → Apart S (map f xs)
Apart-map R S f [] gives apart = tt
Apart-map {X} {Y} R S f (x ∷ xs) gives apart = (
  λ y among. let r = among-map f xs y among in subst (λ (w : Y). S (f x) w) (sym r.2) (gives x r.0 (inl refl) (inr r.1) (apart.0 r.0 r.1)),
  Apart-map R S f xs (λ a b in_a in_b. gives a b (inr in_a) (inr in_b)) apart.1,
)

pub Apart-take : {X : Type 0} (R : X → X → Type 0) (n : ℕ) (xs : List X) → Apart R xs → Apart R (take n xs)
Apart-take R zero xs apart = tt
Apart-take R (suc n) [] apart = tt
Apart-take R (suc n) (x ∷ xs) apart = (λ y among. apart.0 y (among-take n xs y among), Apart-take R n xs apart.1)

-- a map whose values differ does not give one value twice
pub same_from_map : {X : Type 0} (f : X → ℕ) (xs : List X) → Apart ◌≢◌ (map f xs) → (x y : X) → Among x xs → Among y xs → f x ≡ f y → x ≡ y
same_from_map f [] apart x y in_x in_y same = absurd in_x
same_from_map f (z ∷ zs) apart x y (inl a) (inl b) same = a ∙ sym b
same_from_map f (z ∷ zs) apart x y (inl a) (inr b) same = absurd (apart.0 (f y) (among_map f zs y b) (ap f (sym a) ∙ same))
same_from_map f (z ∷ zs) apart x y (inr a) (inl b) same = absurd (apart.0 (f x) (among_map f zs x a) (ap f (sym b) ∙ sym same))
same_from_map f (z ∷ zs) apart x y (inr a) (inr b) same = same_from_map f zs apart.1 x y a b same

all_others : (x : ℕ) (ys : List ℕ) → ((y : ℕ) → Among y ys → eqb x y ≡ false) → AllByRecursion (λ y. eqb x y ≡ false) ys
all_others x [] h = tt
all_others x (y ∷ ys) h = (h y (inl refl), all_others x ys (λ z among. h z (inr among)))

IsDistinct-from_apart : (xs : List ℕ) → Apart ◌≢◌ xs → IsDistinct eqb xs
unfolding IsDistinct
IsDistinct-from_apart [] apart = tt
IsDistinct-from_apart (x ∷ xs) apart = (all_others x xs (λ y among. ne_eqb x y (apart.0 y among)), IsDistinct-from_apart xs apart.1)

is_member_among : (xs : List ℕ) (q : ℕ) → Among q xs → is_member eqb xs q ≡ true
is_member_among xs q among = any_at (eqb q) xs q among (eq-eqb q q refl)

among-is_member : (xs : List ℕ) (q : ℕ) → is_member eqb xs q ≡ true → Among q xs
among-is_member xs q h = let r = from_any (eqb q) xs h in let P : ℕ → Type 0 = λ x. Among x xs in subst P (sym (eqb-true q r.0 r.2)) r.1

-- numbers that differ, each of them among others, are at most as many
pub length-le_from_among : (xs ys : List ℕ) → Apart ◌≢◌ xs → ((q : ℕ) → Among q xs → Among q ys) → length xs ≤ length ys
length-le_from_among xs ys apart inside =
    length-le_from_is_member nat_eq_equiv xs ys (IsDistinct-from_apart xs apart) (λ q h. is_member_among ys q (inside q (among-is_member xs q h)))
