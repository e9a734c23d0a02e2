-- What forces a statement to its address.
use Rattle.store_placement.proofs.Common.{◌≡◌, ℕ, ◌+◌, ◌-◌, true, false, cond, ◌⊎◌, List, [], ◌∷◌, Option, Some, None, eqb, refl, sym, ap, ◌∙◌, inl, inr}
use Rattle.store_placement.proofs.Common.{option_or, option_map, eqb-true, eq-eqb, ne_eqb, or_left, or_right, same_Some, Pair, fixed_at, stands_in, given_by}
use Rattle.store_placement.proofs.Common.{given, forced}
use Rattle.store_placement.proofs.Among.{Among}
use Rattle.store_placement.proofs.ClearPairs.{AreClear, stands_cases, one_pair, one_role}

-- a statement is forced to its own address, or to one 256 above or below its partner's
pub data IsForcedBy (fixed : List (Option ℕ)) (pairs : List Pair) (s a : ℕ) : Type 0 where
  Own : fixed_at fixed s ≡ Some a → IsForcedBy fixed pairs s a
  Above : (p : Pair) (b : ℕ) → fixed_at fixed s ≡ None → Among p pairs → p.yes ≡ s → fixed_at fixed p.no ≡ Some b → a ≡ b + 256 → IsForcedBy fixed pairs s a
  Under : (p : Pair) (b : ℕ) → fixed_at fixed s ≡ None → Among p pairs → p.no ≡ s → fixed_at fixed p.yes ≡ Some b → a ≡ b - 256 → IsForcedBy fixed pairs s a

option_map_some : (f : ℕ → ℕ) (o : Option ℕ) (a : ℕ) → option_map f o ≡ Some a → (b : ℕ) × (o ≡ Some b) × (a ≡ f b)
option_map_some f None a e = cc
option_map_some f (Some b) a e = (b, refl, sym (same_Some (f b) a e))

given_by_cases : (fixed : List (Option ℕ)) (s : ℕ) (p : Pair) (a : ℕ) → given_by fixed s p ≡ Some a → ((p.yes ≡ s) × ((b : ℕ) × (fixed_at fixed p.no ≡ Some b) × (a ≡ b + 256))) ⊎ ((p.no ≡ s) × ((b : ℕ) × (fixed_at fixed p.yes ≡ Some b) × (a ≡ b - 256)))
given_by_cases fixed s p a e =
    elim (eqb p.yes s) as (λ t. eqb p.yes s ≡ t → cond t (option_map (λ c. c + 256) (fixed_at fixed p.no)) (cond (eqb p.no s) (option_map (λ c. c - 256) (fixed_at fixed p.yes)) None) ≡ Some a → ((p.yes ≡ s) × ((b : ℕ) × (fixed_at fixed p.no ≡ Some b) × (a ≡ b + 256))) ⊎ ((p.no ≡ s) × ((b : ℕ) × (fixed_at fixed p.yes ≡ Some b) × (a ≡ b - 256)))) [
      | true ↦ λ is h. inl (eqb-true p.yes s is, option_map_some (λ c. c + 256) (fixed_at fixed p.no) a h)
      | false ↦ λ is. elim (eqb p.no s) as (λ t. eqb p.no s ≡ t → cond t (option_map (λ c. c - 256) (fixed_at fixed p.yes)) None ≡ Some a → ((p.yes ≡ s) × ((b : ℕ) × (fixed_at fixed p.no ≡ Some b) × (a ≡ b + 256))) ⊎ ((p.no ≡ s) × ((b : ℕ) × (fixed_at fixed p.yes ≡ Some b) × (a ≡ b - 256)))) [
        | true ↦ λ is_low h. inr (eqb-true p.no s is_low, option_map_some (λ c. c - 256) (fixed_at fixed p.yes) a h)
        | false ↦ λ is_low h. cc
      ] refl
    ] refl e

given_by_stands : (fixed : List (Option ℕ)) (s : ℕ) (p : Pair) (a : ℕ) → given_by fixed s p ≡ Some a → stands_in s p ≡ true
given_by_stands fixed s p a e = elim (given_by_cases fixed s p a e) [
  | inl high ↦ or_left (eqb p.yes s) (eqb p.no s) (eq-eqb p.yes s high.0)
  | inr low ↦ or_right (eqb p.yes s) (eqb p.no s) (eq-eqb p.no s low.0)
]

given_some : (fixed : List (Option ℕ)) (s : ℕ) (pairs : List Pair) (a : ℕ) → given fixed s pairs ≡ Some a → (p : Pair) × Among p pairs × (given_by fixed s p ≡ Some a)
given_some fixed s [] a e = cc
given_some fixed s (q ∷ pairs) a e =
    elim (given_by fixed s q) as (λ o. given_by fixed s q ≡ o → option_or o (given fixed s pairs) ≡ Some a → (p : Pair) × Among p (q ∷ pairs) × (given_by fixed s p ≡ Some a)) [
      | None ↦ λ is h. let r = given_some fixed s pairs a h in (r.0, inr r.1, r.2)
      | Some b ↦ λ is h. (q, inl refl, is ∙ h)
    ] refl e

given_none : (fixed : List (Option ℕ)) (s : ℕ) (pairs : List Pair) → given fixed s pairs ≡ None → (p : Pair) → Among p pairs → given_by fixed s p ≡ None
given_none fixed s [] e p among = absurd among
given_none fixed s (q ∷ pairs) e p among =
    elim (given_by fixed s q) as (λ o. given_by fixed s q ≡ o → option_or o (given fixed s pairs) ≡ None → given_by fixed s p ≡ None) [
      | None ↦ λ is h. elim among [ inl here ↦ ap (given_by fixed s) here ∙ is | inr later ↦ given_none fixed s pairs h p later ]
      | Some b ↦ λ is h. cc
    ] refl e

given_nothing : (fixed : List (Option ℕ)) (s : ℕ) (pairs : List Pair) → ((p : Pair) → Among p pairs → given_by fixed s p ≡ None) → given fixed s pairs ≡ None
given_nothing fixed s [] h = refl
given_nothing fixed s (q ∷ pairs) h = rw (h q (inl refl)) (given_nothing fixed s pairs (λ p among. h p (inr among)))

pub forced_cases : (fixed : List (Option ℕ)) (pairs : List Pair) (s a : ℕ) → forced fixed pairs s ≡ Some a → IsForcedBy fixed pairs s a
unfolding forced
forced_cases fixed pairs s a e =
    elim (fixed_at fixed s) as (λ o. fixed_at fixed s ≡ o → option_or o (given fixed s pairs) ≡ Some a → IsForcedBy fixed pairs s a) [
      | None ↦ λ is h. let r = given_some fixed s pairs a h in elim (given_by_cases fixed s r.0 a r.2) [
        | inl high ↦ Above r.0 high.1.0 is r.1 high.0 high.1.1 high.1.2
        | inr low ↦ Under r.0 low.1.0 is r.1 low.0 low.1.1 low.1.2
      ]
      | Some b ↦ λ is h. Own (is ∙ h)
    ] refl e

pub forced_own : (fixed : List (Option ℕ)) (pairs : List Pair) (s a : ℕ) → fixed_at fixed s ≡ Some a → forced fixed pairs s ≡ Some a
unfolding forced
forced_own fixed pairs s a e = rw e refl

pub own_none : (fixed : List (Option ℕ)) (pairs : List Pair) (s : ℕ) → forced fixed pairs s ≡ None → fixed_at fixed s ≡ None
unfolding forced
own_none fixed pairs s e =
    elim (fixed_at fixed s) as (λ o. option_or o (given fixed s pairs) ≡ None → o ≡ None) [
      | None ↦ λ h. refl
      | Some b ↦ λ h. cc
    ] e

-- a statement that stands in one pair is given what that pair gives it
given_is : {fixed : List (Option ℕ)} {pairs : List Pair} → AreClear fixed pairs → (s : ℕ) (p : Pair) (a : ℕ) → Among p pairs → given_by fixed s p ≡ Some a → given fixed s pairs ≡ Some a
given_is {fixed} {pairs} c s p a among is =
    elim (given fixed s pairs) as (λ o. given fixed s pairs ≡ o → o ≡ Some a) [
      | None ↦ λ e. sym (given_none fixed s pairs e p among) ∙ is
      | Some b ↦ λ e.
          let r = given_some fixed s pairs b e in
          let same : r.0 ≡ p = one_pair c s r.0 p r.1 among (given_by_stands fixed s r.0 b r.2) (given_by_stands fixed s p a is) in
          sym r.2 ∙ (ap (given_by fixed s) same ∙ is)
    ] refl

pub forced_above : {fixed : List (Option ℕ)} {pairs : List Pair} → AreClear fixed pairs → (p : Pair) (b : ℕ) → Among p pairs → fixed_at fixed p.yes ≡ None → fixed_at fixed p.no ≡ Some b → forced fixed pairs p.yes ≡ Some (b + 256)
unfolding forced
forced_above {fixed} {pairs} c p b among unfixed is =
    let gives : given_by fixed p.yes p ≡ Some (b + 256) = rw (eq-eqb p.yes p.yes refl, is) refl in
    rw unfixed (given_is c p.yes p (b + 256) among gives)

pub forced_under : {fixed : List (Option ℕ)} {pairs : List Pair} → AreClear fixed pairs → (p : Pair) (b : ℕ) → Among p pairs → fixed_at fixed p.no ≡ None → fixed_at fixed p.yes ≡ Some b → forced fixed pairs p.no ≡ Some (b - 256)
unfolding forced
forced_under {fixed} {pairs} c p b among unfixed is =
    let other : eqb p.yes p.no ≡ false = ne_eqb p.yes p.no (one_role c p p among among) in
    let gives : given_by fixed p.no p ≡ Some (b - 256) = rw (other, eq-eqb p.no p.no refl, is) refl in
    rw unfixed (given_is c p.no p (b - 256) among gives)

-- what is forced to no address has no fixed partner
pub partner_none : {fixed : List (Option ℕ)} {pairs : List Pair} → AreClear fixed pairs → (s : ℕ) (p : Pair) → Among p pairs → stands_in s p ≡ true → forced fixed pairs s ≡ None → (fixed_at fixed p.yes ≡ None) × (fixed_at fixed p.no ≡ None)
partner_none {fixed} {pairs} c s p among stands e = elim (stands_cases s p stands) [
  | inl high ↦
      let unforced : forced fixed pairs p.yes ≡ None = ap (forced fixed pairs) high ∙ e in
      let unfixed = own_none fixed pairs p.yes unforced in (
        unfixed,
        elim (fixed_at fixed p.no) as (λ o. fixed_at fixed p.no ≡ o → o ≡ None) [
          | None ↦ λ is. refl
          | Some b ↦ λ is. let wrong : Some (b + 256) ≡ None = sym (forced_above c p b among unfixed is) ∙ unforced in cc
        ] refl,
      )
  | inr low ↦
      let unforced : forced fixed pairs p.no ≡ None = ap (forced fixed pairs) low ∙ e in
      let unfixed = own_none fixed pairs p.no unforced in (
        elim (fixed_at fixed p.yes) as (λ o. fixed_at fixed p.yes ≡ o → o ≡ None) [
          | None ↦ λ is. refl
          | Some b ↦ λ is. let wrong : Some (b - 256) ≡ None = sym (forced_under c p b among unfixed is) ∙ unforced in cc
        ] refl,
        unfixed,
      )
]

-- a statement without a fixed address, all of whose pairs are without, is forced to none
pub forced_none : (fixed : List (Option ℕ)) (pairs : List Pair) (s : ℕ) → fixed_at fixed s ≡ None → ((p : Pair) → Among p pairs → stands_in s p ≡ true → (fixed_at fixed p.yes ≡ None) × (fixed_at fixed p.no ≡ None)) → forced fixed pairs s ≡ None
unfolding forced
forced_none fixed pairs s unfixed h = rw unfixed (given_nothing fixed s pairs (λ p among.
    elim (given_by fixed s p) as (λ o. given_by fixed s p ≡ o → o ≡ None) [
      | None ↦ λ is. refl
      | Some b ↦ λ is.
          let nothing = h p among (given_by_stands fixed s p b is) in
          elim (given_by_cases fixed s p b is) [
            | inl high ↦ let wrong : Some high.1.0 ≡ None = sym high.1.1 ∙ nothing.1 in cc
            | inr low ↦ let wrong : Some low.1.0 ≡ None = sym low.1.1 ∙ nothing.0 in cc
          ]
    ] refl))
