-- Marks of taken addresses, one statement on.
use Rattle.store_placement.proofs.Common.{◌≡◌, ℕ, ◌+◌, ◌<◌, Bool, true, false, ◌||◌, ◌&&◌, List, [], Option, Some, None, length, take, get_or, replicate, refl}
use Rattle.store_placement.proofs.Common.{sym, ap, ◌∙◌, inl, inr, arith, not, nat_lt, cases_eq, ltb-true, not-false, or_parts, get_or-replicate, get_or-take}
use Rattle.store_placement.proofs.Common.{length-take-le, list_any_more, list_any_none, Pair, is_taken, fixed_at, NeverTwo, all_forced, forced, same_address}
use Rattle.store_placement.proofs.Common.{are_split, collide, is_pair_of, split_apart, AreTaken, has_split, is_marked, may_collide, share_address}
use Rattle.store_placement.proofs.Among.{All-from_among, among_at, none_of}
use Rattle.store_placement.proofs.ForcedLemmas.{at_all_forced, length-all_forced}

-- nothing is placed, and nothing is marked
pub none_marked : AreTaken [] (replicate 512 false)
unfolding is_taken
none_marked a low = get_or-replicate 512 a false false low

pub marked_more : (placed : List (Option ℕ)) (i : ℕ) (old new : List Bool) → i < length placed → AreTaken (take i placed) old
    → ((a : ℕ) → a < 512 → is_marked new a ≡ (is_marked old a || same_address (get_or placed i None) (Some a))) → AreTaken (take (i + 1) placed) new
unfolding is_taken
marked_more placed i old new inside are step a low =
    step a low ∙ (ap (λ b. b || same_address (get_or placed i None) (Some a)) (are a low) ∙ sym (list_any_more (λ o. same_address o (Some a)) placed i None inside))

other_address : (o : Option ℕ) → same_address o None ≡ false
other_address None = refl
other_address (Some a) = refl

not_taken : (placed : List (Option ℕ)) (i s : ℕ) (place : Option ℕ) (taken : List Bool) → s < i → i < length placed → AreTaken (take i placed) taken → may_collide taken place ≡ false → same_address (fixed_at placed s) place ≡ false
unfolding is_taken
not_taken placed i s None taken before inside are free = other_address (fixed_at placed s)
not_taken placed i s (Some a) taken before inside are free = go
  where
    parts : (not (nat_lt a 512) ≡ false) × (is_marked taken a ≡ false)
    parts = or_parts (not (nat_lt a 512)) (is_marked taken a) free

    low : a < 512
    low = ltb-true a 512 (not-false (nat_lt a 512) parts.0)

    none : is_taken (take i placed) a ≡ false
    none = sym (are a low) ∙ parts.1

    at : get_or (take i placed) s None ≡ get_or placed s None
    at = get_or-take i placed s None before

    count : length (take i placed) ≡ i
    count = length-take-le i placed (omega (arith, inside))

    go : same_address (fixed_at placed s) (Some a) ≡ false
    go = ap (λ o. same_address o (Some a)) (sym at) ∙ none_of (λ o. same_address o (Some a)) (take i placed) (get_or (take i placed) s None) none (among_at (take i placed) s None (omega (arith, count, before)))

pub apart_more : (placed : List (Option ℕ)) (i : ℕ) (taken : List Bool) → i < length placed → AreTaken (take i placed) taken → may_collide taken (get_or placed i None) ≡ false
    → NeverTwo (share_address placed) i → NeverTwo (share_address placed) (i + 1)
apart_more placed i taken inside are free apart s t ordered below = elim (cases_eq t i) [
  | inl same ↦ ap (λ u. same_address (fixed_at placed s) (fixed_at placed u)) same ∙ not_taken placed i s (get_or placed i None) taken (omega (arith, same, ordered)) inside are free
  | inr other ↦ apart s t ordered (omega (arith, other, below))
]

and_none : (a b : Bool) → b ≡ false → (a && b) ≡ false
and_none true b h = h
and_none false b h = refl

no_split : (fixed : List (Option ℕ)) (pairs : List Pair) (s t : ℕ) → has_split fixed pairs ≡ false → split_apart fixed pairs s t ≡ false
unfolding split_apart
no_split fixed pairs s t h =
    let apart = λ (p : Pair). are_split (fixed_at fixed p.yes) (fixed_at fixed p.no) in
    list_any_none (λ p. is_pair_of s t p && apart p) pairs (All-from_among (λ p. (is_pair_of s t p && apart p) ≡ false) pairs (λ p among. and_none (is_pair_of s t p) (apart p) (none_of apart pairs p h among)))

both_none : (a b : Bool) → a ≡ false → b ≡ false → (a || b) ≡ false
both_none true b h k = absurd (cc)
both_none false b h k = k

-- where no address is forced twice and no pair is fixed apart, no two statements collide
pub none_collide : (fixed : List (Option ℕ)) (pairs : List Pair) (addresses : List (Option ℕ)) → addresses ≡ all_forced fixed pairs → NeverTwo (share_address addresses) (length addresses)
    → has_split fixed pairs ≡ false → NeverTwo (collide fixed pairs) (length fixed)
unfolding collide
none_collide fixed pairs addresses is apart whole s t ordered inside =
    let count : length addresses ≡ length fixed = ap length is ∙ length-all_forced fixed pairs in
    let at : (u : ℕ) → u < length fixed → fixed_at addresses u ≡ forced fixed pairs u = λ u h. ap (λ xs. get_or xs u None) is ∙ at_all_forced fixed pairs u None h in
    both_none (same_address (forced fixed pairs s) (forced fixed pairs t)) (split_apart fixed pairs s t)
    (ap (λ o. same_address o (forced fixed pairs t)) (sym (at s (omega (arith, ordered, inside)))) ∙ (ap (same_address (fixed_at addresses s)) (sym (at t inside)) ∙ apart s t ordered (omega (arith, count, inside))))
    (no_split fixed pairs s t whole)
