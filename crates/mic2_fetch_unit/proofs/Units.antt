-- Where a unit stands after an edge, and after a jump.
use Rattle.mic2_fetch_unit.proofs.Common.{◌≡◌, ℕ, zero, suc, ◌+◌, ◌-◌, ◌*◌, ◌/◌, ◌%◌, ◌^◌, ◌<◌, ◌≤◌, Bool, true, false, List, ◌++◌, length, drop, slice_index}
use Rattle.mic2_fetch_unit.proofs.Common.{Option, Some, None, is_some, inl, inr, refl, sym, ap, subst, ◌∙◌, arith, nat_le, if◌then◌else◌, IfSome, option_map}
use Rattle.mic2_fetch_unit.proofs.Common.{cases_lt, nat_tests, length-append, length-drop, get_or-drop, get_or_append_left, get_or-append_right, wrap, next}
use Rattle.mic2_fetch_unit.proofs.Common.{byte_in, byte_of, Prefetch, IsUnit, appended, bytes_of_word, edge, jump, sampled_at, sampled_by, StandsAt, HoldsSame}

abbrev pub unit : List ℕ → ℕ → ℕ → Option ℕ → Prefetch
unit bytes imar skip pending = record { bytes = bytes; imar = imar; skip = skip; pending = pending }

pub next_small : (x : ℕ) → x + 1 < 2 ^ 32 → next x ≡ x + 1
unfolding wrap
next_small x h = omega arith

-- a sample is pending exactly where one is taken
pub asked : (f : ℕ → ℕ) (at : ℕ) (b : Bool) → is_some (option_map f (if b then Some at else None)) ≡ b
asked f at true = refl
asked f at false = refl

sample_is : (f : ℕ → ℕ) (at : ℕ) (b : Bool) → IfSome (option_map f (if b then Some at else None)) (λ word. word ≡ f at)
sample_is f at true = refl
sample_is f at false = tt

same_byte : (words words' : List ℕ) (at : ℕ) → slice_index words' (at / 4) ≡ slice_index words (at / 4) → byte_in words at ≡ byte_in words' at
unfolding byte_in
same_byte words words' at same = ap (λ (x : ℕ). byte_of x (at % 4)) (sym same)

word_byte : (word k : ℕ) → k < 4 → slice_index (bytes_of_word word) k ≡ byte_of word k
word_byte word zero h = refl
word_byte word (suc zero) h = refl
word_byte word (suc (suc zero)) h = refl
word_byte word (suc (suc (suc zero))) h = refl
word_byte word (suc (suc (suc (suc k)))) h = absurd (omega arith)

byte_there : (words : List ℕ) (imar k at : ℕ) → k < 4 → at ≡ 4 * imar + k → byte_in words at ≡ byte_of (slice_index words imar) k
unfolding byte_in
byte_there words imar k at h is =
    let q : at / 4 ≡ imar = omega arith in
    let r : at % 4 ≡ k = omega arith in
    λ i. byte_of (slice_index words (q i)) (r i)

-- what an edge samples, by the number of bytes that the queue has then

sampled_none : (t : ℕ) (u : Prefetch) → u.pending ≡ None → sampled_at t u ≡ (if nat_le (length (drop t u.bytes)) 2 then Some u.imar else None)
sampled_none t u is = ap (λ (o : Option ℕ). sampled_by (appended (drop t u.bytes) u.imar u.skip o)) is

sampled_some : (t word : ℕ) (u : Prefetch) → u.pending ≡ Some word →
    sampled_at t u ≡ (if nat_le (length (drop t u.bytes ++ drop u.skip (bytes_of_word word))) 2 then Some (next u.imar) else None)
sampled_some t word u is = ap (λ (o : Option ℕ). sampled_by (appended (drop t u.bytes) u.imar u.skip o)) is

long : (t skip word : ℕ) (bytes : List ℕ) → length (drop t bytes ++ drop skip (bytes_of_word word)) ≡ length bytes - t + (4 - skip)
long t skip word bytes = simp (length-append, length-drop)

pub will_none : (t have : ℕ) (u : Prefetch) → u.pending ≡ None → have ≡ length u.bytes - t → (if nat_le have 2 then Some u.imar else None) ≡ sampled_at t u
will_none t have u is size = sym (sampled_none t u is ∙ ap (λ (n : ℕ). if nat_le n 2 then Some u.imar else None) (length-drop t u.bytes ∙ sym size))

pub will_some : (t have word : ℕ) (u : Prefetch) → u.pending ≡ Some word → have ≡ length u.bytes - t + (4 - u.skip) →
    (if nat_le have 2 then Some (next u.imar) else None) ≡ sampled_at t u
will_some t have word u is size =
    sym (sampled_some t word u is ∙ ap (λ (n : ℕ). if nat_le n 2 then Some (next u.imar) else None) (long t u.skip word u.bytes ∙ sym size))

-- an edge by what is pending

abbrev pub sample : List ℕ → ℕ → Prefetch → Option ℕ
sample words t u = option_map (λ at. slice_index words at) (sampled_at t u)

pub edge_none : (words : List ℕ) (t : ℕ) (u : Prefetch) → u.pending ≡ None → edge words t u ≡ unit (drop t u.bytes) u.imar u.skip (sample words t u)
unfolding edge
edge_none words t u is = ap (λ (o : Option ℕ). record (appended (drop t u.bytes) u.imar u.skip o) { pending = sample words t u }) is

pub edge_some : (words : List ℕ) (t word : ℕ) (u : Prefetch) → u.pending ≡ Some word →
    edge words t u ≡ unit (drop t u.bytes ++ drop u.skip (bytes_of_word word)) (next u.imar) 0 (sample words t u)
unfolding edge
edge_some words t word u is = ap (λ (o : Option ℕ). record (appended (drop t u.bytes) u.imar u.skip o) { pending = sample words t u }) is

-- An edge that leaves more than two bytes finds nothing pending, and samples nothing.

is_none : (o : Option ℕ) → is_some o ≡ false → o ≡ None
is_none None h = refl
is_none (Some word) h = absurd (cc)

not_short : (n : ℕ) → 2 < n → nat_le n 2 ≡ false
not_short n h = grind (arith, nat_tests)

pub full_pending : (u : Prefetch) → IsUnit u → 2 < length u.bytes → u.pending ≡ None
full_pending u h more = is_none u.pending (h.asks ∙ not_short (length u.bytes) more)

pub full_samples : (t : ℕ) (u : Prefetch) → IsUnit u → t + 2 < length u.bytes → sampled_at t u ≡ None
full_samples t u h more =
    sym (will_none t (length u.bytes - t) u (full_pending u h (omega (arith, more))) refl)
    ∙ ap (λ (b : Bool). if b then Some u.imar else None) (not_short (length u.bytes - t) (omega (arith, more)))

pub edge_full : (words : List ℕ) (t : ℕ) (u : Prefetch) → IsUnit u → t + 2 < length u.bytes → edge words t u ≡ unit (drop t u.bytes) u.imar u.skip None
edge_full words t u h more =
    edge_none words t u (full_pending u h (omega (arith, more)))
    ∙ ap (λ (o : Option ℕ). unit (drop t u.bytes) u.imar u.skip (option_map (λ (at : ℕ). slice_index words at) o)) (full_samples t u h more)

-- an edge leaves a unit

short : (bytes : List ℕ) (imar skip word : ℕ) → IsUnit (unit bytes imar skip (Some word)) → length bytes ≤ 2
short bytes imar skip word h = let asks : true ≡ nat_le (length bytes) 2 = h.asks in grind (arith, nat_tests)

unit_following : (words : List ℕ) (t imar skip : ℕ) (bytes : List ℕ) → t ≤ length bytes → (pending : Option ℕ) →
    IsUnit (unit bytes imar skip pending) → IsUnit (edge words t (unit bytes imar skip pending))
unfolding edge
unit_following words t imar skip bytes within None h =
    record {
      few = omega (arith, length-drop t bytes, h.few);
      skip = h.skip;
      skips = λ some. absurd (let none : false ≡ true = (h.skips some).1 in cc);
      asks = asked (slice_index words) imar (nat_le (length (drop t bytes)) 2);
    }
unit_following words t imar skip bytes within (Some word) h =
    record {
      few = omega (arith, long t skip word bytes, short bytes imar skip word h);
      skip = omega arith;
      skips = λ some. absurd (omega arith);
      asks = asked (slice_index words) (next imar) (nat_le (length (drop t bytes ++ drop skip (bytes_of_word word))) 2);
    }

module _ (words words' : List ℕ) (p t imar skip : ℕ) (bytes : List ℕ) (low : p < 2 ^ 32) (within : t ≤ length bytes) where
  -- the bytes that stay
  kept : (pending : Option ℕ) → StandsAt words p (unit bytes imar skip pending) → HoldsSame words words' p (unit bytes imar skip pending) →
      (k : ℕ) → k < length bytes - t → slice_index (drop t bytes) k ≡ byte_in words' (p + t + k)
  kept pending s same k h =
      let inside : t + k < length bytes = omega arith in
      let e : p + (t + k) ≡ p + t + k = omega arith in
      get_or-drop t bytes k 0 ∙ s.bytes (t + k) inside ∙ same_byte words words' (p + (t + k)) (same.bytes (t + k) inside) ∙ ap (byte_in words') e

  after_none : StandsAt words p (unit bytes imar skip None) → HoldsSame words words' p (unit bytes imar skip None) →
      StandsAt words' (p + t) (edge words' t (unit bytes imar skip None))
  unfolding edge
  after_none s same =
      let size : length (drop t bytes) ≡ length bytes - t = length-drop t bytes in
      let place : 4 * imar + skip ≡ p + length bytes = s.onward in
      record {
        unit = unit_following words' t imar skip bytes within None s.unit;
        bytes = λ k h. kept None s same k (subst (λ (n : ℕ). k < n) size h);
        onward = omega (arith, size);
        pending = sample_is (slice_index words') imar (nat_le (length (drop t bytes)) 2);
      }

  module _ (word : ℕ) (s : StandsAt words p (unit bytes imar skip (Some word))) (same : HoldsSame words words' p (unit bytes imar skip (Some word))) where
    -- the bytes of the word that was pending
    added : (k : ℕ) → length bytes - t ≤ k → k < length bytes - t + (4 - skip) →
        slice_index (drop t bytes ++ drop skip (bytes_of_word word)) k ≡ byte_in words' (p + t + k)
    added k low_k high_k =
        let j : ℕ = k - (length bytes - t) in
        let inside : skip + j < 4 = omega (arith, s.unit.skip) in
        let at : p + t + k ≡ 4 * imar + (skip + j) = omega (arith, s.onward) in
        get_or-append_right (drop t bytes) (drop skip (bytes_of_word word)) (length bytes - t) k 0 (length-drop t bytes) low_k
        ∙ get_or-drop skip (bytes_of_word word) j 0
        ∙ word_byte word (skip + j) inside
        ∙ ap (λ (x : ℕ). byte_of x (skip + j)) (s.pending ∙ sym (same.pending refl))
        ∙ sym (byte_there words' imar (skip + j) (p + t + k) inside at)

    after_some : StandsAt words' (p + t) (edge words' t (unit bytes imar skip (Some word)))
    unfolding edge
    after_some =
        let grown : next imar ≡ imar + 1 = next_small imar (omega (arith, short bytes imar skip word s.unit, s.onward)) in
        record {
          unit = unit_following words' t imar skip bytes within (Some word) s.unit;
          bytes = λ k h. elim (cases_lt k (length bytes - t)) [
            | inl lower ↦
                get_or_append_left (drop t bytes) (drop skip (bytes_of_word word)) 0 k (omega (arith, length-drop t bytes))
                ∙ kept (Some word) s same k lower
            | inr higher ↦ added k higher (subst (λ (n : ℕ). k < n) (long t skip word bytes) h)
          ];
          onward = omega (arith, long t skip word bytes, grown, s.onward, s.unit.skip);
          pending = sample_is (slice_index words') (next imar) (nat_le (length (drop t bytes ++ drop skip (bytes_of_word word))) 2);
        }

  following : (pending : Option ℕ) → StandsAt words p (unit bytes imar skip pending) → HoldsSame words words' p (unit bytes imar skip pending) →
      StandsAt words' (p + t) (edge words' t (unit bytes imar skip pending))
  following None s same = after_none s same
  following (Some word) s same = after_some word s same

pub edge_stands : (words words' : List ℕ) (p t : ℕ) (u : Prefetch) → p < 2 ^ 32 → t ≤ length u.bytes →
    StandsAt words p u → HoldsSame words words' p u → StandsAt words' (p + t) (edge words' t u)
edge_stands words words' p t u low within s same = following words words' p t u.imar u.skip u.bytes low within u.pending s same

pub jump_stands : (words : List ℕ) (p : ℕ) → StandsAt words p (jump words p)
unfolding jump
jump_stands words p =
    record {
      unit = record { few = omega arith; skip = omega arith; skips = λ some. (refl, refl); asks = refl };
      bytes = λ k h. absurd (omega arith);
      onward = omega arith;
      pending = refl;
    }
