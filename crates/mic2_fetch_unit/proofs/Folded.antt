-- The folded unit: two equations move it, its edge and its jump.
use Rattle.mic2_fetch_unit.proofs.Common.{◌≡◌, ℕ, zero, suc, ◌+◌, ◌-◌, ◌*◌, ◌/◌, ◌%◌, ◌^◌, ◌<◌, ◌≤◌, inl, inr, Some, None, List, [], ◌∷◌, ◌++◌, length, drop}
use Rattle.mic2_fetch_unit.proofs.Common.{Bool, true, false, refl, arith, ◌∙◌, ap, ap₂, sym, add-zero, slice_index, nat_lt, nat_le, if◌then◌else◌, option_map}
use Rattle.mic2_fetch_unit.proofs.Common.{cases_Bool, nat_tests, wrap, next, byte_in, byte_of, word_refusal, Prefetch, bytes_of_word, without, appended}
use Rattle.mic2_fetch_unit.proofs.Common.{with_pending, sampled_by, sample_refusal, edge, jump, edge_refusal, jump_refusal, bytes_from, unit_at, have_after}
use Rattle.mic2_fetch_unit.proofs.Common.{IsKept}

next_is : (x y : ℕ) → x + 1 ≡ y → y < 2 ^ 32 → next x ≡ y
unfolding wrap
next_is x y e h = omega arith

from_same : (words : List ℕ) {p q a b : ℕ} → p ≡ q → a ≡ b → bytes_from words p a ≡ bytes_from words q b
from_same words e f = ap₂ (bytes_from words) e f

drop_bytes : (words : List ℕ) (p t n : ℕ) → t ≤ n → drop t (bytes_from words p n) ≡ bytes_from words (p + t) (n - t)
drop_bytes words p zero n h = from_same words (omega arith) (omega arith)
drop_bytes words p (suc t) zero h = absurd (omega arith)
drop_bytes words p (suc t) (suc n) h = drop_bytes words (p + 1) t n (omega arith) ∙ from_same words (omega arith) (omega arith)

append_bytes : (words : List ℕ) (p a b : ℕ) → bytes_from words p a ++ bytes_from words (p + a) b ≡ bytes_from words p (a + b)
append_bytes words p zero b = from_same words (omega arith) (omega arith)
append_bytes words p (suc a) b =
    let e : suc a + b ≡ suc (a + b) = omega arith in
    let q : p + suc a ≡ p + 1 + a = omega arith in
    rw (e, q) (ap (λ (xs : List ℕ). byte_in words p ∷ xs) (append_bytes words (p + 1) a b))

pub length-bytes : (words : List ℕ) (p n : ℕ) → length (bytes_from words p n) ≡ n
length-bytes words p zero = refl
length-bytes words p (suc n) = ap suc (length-bytes words (p + 1) n)

byte_of_word : (words : List ℕ) (q k j : ℕ) → k < 4 → j ≡ 4 * q + k → byte_in words j ≡ byte_of (slice_index words q) k
unfolding byte_in
byte_of_word words q k j h e =
    let a : j / 4 ≡ q = omega arith in
    let b : j % 4 ≡ k = omega arith in
    rw (a, b)

word_part : (words : List ℕ) (q k r : ℕ) → k < 4 → r ≡ 4 * q + k → drop k (bytes_of_word (slice_index words q)) ≡ bytes_from words r (4 - k)
word_part words q zero r h e = λ i.
    sym (byte_of_word words q 0 r (omega arith) (omega arith)) i
    ∷ sym (byte_of_word words q 1 (r + 1) (omega arith) (omega arith)) i
    ∷ sym (byte_of_word words q 2 (r + 1 + 1) (omega arith) (omega arith)) i
    ∷ sym (byte_of_word words q 3 (r + 1 + 1 + 1) (omega arith) (omega arith)) i ∷ []
word_part words q (suc zero) r h e = λ i.
    sym (byte_of_word words q 1 r (omega arith) (omega arith)) i
    ∷ sym (byte_of_word words q 2 (r + 1) (omega arith) (omega arith)) i
    ∷ sym (byte_of_word words q 3 (r + 1 + 1) (omega arith) (omega arith)) i ∷ []
word_part words q (suc (suc zero)) r h e = λ i.
    sym (byte_of_word words q 2 r (omega arith) (omega arith)) i ∷ sym (byte_of_word words q 3 (r + 1) (omega arith) (omega arith)) i ∷ []
word_part words q (suc (suc (suc zero))) r h e = λ i. sym (byte_of_word words q 3 r (omega arith) (omega arith)) i ∷ []
word_part words q (suc (suc (suc (suc k)))) r h e = absurd (omega arith)

-- the bytes of a unit that stands at p
pub byte_there : (words : List ℕ) (p have k : ℕ) → k < have → slice_index (bytes_from words p have) k ≡ byte_in words (p + k)
byte_there words p zero k h = absurd (omega arith)
byte_there words p (suc have) zero h = let e : p ≡ p + 0 = omega arith in ap (byte_in words) e
byte_there words p (suc have) (suc k) h = let e : p + 1 + k ≡ p + suc k = omega arith in byte_there words (p + 1) have k (omega arith) ∙ ap (byte_in words) e

-- the unit before it samples
abbrev bare : List ℕ → ℕ → ℕ → Prefetch
bare words p have = record { bytes = bytes_from words p have; imar = (p + have) / 4; skip = (p + have) % 4; pending = None }

bare_same : (words : List ℕ) (u : Prefetch) (p have : ℕ) → u.bytes ≡ bytes_from words p have → u.imar ≡ (p + have) / 4 → u.skip ≡ (p + have) % 4 → u.pending ≡ None → u ≡ bare words p have
bare_same words u p have a b c d = λ i. record { bytes = a i; imar = b i; skip = c i; pending = d i }

filled_none : (words : List ℕ) (p have t : ℕ) → t ≤ have → 2 < have → appended (drop t (bytes_from words p have)) ((p + have) / 4) ((p + have) % 4) None ≡ bare words (p + t) (have - t)
filled_none words p have t h l =
    let e : p + t + (have - t) ≡ p + have = omega arith in
    bare_same words _ (p + t) (have - t) (drop_bytes words p t have h) (ap (λ (k : ℕ). k / 4) (sym e)) (ap (λ (k : ℕ). k % 4) (sym e)) refl

filled_some : (words : List ℕ) (p have t : ℕ) → t ≤ have → have ≤ 2 → p < 0x20000 →
    appended (drop t (bytes_from words p have)) ((p + have) / 4) ((p + have) % 4) (Some (slice_index words ((p + have) / 4))) ≡ bare words (p + t) (have - t + (4 - (p + have) % 4))
filled_some words p have t h l near =
    let r : ℕ = p + have in
    let k : ℕ = r % 4 in
    let small : k < 4 = omega arith in
    let is : r ≡ 4 * (r / 4) + k = omega arith in
    let e : p + t + (have - t) ≡ r = omega arith in
    let whole : p + t + (have - t + (4 - k)) ≡ 4 * (r / 4 + 1) = omega arith in
    let on : next (r / 4) ≡ r / 4 + 1 = next_is (r / 4) (r / 4 + 1) (omega arith) (omega arith) in
    bare_same words _ (p + t) (have - t + (4 - k))
    (ap₂ (λ (xs : List ℕ) (ys : List ℕ). xs ++ ys) (drop_bytes words p t have h) (word_part words (r / 4) k r small is ∙ from_same words (sym e) refl)
    ∙ append_bytes words (p + t) (have - t) (4 - k))
    (omega arith) (omega arith) refl

filled_is : (words : List ℕ) (p have t : ℕ) → t ≤ have → p < 0x20000 → with_pending (without t (unit_at words p have)) ≡ bare words (p + t) (have_after p have t)
unfolding unit_at have_after
filled_is words p have t h near = elim (cases_Bool (nat_le have 2)) [
  | inl b ↦ let l : have ≤ 2 = grind (arith, nat_tests) in rw b (filled_some words p have t h l near)
  | inr b ↦ let l : 2 < have = grind (arith, nat_tests) in rw b (filled_none words p have t h l)
]

-- a unit that samples, if it is short
abbrev resampled : List ℕ → Prefetch → Prefetch
resampled words u = record u { pending = option_map (λ (at : ℕ). slice_index words at) (sampled_by u) }

resampled_bare : (origin words : List ℕ) (p have : ℕ) → IsKept origin words → p + have < 0x20000 → resampled words (bare origin p have) ≡ unit_at origin p have
unfolding unit_at
resampled_bare origin words p have h l =
    let len : length (bytes_from origin p have) ≡ have = length-bytes origin p have in
    let same : slice_index words ((p + have) / 4) ≡ slice_index origin ((p + have) / 4) = h ((p + have) / 4) (omega arith) in
    rw len (by_test (nat_le have 2) same)
  where
    by_test : (b : Bool) → slice_index words ((p + have) / 4) ≡ slice_index origin ((p + have) / 4) →
        ◌≡◌ {A = Prefetch}
        (record {
          bytes = bytes_from origin p have;
          imar = (p + have) / 4;
          skip = (p + have) % 4;
          pending = option_map (λ (at : ℕ). slice_index words at) (if b then Some ((p + have) / 4) else None);
        })
        (record {
          bytes = bytes_from origin p have;
          imar = (p + have) / 4;
          skip = (p + have) % 4;
          pending = if b then Some (slice_index origin ((p + have) / 4)) else None;
        })
    by_test true e = λ i. record { bytes = bytes_from origin p have; imar = (p + have) / 4; skip = (p + have) % 4; pending = Some (e i) }
    by_test false e = refl

after_bound : (p have t : ℕ) → t ≤ have → p + t + have_after p have t ≤ p + have + 4
unfolding have_after
after_bound p have t h = elim (cases_Bool (nat_le have 2)) [ inl b ↦ rw b (omega arith) | inr b ↦ rw b (omega arith) ]

-- an edge that takes t bytes
pub edge_stands : (origin words : List ℕ) (p have t : ℕ) → t ≤ have → have ≤ 6 → IsKept origin words → p < 0x1FF00 →
    edge words t (unit_at origin p have) ≡ unit_at origin (p + t) (have_after p have t)
unfolding edge
edge_stands origin words p have t h few ms l =
    let top : p + t + have_after p have t ≤ p + have + 4 = after_bound p have t h in
    ap (resampled words) (filled_is origin p have t h (omega arith)) ∙ resampled_bare origin words (p + t) (have_after p have t) ms (omega arith)

-- that edge is not refused
pub edge_allowed : (stack_end : ℕ) (origin : List ℕ) (p have t : ℕ) → 0x8000 ≤ stack_end → t ≤ have → have ≤ 6 → p < 0x1FF00 → edge_refusal stack_end t (unit_at origin p have) ≡ None
unfolding edge_refusal word_refusal
edge_allowed stack_end origin p have t map h few l =
    let top : p + t + have_after p have t ≤ p + have + 4 = after_bound p have t h in
    let small : nat_lt ((p + t + have_after p have t) / 4) stack_end ≡ true = grind (arith, nat_tests) in
    ap (λ (u : Prefetch). sample_refusal stack_end (sampled_by u)) (filled_is origin p have t h (omega arith))
    ∙ by_test (nat_le (length (bytes_from origin (p + t) (have_after p have t))) 2) small
  where
    by_test : (b : Bool) → nat_lt ((p + t + have_after p have t) / 4) stack_end ≡ true → sample_refusal stack_end (if b then Some ((p + t + have_after p have t) / 4) else None) ≡ None
    by_test true small = rw small
    by_test false small = refl

pub jump_stands : (origin words : List ℕ) (p : ℕ) → IsKept origin words → p < 0x1FF00 → jump words p ≡ unit_at origin p 0
unfolding unit_at jump
jump_stands origin words p h l =
    let same : slice_index words (p / 4) ≡ slice_index origin (p / 4) = h (p / 4) (omega arith) in
    rw (add-zero, same)

pub jump_allowed : (stack_end p : ℕ) → 0x8000 ≤ stack_end → p < 0x1FF00 → jump_refusal stack_end p ≡ None
unfolding word_refusal
jump_allowed stack_end p map l = let small : nat_lt (p / 4) stack_end ≡ true = grind (arith, nat_tests) in rw small
