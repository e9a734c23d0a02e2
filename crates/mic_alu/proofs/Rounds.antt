-- Carries through the rounds.
use Rattle.mic_alu.proofs.Common.{◌≡◌, ℕ, zero, suc, ◌+◌, ◌-◌, ◌*◌, ◌/◌, ◌%◌, ◌^◌, ◌<◌, ◌≤◌, ⊎_elim, min, max, cond, sym, ap, ◌∙◌, add-zero, arith, bit_at}
use Rattle.mic_alu.proofs.Common.{bit_and, bit_or, pow_pos, before, AreHandedOn}
use Rattle.std.proofs.lemmas.Bool.{cases_lt, le-leb, lt-leb}
use Rattle.std.proofs.lemmas.Nat.Bits.{bit_at_and, bit_at_or, bit_at-zero, bit_at_cat_low, bit_at_cat_high}

pub before_far : (reach i : ℕ) (carry : ℕ → ℕ) → reach ≤ i → before reach carry i ≡ carry (i - reach)
before_far reach i carry h = ap (λ b. cond b (carry (i - reach)) 0) (le-leb reach i h)

pub before_near : (reach i : ℕ) (carry : ℕ → ℕ) → i < reach → before reach carry i ≡ 0
before_near reach i carry h = ap (λ b. cond b (carry (i - reach)) 0) (lt-leb reach i h)

-- a shift hands each bit on
pub bit_at-shifted : (n reach i : ℕ) → i < 32 → bit_at (n * 2 ^ reach % 2 ^ 32) i ≡ before reach (bit_at n) i
bit_at-shifted n reach i h =
    let moved : ℕ = n * 2 ^ reach in
    let whole : moved / 2 ^ 32 * 2 ^ 32 + moved % 2 ^ 32 ≡ moved = omega arith in
    sym (ap (λ (m : ℕ). bit_at m i) (sym whole) ∙ bit_at_cat_low (moved / 2 ^ 32) 32 (moved % 2 ^ 32) i h)
    ∙ (ap (λ (m : ℕ). bit_at m i) (sym (add-zero moved))
    ∙ ⊎_elim
    (λ (near : i < reach). bit_at_cat_low n reach 0 i near ∙ (bit_at-zero i ∙ sym (before_near reach i (bit_at n) near)))
    (λ (far : reach ≤ i). bit_at_cat_high n reach 0 i (pow_pos reach) far ∙ sym (before_far reach i (bit_at n) far))
    (cases_lt i reach))

before_twice : (reach i : ℕ) (carry : ℕ → ℕ) → reach ≤ i → before reach carry (i - reach) ≡ before (reach * 2) carry i
before_twice reach i carry far = ⊎_elim
    (λ (near : i - reach < reach). before_near reach (i - reach) carry near ∙ sym (before_near (reach * 2) i carry (omega arith)))
    (λ (on : reach ≤ i - reach).
    let place : i - reach - reach ≡ i - reach * 2 = omega arith in
    before_far reach (i - reach) carry on ∙ (ap carry place ∙ sym (before_far (reach * 2) i carry (omega arith))))
    (cases_lt (i - reach) reach)

-- what comes through two stretches of slices
twice_as_far : (h h' m m' p p' b made passed : ℕ) → h ≡ max m (min p h') → h' ≡ max m' (min p' b) → made ≡ max m (min p m') → passed ≡ min p p' → h ≡ max made (min passed b)
twice_as_far h h' m m' p p' b made passed e f g k = omega arith

-- what reaches this many slices, combined with itself, reaches twice as many
module _ (reach made passed made' passed' : ℕ) (carry : ℕ → ℕ)
    (is_made : (i : ℕ) → i < 32 → bit_at made' i ≡ max (bit_at made i) (min (bit_at passed i) (before reach (bit_at made) i)))
    (is_passed : (i : ℕ) → i < 32 → bit_at passed' i ≡ min (bit_at passed i) (before reach (bit_at passed) i))
    (handed : AreHandedOn reach made passed carry) where
  pub twice : AreHandedOn (reach * 2) made' passed' carry
  twice = record {
    each = λ i h. ⊎_elim
        (λ (near : i < reach).
        omega (
          arith,
          handed.each i h,
          is_made i h,
          is_passed i h,
          before_near reach i (bit_at made) near,
          before_near reach i (bit_at passed) near,
          before_near reach i carry near,
          before_near (reach * 2) i carry (omega arith),
        ))
        (λ (far : reach ≤ i).
        let low : i - reach < 32 = omega arith in
        let onward : before reach carry (i - reach) ≡ before (reach * 2) carry i = before_twice reach i carry far in
        twice_as_far _ _ _ _ _ _ _ _ _
        (handed.each i h ∙ ap (λ (n : ℕ). max (bit_at made i) (min (bit_at passed i) n)) (before_far reach i carry far))
        (handed.each (i - reach) low ∙ ap (λ (n : ℕ). max (bit_at made (i - reach)) (min (bit_at passed (i - reach)) n)) onward)
        (is_made i h ∙ ap (λ (n : ℕ). max (bit_at made i) (min (bit_at passed i) n)) (before_far reach i (bit_at made) far))
        (is_passed i h ∙ ap (λ (n : ℕ). min (bit_at passed i) n) (before_far reach i (bit_at passed) far)))
        (cases_lt i reach);
  }

-- where no carry goes further, the carries that are made are all
pub settled : (reach made passed : ℕ) (carry : ℕ → ℕ) → 0 < reach → AreHandedOn reach made passed carry →
    ((i : ℕ) → i < 32 → min (bit_at passed i) (before reach (bit_at made) i) ≡ 0) → (n i : ℕ) → i < n → i < 32 → bit_at made i ≡ carry i
settled reach made passed carry some handed stops zero i below h = absurd (omega arith)
settled reach made passed carry some handed stops (suc n) i below h = ⊎_elim
    (λ (near : i < reach). omega (arith, handed.each i h, before_near reach i carry near))
    (λ (far : reach ≤ i).
    let same : bit_at made (i - reach) ≡ carry (i - reach) = settled reach made passed carry some handed stops n (i - reach) (omega arith) (omega arith) in
    omega (arith, handed.each i h, before_far reach i carry far, before_far reach i (bit_at made) far, stops i h))
    (cases_lt i reach)

-- after the last round nothing comes from before
pub all_reached : (reach made passed : ℕ) (carry : ℕ → ℕ) → 32 ≤ reach → AreHandedOn reach made passed carry → (i : ℕ) → i < 32 → bit_at made i ≡ carry i
all_reached reach made passed carry far handed i h = omega (arith, handed.each i h, before_near reach i carry (omega arith))

-- a round over words
pub more_made : (made passed reach i : ℕ) → i < 32 →
    bit_at (bit_or made (bit_and passed (made * 2 ^ reach % 2 ^ 32))) i ≡ max (bit_at made i) (min (bit_at passed i) (before reach (bit_at made) i))
more_made made passed reach i h =
    bit_at_or made (bit_and passed (made * 2 ^ reach % 2 ^ 32)) i
    ∙ ap (max (bit_at made i)) (bit_at_and passed (made * 2 ^ reach % 2 ^ 32) i ∙ ap (min (bit_at passed i)) (bit_at-shifted made reach i h))

pub fewer_passed : (passed reach i : ℕ) → i < 32 → bit_at (bit_and passed (passed * 2 ^ reach % 2 ^ 32)) i ≡ min (bit_at passed i) (before reach (bit_at passed) i)
fewer_passed passed reach i h = bit_at_and passed (passed * 2 ^ reach % 2 ^ 32) i ∙ ap (min (bit_at passed i)) (bit_at-shifted passed reach i h)

pub none_passed : (made passed reach : ℕ) → bit_and passed (made * 2 ^ reach % 2 ^ 32) ≡ 0 → (i : ℕ) → i < 32 → min (bit_at passed i) (before reach (bit_at made) i) ≡ 0
none_passed made passed reach none i h =
    sym (bit_at_and passed (made * 2 ^ reach % 2 ^ 32) i ∙ ap (min (bit_at passed i)) (bit_at-shifted made reach i h))
    ∙ (ap (λ (n : ℕ). bit_at n i) none ∙ bit_at-zero i)
