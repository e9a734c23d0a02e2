use Rattle.mic_base.proofs.Common.{◌≡◌, ℕ, zero, suc, ◌+◌, ◌-◌, ◌*◌, ◌/◌, ◌%◌, ◌^◌, ◌<◌, ◌≤◌, Bool, true, false, min, not, List, [], ◌∷◌, ◌++◌, length, None}
use Rattle.mic_base.proofs.Common.{refl, arith, inl, inr, length-append, add-one, mul-le-mul_left, pow-suc, pow-zero}
use Rattle.mic_base.proofs.Common.{digit_char, digit_value, list_all, position, position_or_len, value_of, hex_text}
use Rattle.std.proofs.lemmas.Bool.{cases_lt, lt-ltb}

push_arith : (x power value base digit : ℕ) → x * (power * base) + (value * base + digit) ≡ (x * power + value) * base + digit
push_arith x power value base digit = grind arith

-- one more digit after the others
pub value_of-push : (base : ℕ) (digits : List ℕ) (digit : ℕ) → value_of base (digits ++ digit ∷ []) ≡ value_of base digits * base + digit_value digit
value_of-push base [] digit = rw pow-zero (one_digit base (digit_value digit))
  where
    one_digit : (base value : ℕ) → value * 1 + 0 ≡ 0 * base + value
    one_digit base value = omega arith
value_of-push base (x ∷ xs) digit =
    rw (value_of-push base xs digit, length-append xs (digit ∷ []), add-one, pow-suc base (length xs))
    (push_arith (digit_value x) (base ^ length xs) (value_of base xs) base (digit_value digit))

-- capping after each digit gives what capping at the end gives
pub min-capped : (value base digit most : ℕ) → 1 ≤ base → min (min value most * base + digit) most ≡ min (value * base + digit) most
min-capped value base digit most positive = elim (cases_lt value most) [
  | inl under ↦ (let same : min value most ≡ value = omega arith in rw same refl)
  | inr over ↦
      (let same : min value most ≡ most = omega arith in
      let far : most * 1 ≤ most * base = mul-le-mul_left most positive in
      let farther : value * 1 ≤ value * base = mul-le-mul_left value positive in
      rw same (omega arith))
]

-- if the search finds no element that fails the test, each passes it
all_pass : (p : ℕ → Bool) (xs : List ℕ) → length xs ≤ position_or_len (λ b. not (p b)) xs → list_all p xs ≡ true
all_pass p [] h = refl
all_pass p (x ∷ xs) h = go (p x) refl (all_pass p xs)
  where
    go : (b : Bool) → p x ≡ b → (length xs ≤ position_or_len (λ b. not (p b)) xs → list_all p xs ≡ true) → list_all p (x ∷ xs) ≡ true
    go true e rec =
        let long = rw e at h in
        rw e (rec (omega (arith, long)))
    go false e rec =
        let long = rw e at h in
        absurd (omega (arith, long))

pub list_all-position : (p : ℕ → Bool) (xs : List ℕ) → position (λ b. not (p b)) xs ≡ None → list_all p xs ≡ true
list_all-position p xs h = elim (cases_lt (position_or_len (λ b. not (p b)) xs) (length xs)) [
  | inl under ↦ let bad = rw (lt-ltb (position_or_len (λ b. not (p b)) xs) (length xs) under) at h in cc
  | inr over ↦ all_pass p xs over
]

pub length-hex_text : (n value : ℕ) → length (hex_text n value) ≡ n
unfolding hex_text
length-hex_text zero value = refl
length-hex_text (suc n) value = rw (length-append, length-hex_text n (value / 16)) (omega arith)

-- the digits of a sixteenth, and then the last digit
pub hex_text-push : (n value : ℕ) → 1 ≤ n → hex_text n value ≡ hex_text (n - 1) (value / 16) ++ digit_char (value % 16) ∷ []
unfolding hex_text
hex_text-push zero value some = absurd (omega arith)
hex_text-push (suc n) value some = let before : suc n - 1 ≡ n = omega arith in rw before refl

pub hex_text-zero : (value : ℕ) → hex_text 0 value ≡ []
unfolding hex_text
hex_text-zero value = refl
