use Rattle.mic_base.proofs.Common.{◌≡◌, ◌≢◌, ℕ, zero, suc, pos, ◌/◌, ◌%◌, ◌^◌, ◌<◌, ◌≤◌, ◌&&◌, Bool, true, false, not, List, [], ◌∷◌, length, None, Ok, refl}
use Rattle.mic_base.proofs.Common.{arith, digit_char, is_digit, list_all, position, prefix_len, lt-ltb, le-ltb, ne_eqb, list_all-append, digit_value-digit_char}
use Rattle.mic_base.proofs.Common.{pow-suc, pow-zero, value_of, hex_text, number_of, quoted}
use Rattle.mic_base.proofs.DigitLemmas.{value_of-push, length-hex_text}

one_digit : (d : ℕ) → d < 16 → (is_digit (digit_char d) 16 && true) ≡ true
one_digit d small =
    let below = lt-ltb d 16 small in
    rw (digit_value-digit_char d (omega arith), below) refl

-- each hexadecimal digit is a digit of base 16
hex_digits : (n value : ℕ) → list_all (λ b. is_digit b 16) (hex_text n value) ≡ true
unfolding hex_text
hex_digits zero value = refl
hex_digits (suc n) value =
    rw (list_all-append (λ b. is_digit b 16) (hex_text n (value / 16)) (digit_char (value % 16) ∷ []), hex_digits n (value / 16)) (one_digit (value % 16) (omega arith))

-- the value of a number's hexadecimal digits is the number
hex_value : (n value : ℕ) → value < 16 ^ n → value_of 16 (hex_text n value) ≡ value
unfolding hex_text
hex_value zero value small = omega (arith, pow-zero 16)
hex_value (suc n) value small =
    let grown = pow-suc 16 n in
    let high : value / 16 < 16 ^ n = omega (arith, grown) in
    rw (value_of-push, hex_value n (value / 16) high, digit_value-digit_char (value % 16) (omega arith)) (omega arith)

all_pass : (p : ℕ → Bool) (xs : List ℕ) → list_all p xs ≡ true → prefix_len (λ x. not (not (p x))) xs ≡ length xs
all_pass p [] h = refl
all_pass p (x ∷ xs) h = go (p x) refl (all_pass p xs)
  where
    go : (b : Bool) → p x ≡ b → (list_all p xs ≡ true → prefix_len (λ x. not (not (p x))) xs ≡ length xs) → prefix_len (λ x. not (not (p x))) (x ∷ xs) ≡ length (x ∷ xs)
    go true e rec =
        let rest = rw e at h in
        rw e (omega (arith, rec rest))
    go false e rec = absurd (let bad = rw e at h in cc)

none_fails : (p : ℕ → Bool) (xs : List ℕ) → list_all p xs ≡ true → position (λ b. not (p b)) xs ≡ None
none_fails p xs h = rw (all_pass p xs h, le-ltb (length xs) (length xs) (omega arith)) refl

unquoted : (b : ℕ) (rest : List ℕ) → quoted (48 ∷ b ∷ rest) ≡ None
unquoted b [] = refl
unquoted b (c ∷ []) = refl
unquoted b (c ∷ d ∷ rest) = refl

-- the hexadecimal digits of a value, after `0x`, are read as the value
pub number_of-hex_text : (n value : ℕ) → 1 ≤ n → value < 16 ^ n → value < 2 ^ 32 → number_of (48 ∷ 120 ∷ hex_text n value) ≡ Ok (pos value)
unfolding number_of
number_of-hex_text n value some fits small =
    let long : length (hex_text n value) ≢ 0 = (λ none. omega (arith, none, length-hex_text n value)) in
    let within = le-ltb 0xFFFF_FFFF value (omega arith) in
    rw (unquoted 120 (hex_text n value), ne_eqb (length (hex_text n value)) 0 long, none_fails (λ b. is_digit b 16) (hex_text n value) (hex_digits n value), hex_value n value fits, within) refl
