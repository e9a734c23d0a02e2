-- The numbers that two bytes make.
use Rattle.mic1_interpreter.proofs.Common.{◌≡◌, ℕ, ◌+◌, ◌%◌, ◌^◌, ◌<◌, ◌*◌, true, false, List, arith, ◌∙◌, ap, ap₂, inl, inr, nat_lt, bit_or, nat_tests}
use Rattle.mic1_interpreter.proofs.Common.{cases_lt, or_shifted, wrap, signed_byte, signed_pair, byte_in, wrap_small, byte_bound}

-- two bytes as a number
pub two_bytes : (a b : ℕ) → a < 256 → b < 256 → bit_or (wrap (256 * a)) b ≡ 256 * a + b
two_bytes a b la lb =
    let e : wrap (256 * a) ≡ a * 2 ^ 8 = wrap_small (256 * a) (omega arith) ∙ omega arith in
    ap (λ (k : ℕ). bit_or k b) e ∙ (or_shifted a 8 b lb ∙ omega arith)

-- the number that two bytes of a memory make
pub pair_is : (words : List ℕ) (p q : ℕ) {x y k : ℕ} → x ≡ byte_in words p → y ≡ byte_in words q → k ≡ 256 * byte_in words p + byte_in words q → bit_or (wrap (256 * x)) y ≡ k
pair_is words p q {x} {y} {k} ex ey e =
    ap₂ (λ (i : ℕ) (j : ℕ). bit_or (wrap (256 * i)) j) ex ey ∙ (two_bytes (byte_in words p) (byte_in words q) (byte_bound words p) (byte_bound words q) ∙ omega (arith, e))

-- two bytes as a signed number
signed_two : (a b : ℕ) → a < 256 → b < 256 → bit_or (wrap (256 * signed_byte a)) b ≡ signed_pair a b
unfolding signed_byte signed_pair wrap
signed_two a b la lb = elim (cases_lt a 128) [
  | inl low ↦
      let t : nat_lt a 128 ≡ true = grind (arith, nat_tests) in
      rw t (two_bytes a b la lb)
  | inr high ↦
      let t : nat_lt a 128 ≡ false = grind (arith, nat_tests) in
      let e : (256 * (a + 4294967040)) % 4294967296 ≡ (a + 16776960) * 2 ^ 8 = omega arith in
      rw t (ap (λ (k : ℕ). bit_or k b) e ∙ (or_shifted (a + 16776960) 8 b lb ∙ omega arith))
]

pub signed_pair_is : (words : List ℕ) (p q : ℕ) {x y : ℕ} → x ≡ byte_in words p → y ≡ byte_in words q → bit_or (wrap (256 * signed_byte x)) y ≡ signed_pair (byte_in words p) (byte_in words q)
signed_pair_is words p q {x} {y} ex ey =
    ap₂ (λ (i : ℕ) (j : ℕ). bit_or (wrap (256 * signed_byte i)) j) ex ey
    ∙ signed_two (byte_in words p) (byte_in words q) (byte_bound words p) (byte_bound words q)
