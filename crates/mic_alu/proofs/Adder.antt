-- A sum of two words, bit by bit with carries.
use Rattle.mic_alu.proofs.Common.{◌≡◌, ℕ, zero, suc, ◌+◌, ◌*◌, ◌/◌, ◌%◌, ◌^◌, ◌<◌, refl, sym, ap, ◌∙◌, arith, bit_at, wrap}
use Rattle.std.proofs.lemmas.Nat.Bits.{bit_at_lowest, bit_at-suc, bit_at-lt, bit_at_cat_low, same_from_bits_below}

-- the carry into bit i of a sum of two numbers and a first carry
abbrev pub ripple : ℕ → ℕ → ℕ → ℕ → ℕ
ripple x y c zero = c
ripple x y c (suc i) = (bit_at x i + bit_at y i + ripple x y c i) / 2

-- the rest of a sum is the sum of the rests
ripple-suc : (x y c i : ℕ) → ripple x y c (suc i) ≡ ripple (x / 2) (y / 2) ((bit_at x 0 + bit_at y 0 + c) / 2) i
ripple-suc x y c zero = refl
ripple-suc x y c (suc i) =
    let e = ripple-suc x y c i in
    let a = bit_at-suc x i in
    let b = bit_at-suc y i in
    ap (λ (n : ℕ). (n + bit_at y (suc i) + ripple x y c (suc i)) / 2) a
    ∙ (ap (λ (n : ℕ). (bit_at (x / 2) i + n + ripple x y c (suc i)) / 2) b
    ∙ ap (λ (n : ℕ). (bit_at (x / 2) i + bit_at (y / 2) i + n) / 2) e)

halves : (x y c : ℕ) → c < 2 → (x + y + c) / 2 ≡ x / 2 + y / 2 + (x % 2 + y % 2 + c) / 2
halves x y c h = omega arith

lowest : (x y c : ℕ) → c < 2 → (x + y + c) % 2 ≡ (x % 2 + y % 2 + c) % 2
lowest x y c h = omega arith

-- each bit of a sum
pub bit_at-sum : (x y c i : ℕ) → c < 2 → bit_at (x + y + c) i ≡ (bit_at x i + bit_at y i + ripple x y c i) % 2
bit_at-sum x y c zero h =
    bit_at_lowest (x + y + c) ∙ (lowest x y c h
    ∙ (ap (λ (n : ℕ). (n + y % 2 + c) % 2) (sym (bit_at_lowest x)) ∙ ap (λ (n : ℕ). (bit_at x 0 + n + c) % 2) (sym (bit_at_lowest y))))
bit_at-sum x y c (suc i) h =
    let carry : ℕ = (bit_at x 0 + bit_at y 0 + c) / 2 in
    let small : carry < 2 = omega (arith, bit_at-lt x 0, bit_at-lt y 0) in
    let half : (x + y + c) / 2 ≡ x / 2 + y / 2 + carry = omega (arith, halves x y c h, bit_at_lowest x, bit_at_lowest y) in
    bit_at-suc (x + y + c) i
    ∙ (ap (λ (n : ℕ). bit_at n i) half
    ∙ (bit_at-sum (x / 2) (y / 2) carry i small
    ∙ (ap (λ (n : ℕ). (n + bit_at (y / 2) i + ripple (x / 2) (y / 2) carry i) % 2) (sym (bit_at-suc x i))
    ∙ (ap (λ (n : ℕ). (bit_at x (suc i) + n + ripple (x / 2) (y / 2) carry i) % 2) (sym (bit_at-suc y i))
    ∙ ap (λ (n : ℕ). (bit_at x (suc i) + bit_at y (suc i) + n) % 2) (sym (ripple-suc x y c i))))))

-- wrapping leaves the low bits
bit_at-wrap : (n i : ℕ) → i < 32 → bit_at (wrap n) i ≡ bit_at n i
unfolding wrap
bit_at-wrap n i h =
    let whole : n / 2 ^ 32 * 2 ^ 32 + n % 2 ^ 32 ≡ n = omega arith in
    sym (ap (λ (m : ℕ). bit_at m i) (sym whole) ∙ bit_at_cat_low (n / 2 ^ 32) 32 (n % 2 ^ 32) i h)

wrap-lt : (n : ℕ) → wrap n < 2 ^ 32
unfolding wrap
wrap-lt n = omega arith

-- a word with the bits of a sum is the sum
pub sum_of_bits : (w x y c : ℕ) → w < 2 ^ 32 → c < 2 → ((i : ℕ) → i < 32 → bit_at w i ≡ (bit_at x i + bit_at y i + ripple x y c i) % 2) → w ≡ wrap (x + y + c)
sum_of_bits w x y c h small bits =
    same_from_bits_below 32 w (wrap (x + y + c)) h (wrap-lt (x + y + c))
    (λ i below. bits i below ∙ sym (bit_at-wrap (x + y + c) i below ∙ bit_at-sum x y c i small))
