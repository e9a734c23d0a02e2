-- One bit of what the gates give.
use Rattle.mic_alu.proofs.Common.{◌≡◌, ◌&&◌, ℕ, ◌+◌, ◌-◌, ◌/◌, ◌%◌, ◌^◌, ◌<◌, Bool, true, false, min, max, refl, sym, ap, ◌∙◌, arith, w32, bit_at, bit_and}
use Rattle.mic_alu.proofs.Common.{bit_or, and_le_l, Wires, gate, hands_on, left_at, right_at, slice_bit, slice_carry}
use Rattle.std.specs.Int.Bits.{bit_xor}
use Rattle.std.proofs.lemmas.Nat.Bits.{bit_at_and, bit_at_or, bit_at_xor, bit_at_not, bit_at-lt}

-- the words of both sides
abbrev pub left_word : Wires → ℕ → ℕ
left_word w a = bit_xor (bit_and a w.ena) w.inva

abbrev pub right_word : Wires → ℕ → ℕ
right_word w b = bit_and b w.enb

pub left_bit : (w : Wires) (a i : ℕ) → bit_at (left_word w a) i ≡ left_at w a i
left_bit w a i = bit_at_xor (bit_and a w.ena) w.inva i ∙ ap (λ (n : ℕ). (n + bit_at w.inva i) % 2) (bit_at_and a w.ena i)

pub right_bit : (w : Wires) (b i : ℕ) → bit_at (right_word w b) i ≡ right_at w b i
right_bit w b i = bit_at_and b w.enb i

pub gate_is : (w : Wires) (a b carry i : ℕ) (f0 f1 : Bool) → w.f0 ≡ f0 → w.f1 ≡ f1 → slice_bit w a b carry i ≡ gate f0 f1 (left_at w a i) (right_at w b i) carry
gate_is w a b carry i f0 f1 e f =
    ap (λ c. gate c w.f1 (left_at w a i) (right_at w b i) carry) e ∙ ap (λ c. gate f0 c (left_at w a i) (right_at w b i) carry) f

pub carry_is : (w : Wires) (a b carry i : ℕ) (f0 f1 : Bool) → w.f0 ≡ f0 → w.f1 ≡ f1 → slice_carry w a b carry i ≡ hands_on f0 f1 (left_at w a i) (right_at w b i) carry
carry_is w a b carry i f0 f1 e f =
    ap (λ c. hands_on c w.f1 (left_at w a i) (right_at w b i) carry) e ∙ ap (λ c. hands_on f0 c (left_at w a i) (right_at w b i) carry) f

no_carry : (f0 f1 : Bool) (x y k k' : ℕ) → (f0 && f1) ≡ false → gate f0 f1 x y k ≡ gate f0 f1 x y k'
no_carry true true x y k k' e = let no : true ≡ false = e in absurd (cc)
no_carry true false x y k k' e = refl
no_carry false true x y k k' e = refl
no_carry false false x y k k' e = refl

-- except in the adder, an incoming carry changes nothing
pub any_carry : (w : Wires) (a b k k' i : ℕ) → (w.f0 && w.f1) ≡ false → slice_bit w a b k i ≡ slice_bit w a b k' i
any_carry w a b k k' i e = no_carry w.f0 w.f1 (left_at w a i) (right_at w b i) k k' e

pub and_bit : (w : Wires) (a b carry i : ℕ) → w.f0 ≡ false → w.f1 ≡ false → bit_at (bit_and (left_word w a) (right_word w b)) i ≡ slice_bit w a b carry i
and_bit w a b carry i e f =
    bit_at_and (left_word w a) (right_word w b) i
    ∙ (ap (λ (n : ℕ). min n (bit_at (right_word w b) i)) (left_bit w a i)
    ∙ (ap (min (left_at w a i)) (right_bit w b i) ∙ sym (gate_is w a b carry i false false e f)))

pub or_bit : (w : Wires) (a b carry i : ℕ) → w.f0 ≡ false → w.f1 ≡ true → bit_at (bit_or (left_word w a) (right_word w b)) i ≡ slice_bit w a b carry i
or_bit w a b carry i e f =
    bit_at_or (left_word w a) (right_word w b) i
    ∙ (ap (λ (n : ℕ). max n (bit_at (right_word w b) i)) (left_bit w a i)
    ∙ (ap (max (left_at w a i)) (right_bit w b i) ∙ sym (gate_is w a b carry i false true e f)))

pub not_bit : (w : Wires) (a b carry i : ℕ) → b < 2 ^ 32 → i < 32 → w.f0 ≡ true → w.f1 ≡ false → bit_at (4294967295 - right_word w b) i ≡ slice_bit w a b carry i
not_bit w a b carry i fits h e f =
    bit_at_not w32 (right_word w b) i (omega (arith, and_le_l b w.enb)) h
    ∙ (ap (λ (n : ℕ). 1 - n) (right_bit w b i) ∙ sym (gate_is w a b carry i true false e f))

sum_bit : (x y c : ℕ) → ((x + y) % 2 + c) % 2 ≡ (x + y + c) % 2
sum_bit x y c = omega arith

pub adder_bit : (w : Wires) (a b carries i : ℕ) → w.f0 ≡ true → w.f1 ≡ true →
    bit_at (bit_xor (bit_xor (left_word w a) (right_word w b)) carries) i ≡ slice_bit w a b (bit_at carries i) i
adder_bit w a b carries i e f =
    bit_at_xor (bit_xor (left_word w a) (right_word w b)) carries i
    ∙ (ap (λ (n : ℕ). (n + bit_at carries i) % 2) (bit_at_xor (left_word w a) (right_word w b) i)
    ∙ (sum_bit (bit_at (left_word w a) i) (bit_at (right_word w b) i) (bit_at carries i)
    ∙ (ap (λ (n : ℕ). (n + bit_at (right_word w b) i + bit_at carries i) % 2) (left_bit w a i)
    ∙ (ap (λ (n : ℕ). (left_at w a i + n + bit_at carries i) % 2) (right_bit w b i)
    ∙ sym (gate_is w a b (bit_at carries i) i true true e f)))))

-- the carry of three bits is 1 where at least two of them are
most : (x y c : ℕ) → x < 2 → y < 2 → c < 2 → max (min x y) (min (max x y) c) ≡ (x + y + c) / 2
most x y c p q r = omega arith

pub adder_carry : (w : Wires) (a b carries i : ℕ) → w.f0 ≡ true → w.f1 ≡ true →
    bit_at (bit_or (bit_and (left_word w a) (right_word w b)) (bit_and (bit_or (left_word w a) (right_word w b)) carries)) i ≡ slice_carry w a b (bit_at carries i) i
adder_carry w a b carries i e f =
    let x : ℕ = left_word w a in
    let y : ℕ = right_word w b in
    bit_at_or (bit_and x y) (bit_and (bit_or x y) carries) i
    ∙ (ap (λ (n : ℕ). max n (bit_at (bit_and (bit_or x y) carries) i)) (bit_at_and x y i)
    ∙ (ap (max (min (bit_at x i) (bit_at y i))) (bit_at_and (bit_or x y) carries i ∙ ap (λ (n : ℕ). min n (bit_at carries i)) (bit_at_or x y i))
    ∙ (most (bit_at x i) (bit_at y i) (bit_at carries i) (bit_at-lt x i) (bit_at-lt y i) (bit_at-lt carries i)
    ∙ (ap (λ (n : ℕ). (n + bit_at y i + bit_at carries i) / 2) (left_bit w a i)
    ∙ (ap (λ (n : ℕ). (left_at w a i + n + bit_at carries i) / 2) (right_bit w b i)
    ∙ sym (carry_is w a b (bit_at carries i) i true true e f))))))
