-- The carries of the slices: those that the rounds settle, and those of a sum.
use Rattle.mic_alu.proofs.Common.{◌≡◌, ℕ, zero, suc, ◌+◌, ◌-◌, ◌*◌, ◌/◌, ◌%◌, ◌^◌, ◌<◌, Bool, true, false, min, max, refl, sym, ap, ◌∙◌, arith, if◌then◌else◌}
use Rattle.mic_alu.proofs.Common.{bit_at, bit_and, bit_or, and_le_l, and_le_r, or_lt, xor_lt, Wires, combined, hands_on, left_at, right_at, slice_bit}
use Rattle.mic_alu.proofs.Common.{slice_carry, carry_to, before, AreHandedOn}
use Rattle.std.proofs.lemmas.Nat.Bits.{bit_at_and, bit_at_or, bit_at_lowest, bit_at_above, bit_at_ones, bit_at-zero, bit_at-lt, same_from_bits_below}
use Rattle.mic_alu.proofs.Adder.{ripple, sum_of_bits}
use Rattle.mic_alu.proofs.Rounds.{before_far, before_near, bit_at-shifted}
use Rattle.mic_alu.proofs.Slice.{left_word, right_word, left_bit, right_bit, gate_is, carry_is, and_bit, or_bit, not_bit}

-- INC as a number
abbrev pub first_of : Bool → ℕ
first_of inc = if inc then 1 else 0

first_of-lt : (inc : Bool) → first_of inc < 2
first_of-lt true = omega arith
first_of-lt false = omega arith

hands_on-lt : (f0 f1 : Bool) (x y k : ℕ) → x < 2 → y < 2 → k < 2 → hands_on f0 f1 x y k < 2
hands_on-lt true true x y k p q r = omega arith
hands_on-lt true false x y k p q r = omega arith
hands_on-lt false f1 x y k p q r = omega arith

-- a slice hands on the carry that it makes by itself, or an incoming carry where it passes one on
chosen : (f0 f1 : Bool) (x y k : ℕ) → x < 2 → y < 2 → k < 2 → hands_on f0 f1 x y k ≡ max (hands_on f0 f1 x y 0) (min (hands_on f0 f1 x y 1) k)
chosen true true x y k p q r = omega arith
chosen true false x y k p q r = omega arith
chosen false f1 x y k p q r = omega arith

module _ (w : Wires) (inc : Bool) (a b : ℕ) where
  left-lt : (i : ℕ) → left_at w a i < 2
  left-lt i = omega arith

  right-lt : (i : ℕ) → right_at w b i < 2
  right-lt i = omega (arith, bit_at-lt b i)

  carry_to-lt : (i : ℕ) → carry_to w inc a b i < 2
  carry_to-lt zero = first_of-lt inc
  carry_to-lt (suc i) = hands_on-lt w.f0 w.f1 (left_at w a i) (right_at w b i) (carry_to w inc a b i) (left-lt i) (right-lt i) (carry_to-lt i)

  module _ (made passed first : ℕ) (is_first : first ≡ first_of inc)
      (is_made : (i : ℕ) → i < 32 → bit_at made i ≡ slice_carry w a b (bit_at 0 i) i)
      (is_passed : (i : ℕ) → i < 32 → bit_at passed i ≡ slice_carry w a b (bit_at 4294967295 i) i) where
    first-lt : first < 2
    first-lt = omega (arith, first_of-lt inc)

    by_itself : (i : ℕ) → i < 32 → bit_at made i ≡ slice_carry w a b 0 i
    by_itself i h = is_made i h ∙ ap (λ (n : ℕ). slice_carry w a b n i) (bit_at-zero i)

    if_one_comes : (i : ℕ) → i < 32 → bit_at passed i ≡ slice_carry w a b 1 i
    if_one_comes i h = is_passed i h ∙ ap (λ (n : ℕ). slice_carry w a b n i) (bit_at_ones 32 i h)

    onward : (i : ℕ) → i < 32 → carry_to w inc a b (suc i) ≡ max (bit_at made i) (min (bit_at passed i) (carry_to w inc a b i))
    onward i h =
        chosen w.f0 w.f1 (left_at w a i) (right_at w b i) (carry_to w inc a b i) (left-lt i) (right-lt i) (carry_to-lt i)
        ∙ (ap (λ (n : ℕ). max n (min (slice_carry w a b 1 i) (carry_to w inc a b i))) (sym (by_itself i h))
        ∙ ap (λ (n : ℕ). max (bit_at made i) (min n (carry_to w inc a b i))) (sym (if_one_comes i h)))

    with_first : (i : ℕ) → bit_at (bit_or made (bit_and passed first)) i ≡ max (bit_at made i) (min (bit_at passed i) (bit_at first i))
    with_first i = bit_at_or made (bit_and passed first) i ∙ ap (max (bit_at made i)) (bit_at_and passed first i)

    lowest_first : bit_at first 0 ≡ first_of inc
    lowest_first = bit_at_lowest first ∙ omega (arith, first-lt)

    no_first : (i : ℕ) → bit_at first (suc i) ≡ 0
    no_first i = bit_at_above first 1 (suc i) first-lt (omega arith)

    begins : (i : ℕ) → i < 32 → carry_to w inc a b (suc i) ≡
        max (bit_at (bit_or made (bit_and passed first)) i) (min (bit_at passed i) (before 1 (λ j. carry_to w inc a b (suc j)) i))
    begins zero h = omega (arith, onward 0 h, with_first 0, lowest_first, before_near 1 0 (λ j. carry_to w inc a b (suc j)) (omega arith))
    begins (suc i) h =
        let same : suc i - 1 ≡ i = omega arith in
        let comes : before 1 (λ j. carry_to w inc a b (suc j)) (suc i) ≡ carry_to w inc a b (suc i) =
        before_far 1 (suc i) (λ j. carry_to w inc a b (suc j)) (omega arith) ∙ ap (λ (n : ℕ). carry_to w inc a b (suc n)) same in
        onward (suc i) h
        ∙ (ap (λ (n : ℕ). max (bit_at made (suc i)) (min (bit_at passed (suc i)) n)) (sym comes)
        ∙ ap (λ (n : ℕ). max n (min (bit_at passed (suc i)) (before 1 (λ j. carry_to w inc a b (suc j)) (suc i))))
        (omega (arith, with_first (suc i), no_first i)))

    pub begun : AreHandedOn 1 (bit_or made (bit_and passed first)) passed (λ i. carry_to w inc a b (suc i))
    begun = record { each = begins }

    -- what is handed on comes to the next slice, and INC to the first
    pub comes_to : (settled : ℕ) → ((i : ℕ) → i < 32 → bit_at settled i ≡ carry_to w inc a b (suc i)) →
        (i : ℕ) → i < 32 → bit_at (bit_or (settled * 2 ^ 1 % 2 ^ 32) first) i ≡ carry_to w inc a b i
    comes_to settled all zero h =
        bit_at_or (settled * 2 ^ 1 % 2 ^ 32) first 0
        ∙ omega (arith, bit_at-shifted settled 1 0 h, before_near 1 0 (bit_at settled) (omega arith), lowest_first)
    comes_to settled all (suc i) h =
        let same : suc i - 1 ≡ i = omega arith in
        let moved : bit_at (settled * 2 ^ 1 % 2 ^ 32) (suc i) ≡ carry_to w inc a b (suc i) =
        bit_at-shifted settled 1 (suc i) h
        ∙ (before_far 1 (suc i) (bit_at settled) (omega arith) ∙ (ap (bit_at settled) same ∙ all i (omega arith))) in
        bit_at_or (settled * 2 ^ 1 % 2 ^ 32) first (suc i) ∙ omega (arith, moved, no_first i)

  -- with the adder's gate open the carries are those of the sum
  rippled : w.f0 ≡ true → w.f1 ≡ true → (i : ℕ) → carry_to w inc a b i ≡ ripple (left_word w a) (right_word w b) (first_of inc) i
  rippled e f zero = refl
  rippled e f (suc i) =
      carry_is w a b (carry_to w inc a b i) i true true e f
      ∙ (ap (λ (n : ℕ). (n + right_at w b i + carry_to w inc a b i) / 2) (sym (left_bit w a i))
      ∙ (ap (λ (n : ℕ). (bit_at (left_word w a) i + n + carry_to w inc a b i) / 2) (sym (right_bit w b i))
      ∙ ap (λ (n : ℕ). (bit_at (left_word w a) i + bit_at (right_word w b) i + n) / 2) (rippled e f i)))

  module _ (bits : ℕ) (small : bits < 2 ^ 32) (fits_inva : w.inva < 2 ^ 32) (fits_a : a < 2 ^ 32) (fits_b : b < 2 ^ 32)
      (each : (i : ℕ) → i < 32 → bit_at bits i ≡ slice_bit w a b (carry_to w inc a b i) i) where
    right-small : right_word w b < 2 ^ 32
    right-small = omega (arith, and_le_l b w.enb)

    left-small : left_word w a < 2 ^ 32
    left-small = xor_lt 32 (bit_and a w.ena) w.inva (omega (arith, and_le_l a w.ena)) fits_inva

    by_gate : (f0 f1 : Bool) → w.f0 ≡ f0 → w.f1 ≡ f1 → bits ≡ combined f0 f1 inc (left_word w a) (right_word w b)
    by_gate true true e f =
        sum_of_bits bits (left_word w a) (right_word w b) (first_of inc) small (first_of-lt inc)
        (λ i h. each i h ∙ (gate_is w a b (carry_to w inc a b i) i true true e f
        ∙ (ap (λ (n : ℕ). (n + right_at w b i + carry_to w inc a b i) % 2) (sym (left_bit w a i))
        ∙ (ap (λ (n : ℕ). (bit_at (left_word w a) i + n + carry_to w inc a b i) % 2) (sym (right_bit w b i))
        ∙ ap (λ (n : ℕ). (bit_at (left_word w a) i + bit_at (right_word w b) i + n) % 2) (rippled e f i)))))
    by_gate true false e f =
        same_from_bits_below 32 bits _ small (omega arith)
        (λ i h. each i h ∙ sym (not_bit w a b (carry_to w inc a b i) i fits_b h e f))
    by_gate false true e f =
        same_from_bits_below 32 bits _ small (or_lt 32 (left_word w a) (right_word w b) left-small right-small)
        (λ i h. each i h ∙ sym (or_bit w a b (carry_to w inc a b i) i e f))
    by_gate false false e f =
        same_from_bits_below 32 bits _ small (omega (arith, and_le_r (left_word w a) (right_word w b), right-small))
        (λ i h. each i h ∙ sym (and_bit w a b (carry_to w inc a b i) i e f))

    pub all_bits : bits ≡ combined w.f0 w.f1 inc (left_word w a) (right_word w b)
    all_bits = by_gate w.f0 w.f1 refl refl
