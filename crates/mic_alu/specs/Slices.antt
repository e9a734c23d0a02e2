-- One slice of the ALU (chapter 4): the bit and the carry that it gives for its bit of A, of B and of each control line, and the carry that comes to it.
use Rattle.std.specs.Prelude.{ℕ, zero, suc, ◌+◌, ◌-◌, ◌/◌, ◌%◌, min, max, Bool, if◌then◌else◌}
use Rattle.std.specs.Int.{bit_at}
use Rattle.mic_alu.specs.declared.wires.Wires.{Wires}

-- what ENA lets through, which INVA turns
abbrev pub left : ℕ → ℕ → ℕ → ℕ
left ena inva a = (min a ena + inva) % 2

-- what ENB lets through
abbrev pub right : ℕ → ℕ → ℕ
right enb b = min b enb

-- F0 and F1 open one of four gates: AND, OR, NOT B or the adder
abbrev pub gate : Bool → Bool → ℕ → ℕ → ℕ → ℕ
gate f0 f1 x y carry =
    if f0
    then (if f1 then (x + y + carry) % 2 else 1 - y)
    else (if f1 then max x y else min x y)

-- only the adder hands a carry on
abbrev pub hands_on : Bool → Bool → ℕ → ℕ → ℕ → ℕ
hands_on f0 f1 x y carry = if f0 then (if f1 then (x + y + carry) / 2 else 0) else 0

-- the definitions above for slice i of two words
abbrev pub left_at : Wires → ℕ → ℕ → ℕ
left_at wires a i = left (bit_at wires.ena i) (bit_at wires.inva i) (bit_at a i)

abbrev pub right_at : Wires → ℕ → ℕ → ℕ
right_at wires b i = right (bit_at wires.enb i) (bit_at b i)

abbrev pub slice_bit : Wires → ℕ → ℕ → ℕ → ℕ → ℕ
slice_bit wires a b carry i = gate wires.f0 wires.f1 (left_at wires a i) (right_at wires b i) carry

abbrev pub slice_carry : Wires → ℕ → ℕ → ℕ → ℕ → ℕ
slice_carry wires a b carry i = hands_on wires.f0 wires.f1 (left_at wires a i) (right_at wires b i) carry

-- the carry that comes to slice i: INC to the first, and to each other what the one before it hands on
abbrev pub carry_to : Wires → Bool → ℕ → ℕ → ℕ → ℕ
carry_to wires inc a b zero = if inc then 1 else 0
carry_to wires inc a b (suc i) = slice_carry wires a b (carry_to wires inc a b i) i
