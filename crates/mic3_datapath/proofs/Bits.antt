-- What a word's bits and control lines say of its statement.
use Rattle.mic3_datapath.proofs.Common.{◌≡◌, ◌≢◌, ℕ, ◌+◌, ◌-◌, ◌/◌, ◌%◌, ◌^◌, ◌==◌, ◌||◌, ◌&&◌, ◌<◌, ◌≤◌, true, false, Option, Some, None, ap, refl, ◌∙◌, arith}
use Rattle.mic3_datapath.proofs.Common.{addr_bits, jam_bits, names, place_on_bus, BusSource, PlacedNext, dispatch_bytes, is_to_instruction}
use Rattle.micro_word.specs.declared.statement.BusSource.TheVariants as sources
use Rattle.micro_word.specs.declared.statement.PlacedNext.TheVariants as nexts
use Rattle.micro_word.specs.declared.statement.Test.TheVariants as tests
use Rattle.mic3_datapath.specs.Prelude.{dispatched, is_branch, is_destination, is_mdr}

pub branch_bits : (n : PlacedNext) → ((jam_bits n == 1) || (jam_bits n == 2)) ≡ is_branch n
branch_bits (nexts.Goto to) = refl
branch_bits (nexts.Dispatch high) = refl
branch_bits (nexts.Branch tests.N low) = refl
branch_bits (nexts.Branch tests.Z low) = refl

pub instruction_bits : (n : PlacedNext) → ((jam_bits n == 4) && (addr_bits n == 0)) ≡ is_to_instruction n
instruction_bits (nexts.Goto to) = refl
instruction_bits (nexts.Dispatch true) = refl
instruction_bits (nexts.Dispatch false) = refl
instruction_bits (nexts.Branch tests.N low) = refl
instruction_bits (nexts.Branch tests.Z low) = refl

-- a field C of nine bits names no place after those of the registers
no_bit : (c high : ℕ) → high ≡ 0 → (high % 2 == 1) ≡ false
no_bit c high is = ap (λ (n : ℕ). n % 2 == 1) is

-- whether a field C names the place of a side is whether the side's register is a destination
pub side_named : (c : ℕ) (side : Option BusSource) → c < 512 → names c (place_on_bus side) ≡ is_destination c side
side_named c None h = no_bit c (c / 2 ^ 13) (omega arith)
side_named c (Some sources.Mdr) h = refl
side_named c (Some sources.Pc) h = refl
side_named c (Some sources.Mbr) h = no_bit c (c / 2 ^ 9) (omega arith)
side_named c (Some sources.Mbru) h = no_bit c (c / 2 ^ 10) (omega arith)
side_named c (Some sources.Sp) h = refl
side_named c (Some sources.Lv) h = refl
side_named c (Some sources.Cpp) h = refl
side_named c (Some sources.Tos) h = refl
side_named c (Some sources.Opc) h = refl
side_named c (Some sources.Mbr1) h = no_bit c (c / 2 ^ 9) (omega arith)
side_named c (Some sources.Mbr1u) h = no_bit c (c / 2 ^ 10) (omega arith)
side_named c (Some sources.Mbr2) h = no_bit c (c / 2 ^ 11) (omega arith)
side_named c (Some sources.Mbr2u) h = no_bit c (c / 2 ^ 12) (omega arith)
side_named c (Some sources.H) h = refl

-- MDR is named where it is one of the destinations of which there is no other
pub only_mdr : (side : Option BusSource) → is_destination 2 side ≡ is_mdr side
only_mdr None = refl
only_mdr (Some sources.Mdr) = refl
only_mdr (Some sources.Pc) = refl
only_mdr (Some sources.Mbr) = refl
only_mdr (Some sources.Mbru) = refl
only_mdr (Some sources.Sp) = refl
only_mdr (Some sources.Lv) = refl
only_mdr (Some sources.Cpp) = refl
only_mdr (Some sources.Tos) = refl
only_mdr (Some sources.Opc) = refl
only_mdr (Some sources.Mbr1) = refl
only_mdr (Some sources.Mbr1u) = refl
only_mdr (Some sources.Mbr2) = refl
only_mdr (Some sources.Mbr2u) = refl
only_mdr (Some sources.H) = refl

-- a dispatch takes the last of the bytes that it demands

pub dispatch_takes : (n : PlacedNext) (operands takes : ℕ) → jam_bits n ≡ 4 → takes ≡ operands + dispatch_bytes n → 1 ≤ takes
dispatch_takes (nexts.Goto to) operands takes h is = absurd (cc)
dispatch_takes (nexts.Dispatch high) operands takes h is = omega (arith, is)
dispatch_takes (nexts.Branch tests.N low) operands takes h is = absurd (cc)
dispatch_takes (nexts.Branch tests.Z low) operands takes h is = absurd (cc)

pub dispatched_last : (n : PlacedNext) (operands takes x : ℕ) (bytes : ℕ → ℕ) → jam_bits n ≡ 4 → takes ≡ operands + dispatch_bytes n → x ≡ bytes (takes - 1) →
    x ≡ dispatched n (bytes operands)
dispatched_last (nexts.Goto to) operands takes x bytes h takes_is is = absurd (cc)
dispatched_last (nexts.Dispatch high) operands takes x bytes h takes_is is = let last : takes - 1 ≡ operands = omega (arith, takes_is) in is ∙ ap bytes last
dispatched_last (nexts.Branch tests.N low) operands takes x bytes h takes_is is = absurd (cc)
dispatched_last (nexts.Branch tests.Z low) operands takes x bytes h takes_is is = absurd (cc)

pub not_dispatched : (n : PlacedNext) (byte : ℕ) → jam_bits n ≢ 4 → 0 ≡ dispatched n byte
not_dispatched (nexts.Goto to) byte h = refl
not_dispatched (nexts.Dispatch high) byte h = absurd (h refl)
not_dispatched (nexts.Branch test low) byte h = refl

pub last_there : (takes demand have : ℕ) → takes ≡ demand → demand ≤ have → 1 ≤ takes → takes - 1 < have
last_there takes demand have is there some = omega (arith, is, there, some)
