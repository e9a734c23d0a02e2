-- Which register each bit of the field C loads, as chapter 4 draws them, the most significant first.
use Rattle.std.specs.Prelude.{ℕ, Bool, ◌/◌, ◌%◌, ◌==◌}
use Rattle.micro_word.specs.declared.destination.Destination.{Destination}
use Rattle.micro_word.specs.declared.destination.Destination.TheVariants as registers

abbrev pub register_bit : Destination → ℕ
register_bit registers.H = 0b1_0000_0000
register_bit registers.Opc = 0b0_1000_0000
register_bit registers.Tos = 0b0_0100_0000
register_bit registers.Cpp = 0b0_0010_0000
register_bit registers.Lv = 0b0_0001_0000
register_bit registers.Sp = 0b0_0000_1000
register_bit registers.Pc = 0b0_0000_0100
register_bit registers.Mdr = 0b0_0000_0010
register_bit registers.Mar = 0b0_0000_0001

-- whether a field C names the register
abbrev pub loads : ℕ → Destination → Bool
loads c register = c / register_bit register % 2 == 1
