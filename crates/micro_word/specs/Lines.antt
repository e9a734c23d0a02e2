-- The control lines of a word: what its fields keep on for a whole cycle, and the places of a datapath that they name.
use Rattle.std.specs.Prelude.{◌≡◌, ◌≢◌, ℕ, ◌<◌, ◌≤◌, ◌+◌, ◌/◌, ◌%◌, ◌^◌, ◌==◌, ◌||◌, Bool, true, nat_lt, if◌then◌else◌, Option, Some, None}
use Rattle.mic_words.specs.declared.machine.Machine.{Machine}
use Rattle.micro_word.specs.declared.layout.Fields.{Fields}
use Rattle.micro_word.specs.declared.lines.Lines.{Lines}
use Rattle.micro_word.specs.declared.lines.TheConstants.{NOTHING, NOWHERE}
use Rattle.micro_word.specs.declared.statement.BusSource.{BusSource}
use Rattle.micro_word.specs.declared.statement.BusSource.TheVariants as bus
use Rattle.micro_word.specs.Coding.{op_of, a_of, source_of}

-- The registers stand at the places of their bits in the field C, and after them the fetched bytes: with and without their sign, one and two.
abbrev pub place_of : BusSource → ℕ
place_of bus.Mdr = 1
place_of bus.Pc = 2
place_of bus.Sp = 3
place_of bus.Lv = 4
place_of bus.Cpp = 5
place_of bus.Tos = 6
place_of bus.Opc = 7
place_of bus.H = 8
place_of bus.Mbr = 9
place_of bus.Mbru = 10
place_of bus.Mbr1 = 9
place_of bus.Mbr1u = 10
place_of bus.Mbr2 = 11
place_of bus.Mbr2u = 12

-- the place of what drives a bus: one that holds 0 where nothing does
abbrev pub place_on_bus : Option BusSource → ℕ
place_on_bus None = NOTHING
place_on_bus (Some source) = place_of source

-- whether a field C names the register at a place
abbrev pub names : ℕ → ℕ → Bool
names c place = c / 2 ^ place % 2 == 1

-- a line that reaches each bit of a word
abbrev pub on_each_bit : Bool → ℕ
on_each_bit on = if on then 0xFFFFFFFF else 0

-- the place of a destination, or NOWHERE
abbrev pub IsSlot : ℕ → ℕ → Type 0
IsSlot c place = place ≢ NOWHERE → (place < 9) × (names c place ≡ true)

-- each destination of a field C is one of two, or stands from `further` on
pub record AreSlots (c first second further : ℕ) : Type 0 where
  pub first_slot : IsSlot c first
  pub second_slot : IsSlot c second
  pub others : (place : ℕ) → place < 9 → names c place ≡ true → place ≢ first → place ≢ second → further ≤ place

-- how many bytes of Mic-2's queue stand at a place
abbrev pub bytes_shown : ℕ → ℕ
bytes_shown place = if place == 9 || place == 10 then 1 else if place == 11 || place == 12 then 2 else 0

-- how many bytes a word takes that names these places: the greater number that is shown there, and one more for a dispatch
abbrev pub bytes_taken : ℕ → ℕ → ℕ → ℕ
bytes_taken a b jam =
    let shown_a = bytes_shown a in
    let shown_b = bytes_shown b in
    (if nat_lt shown_a shown_b then shown_b else shown_a) + (if jam == 4 then 1 else 0)

-- the lines of a word with these fields
pub record AreLines (machine : Machine) (f : Fields) (l : Lines) : Type 0 where
  pub ena : l.ena ≡ on_each_bit (f.gates / 8 % 2 == 1)
  pub inva : l.inva ≡ on_each_bit (f.gates / 2 % 2 == 1)
  pub addr : l.addr ≡ f.addr
  pub a : l.a ≡ place_on_bus (a_of machine (op_of f.gates) f.a)
  pub b : l.b ≡ place_on_bus (source_of machine f.b)
  pub a_place : l.a < 16
  pub b_place : l.b < 16
  pub slots : AreSlots f.c l.first l.second l.further
  pub takes : l.takes ≡ bytes_taken l.a l.b f.jam
