-- Which statements have a word on a machine, and which numbers are the word of one. Each has one spelling: this profile's rule.
use Rattle.std.specs.Prelude.{◌≡◌, ℕ, Bool, true, false, not, ◌&&◌, ◌||◌, ◌==◌, nat_lt, ◌^◌, is_some, if◌then◌else◌, Option, Some, None, IsTrue}
use Rattle.mic_words.specs.declared.machine.Machine.{Machine}
use Rattle.mic_words.specs.declared.machine.Machine.TheVariants.{Mic1, Mic2}
use Rattle.micro_word.specs.declared.statement.AluOp.{AluOp}
use Rattle.micro_word.specs.declared.statement.AluOp.TheVariants as ops
use Rattle.micro_word.specs.declared.statement.BusSource.{BusSource}
use Rattle.micro_word.specs.declared.statement.BusSource.TheVariants as bus
use Rattle.micro_word.specs.declared.statement.PlacedNext.{PlacedNext}
use Rattle.micro_word.specs.declared.statement.PlacedNext.TheVariants as nexts
use Rattle.micro_word.specs.declared.statement.Part.{Part}
use Rattle.micro_word.specs.declared.statement.Placed.{Placed}
use Rattle.micro_word.specs.declared.layout.Fields.{Fields}
use Rattle.micro_word.specs.Layout.{fields_of}
use Rattle.micro_word.specs.Coding.{row, operation_of_gates, op_of, source_code, source_of, idle_code, codes, microword_of, statement_of}

-- A, NOT A and A+1 are not used on Mic-2
abbrev pub has_operation : Machine → AluOp → Bool
has_operation Mic1 op = true
has_operation Mic2 ops.A = false
has_operation Mic2 ops.NotA = false
has_operation Mic2 ops.IncA = false
has_operation Mic2 _ = true

abbrev pub is_h : BusSource → Bool
is_h bus.H = true
is_h _ = false

abbrev pub may_be_a : Machine → BusSource → Bool
may_be_a Mic1 source = is_h source
may_be_a Mic2 source = is_some (source_code Mic2 source)

abbrev pub may_be_b : Machine → BusSource → Bool
may_be_b machine source = is_some (source_code machine source)

-- a source that may stand there where the operation uses the side, and nothing otherwise
abbrev pub fits_side : Bool → (BusSource → Bool) → Option BusSource → Bool
fits_side used may None = not used
fits_side used may (Some source) = used && may source

-- MBR1 or MBR1U
abbrev pub is_byte : Option BusSource → Bool
is_byte (Some bus.Mbr1) = true
is_byte (Some bus.Mbr1u) = true
is_byte _ = false

-- MBR2 or MBR2U
abbrev pub is_pair : Option BusSource → Bool
is_pair (Some bus.Mbr2) = true
is_pair (Some bus.Mbr2u) = true
is_pair _ = false

-- one byte and two bytes of the queue in one word
abbrev pub is_mixed : Option BusSource → Option BusSource → Bool
is_mixed a b = (is_byte a && is_pair b) || (is_pair a && is_byte b)

-- only Mic-1 has a fetch
abbrev pub may_fetch : Machine → Bool → Bool
may_fetch Mic1 fetch = true
may_fetch Mic2 fetch = not fetch

abbrev pub is_part : Machine → Part → Bool
is_part machine p =
    nat_lt p.dests 512 && has_operation machine p.op && fits_side (row p.op).uses_a (may_be_a machine) p.a
    && fits_side (row p.op).uses_b (may_be_b machine) p.b && not (is_mixed p.a p.b) && may_fetch machine p.fetch

abbrev pub is_next : PlacedNext → Bool
is_next (nexts.Goto to) = nat_lt to 512
is_next (nexts.Dispatch high) = true
is_next (nexts.Branch test low) = nat_lt low 256

-- a statement that has a word on the machine
abbrev pub is_valid : Machine → Placed → Bool
is_valid machine p = is_part machine p.part && is_next p.next

-- a statement that has a word on the machine, condition by condition
pub record Valid (machine : Machine) (p : Placed) : Type 0 where
  pub dests : IsTrue (nat_lt p.part.dests 512)
  pub op : IsTrue (has_operation machine p.part.op)
  pub a : IsTrue (fits_side (row p.part.op).uses_a (may_be_a machine) p.part.a)
  pub b : IsTrue (fits_side (row p.part.op).uses_b (may_be_b machine) p.part.b)
  pub apart : IsTrue (not (is_mixed p.part.a p.part.b))
  pub fetch : IsTrue (may_fetch machine p.part.fetch)
  pub next : IsTrue (is_next p.next)

-- a number is canonical where it is the word of a valid statement
abbrev pub IsCanonical : Machine → ℕ → Type 0
IsCanonical machine word = (p : Placed) × IsTrue (is_valid machine p) × (microword_of machine p ≡ word)

-- The same conditions on the fields of a word.

-- the six bits are a row of the table that the machine uses
abbrev pub is_row : Machine → ℕ → Bool
is_row machine gates = is_some (operation_of_gates gates) && has_operation machine (op_of gates)

-- a source's code where the operation uses the side, and the code for nothing otherwise
abbrev pub is_side : Machine → Bool → ℕ → Bool
is_side machine used code = if used then nat_lt code (idle_code machine) else code == idle_code machine

abbrev pub is_side_a : Machine → Bool → ℕ → Bool
is_side_a Mic1 used code = true
is_side_a Mic2 used code = is_side Mic2 used code

-- MBR1 or MBR1U does not stand with MBR2 or MBR2U
abbrev pub are_apart : Machine → ℕ → ℕ → Bool
are_apart Mic1 a b = true
are_apart Mic2 a b = not (is_mixed (source_of Mic2 a) (source_of Mic2 b))

-- JAM is 000; or 100 with Addr 0x000 or 0x100; or 010 or 001 with Addr below 256
abbrev pub is_target : ℕ → ℕ → Bool
is_target jam addr = jam == 0 || (jam == 4 && (addr == 0 || addr == 256)) || ((jam == 2 || jam == 1) && nat_lt addr 256)

-- not both of two bits: SLL8 and SRA1, or WRITE and READ
abbrev pub is_one_at_most : ℕ → Bool
is_one_at_most bits = not (bits == 3)

abbrev pub are_canonical : Machine → Fields → Bool
are_canonical machine f =
    is_row machine f.gates && is_one_at_most f.shift && is_side_a machine (row (op_of f.gates)).uses_a f.a
    && is_side machine (row (op_of f.gates)).uses_b f.b && are_apart machine f.a f.b && is_one_at_most f.mem && is_target f.jam f.addr

-- 36 and 39 bits
abbrev pub word_end : Machine → ℕ
word_end Mic1 = 2 ^ 36
word_end Mic2 = 2 ^ 39

-- no further bits, and the conditions on the fields
unfoldable pub is_canonical : Machine → ℕ → Bool
is_canonical machine word = nat_lt word (word_end machine) && are_canonical machine (fields_of machine word)

-- the word of the statement is canonical
abbrev pub HasCanonicalWord : Machine → Placed → Type 0
HasCanonicalWord machine p = IsTrue (is_canonical machine (microword_of machine p))

abbrev pub decoded_as : Machine → ℕ → Option Placed
decoded_as machine word = if is_canonical machine word then Some (statement_of machine word) else None

-- a word spells a statement: it is the statement's word, and its fields are the statement's codes
pub record SpellsWord (machine : Machine) (word : ℕ) (p : Placed) : Type 0 where
  pub valid : IsTrue (is_valid machine p)
  pub whole : microword_of machine p ≡ word
  pub fields : fields_of machine word ≡ codes machine p
