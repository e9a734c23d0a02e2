-- How a placed statement stands in a word, by chapter 4: the code of each of its parts, and the part of each code.
use Rattle.std.specs.Prelude.{ℕ, Bool, true, false, ◌==◌, if◌then◌else◌, List, [], ◌∷◌, find, Option, Some, None, unwrap_or}
use Rattle.mic_words.specs.declared.machine.Machine.{Machine}
use Rattle.mic_words.specs.declared.machine.Machine.TheVariants.{Mic1, Mic2}
use Rattle.micro_word.specs.declared.statement.AluOp.{AluOp}
use Rattle.micro_word.specs.declared.statement.AluOp.TheVariants as ops
use Rattle.micro_word.specs.declared.statement.BusSource.{BusSource}
use Rattle.micro_word.specs.declared.statement.BusSource.TheVariants as bus
use Rattle.micro_word.specs.declared.statement.Shift.{Shift}
use Rattle.micro_word.specs.declared.statement.Shift.TheVariants as shifts
use Rattle.micro_word.specs.declared.statement.Mem.{Mem}
use Rattle.micro_word.specs.declared.statement.Mem.TheVariants as mems
use Rattle.micro_word.specs.declared.statement.Test.TheVariants as tests
use Rattle.micro_word.specs.declared.statement.PlacedNext.{PlacedNext}
use Rattle.micro_word.specs.declared.statement.PlacedNext.TheVariants as nexts
use Rattle.micro_word.specs.declared.statement.Part.{Part}
use Rattle.micro_word.specs.declared.statement.Placed.{Placed}
use Rattle.micro_word.specs.declared.operation.OperationRow.{OperationRow}
use Rattle.micro_word.specs.declared.layout.Fields.{Fields}
use Rattle.micro_word.specs.Layout.{word_with, fields_of}

-- a statement without parts: it computes 0 and stores it nowhere
abbrev pub idle : Part
idle = record { dests = 0; op = ops.Zero; a = None; b = None; shift = shifts.None; mem = mems.None; fetch = false }

abbrev pub entry : ℕ → Bool → Bool → OperationRow
entry gates uses_a uses_b = record { gates = gates; uses_a = uses_a; uses_b = uses_b }

-- the table of operations: the gates, whether it uses side A and side B, and as a comment what it gives
abbrev pub row : AluOp → OperationRow
-- operation   F0 F1 ENA ENB INVA INC   uses A   uses B   gives
row ops.A = entry 0b011000 true false  -- A
row ops.B = entry 0b010100 false true  -- B
row ops.NotA = entry 0b011010 true false  -- NOT A
row ops.NotB = entry 0b101100 false true  -- NOT B
row ops.Sum = entry 0b111100 true true  -- A+B
row ops.SumInc = entry 0b111101 true true  -- A+B+1
row ops.IncA = entry 0b111001 true false  -- A+1
row ops.IncB = entry 0b110101 false true  -- B+1
row ops.Sub = entry 0b111111 true true  -- B-A
row ops.DecB = entry 0b110110 false true  -- B-1
row ops.NegA = entry 0b111011 true false  -- -A
row ops.And = entry 0b001100 true true  -- A AND B
row ops.Or = entry 0b011100 true true  -- A OR B
row ops.Zero = entry 0b010000 false false  -- 0
row ops.One = entry 0b110001 false false  -- 1
row ops.MinusOne = entry 0b110010 false false  -- -1

-- the operations in the table's order
abbrev pub operations : List AluOp
operations =
    ops.A ∷ ops.B ∷ ops.NotA ∷ ops.NotB ∷ ops.Sum ∷ ops.SumInc ∷ ops.IncA ∷ ops.IncB ∷ ops.Sub ∷ ops.DecB ∷ ops.NegA
    ∷ ops.And ∷ ops.Or ∷ ops.Zero ∷ ops.One ∷ ops.MinusOne ∷ []

-- the operation of six bits, where they are a row
abbrev pub operation_of_gates : ℕ → Option AluOp
operation_of_gates gates = find (λ op. gates == (row op).gates) operations

abbrev pub op_of : ℕ → AluOp
op_of gates = unwrap_or (operation_of_gates gates) ops.MinusOne

-- SLL8 and SRA1
abbrev pub shift_bits : Shift → ℕ
shift_bits shifts.None = 0
shift_bits shifts.Left8 = 2
shift_bits shifts.Right1 = 1

abbrev pub shift_of : ℕ → Shift
shift_of bits = if bits == 2 then shifts.Left8 else if bits == 1 then shifts.Right1 else shifts.None

-- WRITE and READ
abbrev pub mem_bits : Mem → ℕ
mem_bits mems.None = 0
mem_bits mems.Read = 1
mem_bits mems.Write = 2

abbrev pub mem_of : ℕ → Mem
mem_of bits = if bits == 2 then mems.Write else if bits == 1 then mems.Read else mems.None

-- Mic-2 has no FETCH
abbrev pub fetch_bit : Machine → Bool → ℕ
fetch_bit Mic1 fetch = if fetch then 1 else 0
fetch_bit Mic2 fetch = 0

-- the code of a source, where it has one: in the field B of Mic-1, and in A and B of Mic-2
abbrev pub source_code : Machine → BusSource → Option ℕ
source_code Mic1 bus.Mdr = Some 0
source_code Mic1 bus.Pc = Some 1
source_code Mic1 bus.Mbr = Some 2
source_code Mic1 bus.Mbru = Some 3
source_code Mic1 bus.Sp = Some 4
source_code Mic1 bus.Lv = Some 5
source_code Mic1 bus.Cpp = Some 6
source_code Mic1 bus.Tos = Some 7
source_code Mic1 bus.Opc = Some 8
source_code Mic1 bus.Mbr1 = None
source_code Mic1 bus.Mbr1u = None
source_code Mic1 bus.Mbr2 = None
source_code Mic1 bus.Mbr2u = None
source_code Mic1 bus.H = None
source_code Mic2 bus.Mdr = Some 0
source_code Mic2 bus.Pc = Some 1
source_code Mic2 bus.Mbr1 = Some 2
source_code Mic2 bus.Mbr1u = Some 3
source_code Mic2 bus.Sp = Some 4
source_code Mic2 bus.Lv = Some 5
source_code Mic2 bus.Cpp = Some 6
source_code Mic2 bus.Tos = Some 7
source_code Mic2 bus.Opc = Some 8
source_code Mic2 bus.Mbr2 = Some 9
source_code Mic2 bus.Mbr2u = Some 10
source_code Mic2 bus.H = Some 11
source_code Mic2 bus.Mbr = None
source_code Mic2 bus.Mbru = None

abbrev pub sources : List BusSource
sources =
    bus.Mdr ∷ bus.Pc ∷ bus.Mbr ∷ bus.Mbru ∷ bus.Sp ∷ bus.Lv ∷ bus.Cpp ∷ bus.Tos ∷ bus.Opc
    ∷ bus.Mbr1 ∷ bus.Mbr1u ∷ bus.Mbr2 ∷ bus.Mbr2u ∷ bus.H ∷ []

-- the canonical code for nothing
abbrev pub idle_code : Machine → ℕ
idle_code Mic1 = 9
idle_code Mic2 = 12

abbrev pub bus_code : Machine → Option BusSource → ℕ
bus_code machine None = idle_code machine
bus_code machine (Some source) = unwrap_or (source_code machine source) (idle_code machine)

abbrev pub is_code : ℕ → Option ℕ → Bool
is_code code None = false
is_code code (Some other) = code == other

-- the source of a code; a code of no source drives nothing
abbrev pub source_of : Machine → ℕ → Option BusSource
source_of machine code = find (λ source. is_code code (source_code machine source)) sources

-- Mic-1 has no field A: there H is on that side where the operation uses it
abbrev pub a_code : Machine → Option BusSource → ℕ
a_code Mic1 a = 0
a_code Mic2 a = bus_code Mic2 a

abbrev pub a_of : Machine → AluOp → ℕ → Option BusSource
a_of Mic1 op code = if (row op).uses_a then Some bus.H else None
a_of Mic2 op code = source_of Mic2 code

-- JMPC, JAMN and JAMZ
abbrev pub jam_bits : PlacedNext → ℕ
jam_bits (nexts.Goto to) = 0
jam_bits (nexts.Dispatch high) = 4
jam_bits (nexts.Branch tests.N low) = 2
jam_bits (nexts.Branch tests.Z low) = 1

abbrev pub addr_bits : PlacedNext → ℕ
addr_bits (nexts.Goto to) = to
addr_bits (nexts.Dispatch high) = if high then 256 else 0
addr_bits (nexts.Branch test low) = low

abbrev pub decoded_next : ℕ → ℕ → PlacedNext
decoded_next jam addr =
    if jam == 0 then nexts.Goto addr else
    if jam == 4 then nexts.Dispatch (addr == 256) else
    if jam == 2 then nexts.Branch tests.N addr else nexts.Branch tests.Z addr

-- the fields that spell a statement
abbrev pub codes : Machine → Placed → Fields
codes machine p =
    record {
      addr = addr_bits p.next;
      jam = jam_bits p.next;
      shift = shift_bits p.part.shift;
      gates = (row p.part.op).gates;
      c = p.part.dests;
      mem = mem_bits p.part.mem;
      fetch = fetch_bit machine p.part.fetch;
      a = a_code machine p.part.a;
      b = bus_code machine p.part.b;
    }

-- the statement that fields name
abbrev pub named : Machine → Fields → Placed
named machine f =
    record {
      part = record {
        dests = f.c;
        op = op_of f.gates;
        a = a_of machine (op_of f.gates) f.a;
        b = source_of machine f.b;
        shift = shift_of f.shift;
        mem = mem_of f.mem;
        fetch = f.fetch == 1;
      };
      next = decoded_next f.jam f.addr;
    }

-- the word of a placed statement, a sum of fields
abbrev pub microword_of : Machine → Placed → ℕ
microword_of machine p = word_with machine (codes machine p)

-- the statement that a number's fields name
unfoldable pub statement_of : Machine → ℕ → Placed
statement_of machine word = named machine (fields_of machine word)
