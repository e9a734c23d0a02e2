-- The microstep of Mic-2 (chapter 4; the order of events at the clock edge is this profile's). A statement assigns
-- whole words, or waits for the bytes that it names.
use Rattle.std.specs.Prelude.{ℕ, zero, suc, ◌+◌, ◌*◌, ◌/◌, ◌||◌, Bool, true, false, not, nat_lt, if◌then◌else◌, List, length, slice_index, Option, Some, Result}
use Rattle.mic2_datapath.specs.Common.{plus, signed_byte, signed_pair, is_byte, is_pair, loads, alu, shifted, Mem, BusSource, PlacedNext, Part, Placed}
use Rattle.mic2_datapath.specs.Common.{IsDoneUnless, World, Refusal, BusFault, Outcome, NineRegisters, on_bus, loaded, ports_given, written, sampled}
use Rattle.mic2_datapath.specs.Common.{word_under_way, memory_refusal, first_refusal, outcome, next_address, Prefetch, edge, jump, sampled_at, edge_refusal}
use Rattle.mic2_datapath.specs.Common.{jump_refusal, sample_refusal}
use Rattle.micro_word.specs.declared.destination.Destination.TheVariants as registers
use Rattle.micro_word.specs.declared.statement.BusSource.TheVariants as sources
use Rattle.micro_word.specs.declared.statement.PlacedNext.TheVariants as nexts
use Rattle.mic2_datapath.specs.Micro.{Micro}

-- A statement demands one byte of the queue where it names MBR1 or MBR1U, two where it names MBR2 or MBR2U, and for a dispatch one more after them.

abbrev pub operand_bytes : Part → ℕ
operand_bytes part = if is_pair part.a || is_pair part.b then 2 else if is_byte part.a || is_byte part.b then 1 else 0

abbrev pub dispatch_bytes : PlacedNext → ℕ
dispatch_bytes (nexts.Goto to) = 0
dispatch_bytes (nexts.Dispatch high) = 1
dispatch_bytes (nexts.Branch test low) = 0

abbrev pub demand : Placed → ℕ
demand s = operand_bytes s.part + dispatch_bytes s.next

-- Where fewer are available, the cycle stalls: the fetch unit has its edge, and all else stays.

abbrev pub is_stalled : Placed → Micro → Bool
is_stalled s m = nat_lt (length m.unit.bytes) (demand s)

abbrev pub stalled : List ℕ → Micro → Micro
stalled words m = record m { unit = edge words 0 m.unit; begins = false }

-- Else the operation is done on what is on both buses, and its result is shifted.

abbrev pub registers_in : Micro → NineRegisters
registers_in m =
    record { mar = m.mar; mdr = m.mdr; pc = m.pc; sp = m.sp; lv = m.lv; cpp = m.cpp; tos = m.tos; opc = m.opc; h = m.h }

-- the byte at a place of the queue
abbrev pub byte_at : Prefetch → ℕ → ℕ
byte_at u place = slice_index u.bytes place

-- the front of the queue, with its sign and without
abbrev pub fetched : (ℕ → ℕ) → BusSource → ℕ
fetched bytes sources.Mbr1 = signed_byte (bytes 0)
fetched bytes sources.Mbr1u = bytes 0
fetched bytes sources.Mbr2 = signed_pair (bytes 0) (bytes 1)
fetched bytes sources.Mbr2u = 256 * bytes 0 + bytes 1
fetched bytes _ = 0

-- what is on a bus: 0 when nothing drives it
abbrev pub source : Option BusSource → Micro → ℕ
source side m = on_bus (registers_in m) (fetched (byte_at m.unit)) side

-- the result, of which N and Z are taken
abbrev pub result_of : Part → Micro → ℕ
result_of part m = alu part.op (source part.a m) (source part.b m)

-- PC goes on past the bytes that are taken. The destinations become the shifted result, and then an arriving word becomes MDR.

abbrev pub advanced : ℕ → ℕ → ℕ
advanced zero pc = pc
advanced (suc taken) pc = plus pc (suc taken)

-- these registers, with PC past the bytes that are taken
abbrev pub past : ℕ → NineRegisters → NineRegisters
past taken r = record r { pc = advanced taken r.pc }

abbrev pub settled : Placed → Micro → NineRegisters
settled s m =
    loaded s.part.dests (shifted s.part.shift (result_of s.part m)) m.word (record (registers_in m) { pc = advanced (demand s) m.pc })

-- A write stores the new MDR at the new MAR, and a read samples the word there, in the world after the write.
-- In that world the fetch unit has its edge too: it loses the bytes that are taken, or jumps to the new PC where PC is a destination.

abbrev pub jumps : Part → Bool
jumps part = loads part.dests registers.Pc

abbrev pub unit_after : Bool → List ℕ → ℕ → ℕ → Prefetch → Prefetch
unit_after true words pc taken u = jump words pc
unit_after false words pc taken u = edge words taken u

-- MPC becomes the target, where a branch tests the result and a dispatch takes the byte after the operand's.
-- A dispatch from 0x000 on goes to an instruction's first word.

abbrev pub is_to_instruction : PlacedNext → Bool
is_to_instruction (nexts.Goto to) = false
is_to_instruction (nexts.Dispatch high) = not high
is_to_instruction (nexts.Branch test low) = false

-- these registers, with MPC, with this word under way and this fetch unit
abbrev pub next_micro : NineRegisters → ℕ → Option ℕ → Prefetch → Bool → Micro
next_micro r mpc word unit begins =
    record {
      mar = r.mar;
      mdr = r.mdr;
      pc = r.pc;
      sp = r.sp;
      lv = r.lv;
      cpp = r.cpp;
      tos = r.tos;
      opc = r.opc;
      h = r.h;
      mpc = mpc;
      word = word;
      unit = unit;
      begins = begins;
    }

-- after the edge, with the result x, with this word under way and the unit over these words
abbrev pub moved_on : Placed → Micro → ℕ → List ℕ → Option ℕ → Micro
moved_on s m x words word =
    let r = settled s m in
    next_micro r (next_address s.next x (byte_at m.unit (operand_bytes s.part))) word (unit_after (jumps s.part) words r.pc (demand s) m.unit)
    (is_to_instruction s.next)

abbrev pub clock : ℕ → Placed → Micro → World → Micro
clock stack_end s m w =
    let r = settled s m in
    let v = written stack_end s.part.mem (ports_given r) w in
    next_micro r (next_address s.next (result_of s.part m) (byte_at m.unit (operand_bytes s.part))) (word_under_way stack_end s.part.mem (ports_given r) v)
    (unit_after (jumps s.part) v.words r.pc (demand s) m.unit) (is_to_instruction s.next)

abbrev pub world_after : ℕ → Placed → Micro → World → World
world_after stack_end s m w =
    let p = ports_given (settled s m) in
    sampled stack_end s.part.mem p (written stack_end s.part.mem p w)

-- the word address that the unit samples, if it samples one

abbrev pub unit_samples : Bool → ℕ → ℕ → Prefetch → Option ℕ
unit_samples true pc taken u = Some (pc / 4)
unit_samples false pc taken u = sampled_at taken u

-- Why a step is refused, if it is: a write, a read and the unit's fetch are looked at in this order.

abbrev pub unit_refusal : Bool → ℕ → ℕ → ℕ → Prefetch → Option Refusal
unit_refusal true stack_end pc taken u = jump_refusal stack_end pc
unit_refusal false stack_end pc taken u = edge_refusal stack_end taken u

abbrev pub refusal : ℕ → Placed → Micro → Option Refusal
refusal stack_end s m =
    let r = settled s m in
    first_refusal (memory_refusal stack_end s.part.mem r.mar) (unit_refusal (jumps s.part) stack_end r.pc (demand s) m.unit)

-- the unit has its edge or jumps, unless the word that it samples is refused
abbrev pub HasUnitEdge : {T : Type 0} → Bool → List ℕ → ℕ → ℕ → Prefetch → Prefetch → Result T BusFault → Type 0
HasUnitEdge jump words pc taken u u' result =
    IsDoneUnless (sample_refusal (length words) (unit_samples jump pc taken u)) u (unit_after jump words pc taken u) u' result

-- why the word that the unit samples at the edge is refused, if it is
abbrev pub unit_refused : ℕ → Placed → Micro → Option Refusal
unit_refused stack_end s m = sample_refusal stack_end (unit_samples (jumps s.part) (settled s m).pc (demand s) m.unit)

-- why a step is refused, by the word address that the unit samples, if it samples one
abbrev pub access_refusal : ℕ → Mem → ℕ → Option ℕ → Option Refusal
access_refusal stack_end mem mar at = first_refusal (memory_refusal stack_end mem mar) (sample_refusal stack_end at)

abbrev pub step_if : Bool → ℕ → Placed → Micro → World → Outcome Micro
step_if true stack_end s m w = outcome (edge_refusal stack_end 0 m.unit) (stalled w.words m) w
step_if false stack_end s m w = outcome (refusal stack_end s m) (clock stack_end s m w) (world_after stack_end s m w)

abbrev pub microstep : Placed → Micro → World → Outcome Micro
microstep s m w = step_if (is_stalled s m) (length w.words) s m w
