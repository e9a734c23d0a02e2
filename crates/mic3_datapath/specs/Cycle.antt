-- The cycle of Mic-3 (chapter 4; when a statement waits, and the order of events at the clock edge, are this profile's).
-- A statement issues in one cycle, computes in the next and retires in the third: three statements are under way at a time.
use Rattle.std.specs.Prelude.{ℕ, ◌||◌, ◌&&◌, Bool, true, false, nat_lt, if◌then◌else◌, length, Option, Some, None, is_some}
use Rattle.mic3_datapath.specs.Common.{loads, alu, shifted, BusSource, Mem, PlacedNext, Part, Placed, World, Refusal, Outcome, is_read, written, sampled}
use Rattle.mic3_datapath.specs.Common.{word_under_way, memory_refusal, first_refusal, outcome, next_address, NineRegisters, loaded, ports_given, Prefetch}
use Rattle.micro_word.specs.declared.destination.Destination.TheVariants as registers
use Rattle.micro_word.specs.declared.statement.BusSource.TheVariants as sources
use Rattle.micro_word.specs.declared.statement.Mem.TheVariants as mems
use Rattle.micro_word.specs.declared.statement.PlacedNext.TheVariants as nexts
use Rattle.mic2_datapath.specs.Prelude.{advanced, byte_at, demand, is_to_instruction, jumps, next_micro, operand_bytes, registers_in, source, unit_after, unit_refusal}
use Rattle.mic3_datapath.specs.Pipeline.{Pipeline, Issued, Computed}

-- Hazards: why the statement at MPC waits. They depend on the statements in the operand slot (o) and in the result slot (r).

abbrev pub issued_in : Option Issued → Option Placed
issued_in None = None
issued_in (Some i) = Some i.statement

abbrev pub computed_in : Option Computed → Option Placed
computed_in None = None
computed_in (Some c) = Some c.statement

abbrev pub is_branch : PlacedNext → Bool
is_branch (nexts.Goto to) = false
is_branch (nexts.Dispatch high) = false
is_branch (nexts.Branch test low) = true

-- MPC is not known yet: a branch goes on once it has computed, and a dispatch to an instruction once it has retired
abbrev pub is_turning : Option Placed → Option Placed → Bool
is_turning None None = false
is_turning None (Some r) = is_to_instruction r.next
is_turning (Some o) None = is_branch o.next || is_to_instruction o.next
is_turning (Some o) (Some r) = is_branch o.next || is_to_instruction o.next || is_to_instruction r.next

-- whether the register on a side is one of these destinations
abbrev pub is_destination : ℕ → Option BusSource → Bool
is_destination c None = false
is_destination c (Some sources.Mdr) = loads c registers.Mdr
is_destination c (Some sources.Pc) = loads c registers.Pc
is_destination c (Some sources.Sp) = loads c registers.Sp
is_destination c (Some sources.Lv) = loads c registers.Lv
is_destination c (Some sources.Cpp) = loads c registers.Cpp
is_destination c (Some sources.Tos) = loads c registers.Tos
is_destination c (Some sources.Opc) = loads c registers.Opc
is_destination c (Some sources.H) = loads c registers.H
is_destination c (Some fetched) = false

-- whether a register on either side is one of these destinations
abbrev pub names_one_of : ℕ → Part → Bool
names_one_of c part = is_destination c part.a || is_destination c part.b

-- the statement in a slot has yet to load a register that this one names
abbrev pub awaits : Part → Option Placed → Bool
awaits part None = false
awaits part (Some s) = names_one_of s.part.dests part

abbrev pub is_mdr : Option BusSource → Bool
is_mdr (Some sources.Mdr) = true
is_mdr _ = false

abbrev pub names_mdr : Part → Bool
names_mdr part = is_mdr part.a || is_mdr part.b

-- a word will reach MDR from memory: one that has arrived, once a statement retires; or that of a read which retires before the statement after it
abbrev pub is_word_coming : Option ℕ → Option Placed → Option Placed → Bool
is_word_coming word None None = false
is_word_coming word None (Some r) = is_some word
is_word_coming word (Some o) None = is_some word
is_word_coming word (Some o) (Some r) = is_some word || is_read r.part.mem

-- the statement in a slot loads PC, and the bytes come from there then
abbrev pub is_jump_coming : Option Placed → Bool
is_jump_coming None = false
is_jump_coming (Some s) = jumps s.part

-- what is in the slots holds the statement up
abbrev pub is_held_up : Placed → Option ℕ → Option Placed → Option Placed → Bool
is_held_up s word o r =
    is_turning o r || awaits s.part o || awaits s.part r || (names_mdr s.part && is_word_coming word o r)
    || (nat_lt 0 (demand s) && (is_jump_coming o || is_jump_coming r))

-- the statement waits: it is held up, or it demands more bytes than the queue has
abbrev pub waits : Placed → Pipeline → Bool
waits s p = is_held_up s p.micro.word (issued_in p.operand) (computed_in p.result) || nat_lt (length p.micro.unit.bytes) (demand s)

-- Otherwise it issues, with what is on both sides. A dispatch takes the byte after its operand's.

abbrev pub dispatched : PlacedNext → ℕ → ℕ
dispatched (nexts.Goto to) byte = 0
dispatched (nexts.Dispatch high) byte = byte
dispatched (nexts.Branch test low) byte = 0

-- the byte of the queue that a statement dispatches to, if it does
abbrev pub dispatched_from : Placed → Prefetch → ℕ
dispatched_from s unit = dispatched s.next (byte_at unit (operand_bytes s.part))

abbrev pub issued_by : Placed → Pipeline → Issued
issued_by s p =
    record {
      statement = s;
      a = source s.part.a p.micro;
      b = source s.part.b p.micro;
      byte = dispatched_from s p.micro.unit;
    }

abbrev pub issued : Placed → Pipeline → Option Issued
issued s p = if waits s p then None else Some (issued_by s p)

-- The edge. `to_issue` is what issues in this cycle, if anything does.

-- this many bytes leave the queue
abbrev pub bytes_leaving : Option Issued → ℕ
bytes_leaving None = 0
bytes_leaving (Some i) = demand i.statement

-- First the statement in the result slot retires: its destinations take its value, and an arriving word becomes MDR.
-- Where nothing retires, an arriving word stays held.
abbrev pub retired : Option Computed → Option ℕ → NineRegisters → NineRegisters
retired None word r = r
retired (Some c) word r = loaded c.statement.part.dests c.value word r

-- PC goes on by the bytes that are taken, and none are taken where it is a destination.
abbrev pub settled : Option Issued → Pipeline → NineRegisters
settled to_issue p = retired p.result p.micro.word (record (registers_in p.micro) { pc = advanced (bytes_leaving to_issue) p.micro.pc })

-- the access of the statement that retires
abbrev pub mem_in : Option Computed → Mem
mem_in None = mems.None
mem_in (Some c) = c.statement.part.mem

-- the word under way after the edge
abbrev pub word_after : ℕ → Option Computed → Option ℕ → NineRegisters → World → Option ℕ
word_after stack_end None word r w = word
word_after stack_end (Some c) word r w = word_under_way stack_end c.statement.part.mem (ports_given r) w

-- Then the statement in the operand slot computes.

abbrev pub result_of : Issued → ℕ
result_of i = alu i.statement.part.op i.a i.b

abbrev pub computed : Option Issued → Option Computed
computed None = None
computed (Some i) = Some (record { statement = i.statement; value = shifted i.statement.part.shift (result_of i); byte = i.byte })

-- Each statement sets MPC as soon as its target is known: a dispatch to an instruction when it retires, a branch when it computes, all others when they issue.

abbrev pub from_retired : Option Computed → ℕ → ℕ
from_retired None mpc = mpc
from_retired (Some c) mpc = if is_to_instruction c.statement.next then next_address c.statement.next 0 c.byte else mpc

abbrev pub from_computed : Option Issued → ℕ → ℕ
from_computed None mpc = mpc
from_computed (Some i) mpc = if is_branch i.statement.next then next_address i.statement.next (result_of i) 0 else mpc

abbrev pub from_issued : Option Issued → ℕ → ℕ
from_issued None mpc = mpc
from_issued (Some i) mpc = if is_branch i.statement.next || is_to_instruction i.statement.next then mpc else next_address i.statement.next 0 i.byte

abbrev pub mpc_after : Option Issued → Pipeline → ℕ
mpc_after to_issue p = from_issued to_issue (from_computed p.operand (from_retired p.result p.micro.mpc))

-- an instruction begins where a dispatch to it has retired
abbrev pub begins : Option Computed → Bool
begins None = false
begins (Some c) = is_to_instruction c.statement.next

-- The fetch unit jumps where the retired statement loads PC, and otherwise has its edge, also where nothing issues.
abbrev pub clock : ℕ → Option Issued → Pipeline → World → Pipeline
clock stack_end to_issue p w =
    let r = settled to_issue p in
    let v = written stack_end (mem_in p.result) (ports_given r) w in
    record {
      micro = next_micro r (mpc_after to_issue p) (word_after stack_end p.result p.micro.word r v)
          (unit_after (is_jump_coming (computed_in p.result)) v.words r.pc (bytes_leaving to_issue) p.micro.unit) (begins p.result);
      operand = to_issue;
      result = computed p.operand;
    }

abbrev pub world_after : ℕ → Option Issued → Pipeline → World → World
world_after stack_end to_issue p w =
    let ports = ports_given (settled to_issue p) in
    sampled stack_end (mem_in p.result) ports (written stack_end (mem_in p.result) ports w)

-- Why a cycle is refused, if it is: a write, a read and the unit's fetch are looked at in this order.
abbrev pub refusal : ℕ → Option Issued → Pipeline → Option Refusal
refusal stack_end to_issue p =
    let r = settled to_issue p in
    first_refusal (memory_refusal stack_end (mem_in p.result) r.mar)
    (unit_refusal (is_jump_coming (computed_in p.result)) stack_end r.pc (bytes_leaving to_issue) p.micro.unit)

-- the cycle in which this issues, and the cycle of the statement at MPC
abbrev pub cycle_with : ℕ → Option Issued → Pipeline → World → Outcome Pipeline
cycle_with stack_end to_issue p w = outcome (refusal stack_end to_issue p) (clock stack_end to_issue p w) (world_after stack_end to_issue p w)

abbrev pub cycle : Placed → Pipeline → World → Outcome Pipeline
cycle s p w = cycle_with (length w.words) (issued s p) p w
