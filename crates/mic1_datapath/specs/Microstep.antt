-- The microstep of Mic-1 (chapter 4; the order of events at the clock edge is this profile's). A statement assigns
-- whole words; `clock` is total, and `refusal` looks only at addresses.
use Rattle.std.specs.Prelude.{ℕ, true, Option, None}
use Rattle.mic1_datapath.specs.Common.{signed_byte, alu, shifted, World, Refusal, BusSource, PlacedNext, Part, Placed, NineRegisters, on_bus, arrived, loaded}
use Rattle.mic1_datapath.specs.Common.{ports_given, written, sampled, word_under_way, byte_under_way, access_refusal, next_address, Ports}
use Rattle.micro_word.specs.declared.statement.BusSource.TheVariants as sources
use Rattle.mic1_datapath.specs.Micro.{Micro}

-- 1. The operation is done on H and on what is on the B bus, and its result is shifted.

abbrev pub registers_in : Micro → NineRegisters
registers_in m =
    record { mar = m.mar; mdr = m.mdr; pc = m.pc; sp = m.sp; lv = m.lv; cpp = m.cpp; tos = m.tos; opc = m.opc; h = m.h }

-- MBR, with its sign and without
abbrev pub fetched : ℕ → BusSource → ℕ
fetched mbr sources.Mbr = signed_byte mbr
fetched mbr sources.Mbru = mbr
fetched mbr _ = 0

-- what is on the B bus: 0 when nothing drives it
abbrev pub source : Option BusSource → Micro → ℕ
source b m = on_bus (registers_in m) (fetched m.mbr) b

-- the result, of which N and Z are taken
abbrev pub result_of : Part → Micro → ℕ
result_of part m = alu part.op m.h (source part.b m)

-- 2. The destinations become the shifted result. Then an arriving word becomes MDR and an arriving byte MBR.

abbrev pub assigned : ℕ → ℕ → Micro → Micro
assigned dests v m =
    let r = loaded dests v m.word (registers_in m) in
    record {
      mar = r.mar;
      mdr = r.mdr;
      pc = r.pc;
      sp = r.sp;
      lv = r.lv;
      cpp = r.cpp;
      tos = r.tos;
      opc = r.opc;
      h = r.h;
      mbr = arrived m.byte m.mbr;
      mpc = m.mpc;
      word = None;
      byte = None;
      entry = m.entry;
      clocked = true;
    }

abbrev pub settled : Part → Micro → Micro
settled part m = assigned part.dests (shifted part.shift (result_of part m)) m

-- the registers that the memory's two ports are given
abbrev pub ports_of : Micro → Ports
ports_of m = ports_given (registers_in m)

-- 3. A write stores the new MDR at the new MAR.
-- 4. A read samples the word at the new MAR, and a fetch the byte at the new PC, in the world after the write. They arrive at the next edge.
-- 5. MPC becomes the target, where a branch tests the result and a dispatch takes the new MBR.

-- The five together, on a memory that has its words below `stack_end`.

-- the settled state m, where x is the result, with its next address and with this word and this byte under way
abbrev pub next_micro : PlacedNext → ℕ → Micro → Option ℕ → Option ℕ → Micro
next_micro next x m word byte = record m { mpc = next_address next x m.mbr; word = word; byte = byte }

abbrev pub clock : ℕ → Placed → Micro → World → Micro
clock stack_end s m w =
    let p = ports_of (settled s.part m) in
    let v = written stack_end s.part.mem p w in
    next_micro s.next (result_of s.part m) (settled s.part m) (word_under_way stack_end s.part.mem p v) (byte_under_way s.part.fetch p v)

abbrev pub world_after : ℕ → Placed → Micro → World → World
world_after stack_end s m w =
    let p = ports_of (settled s.part m) in
    sampled stack_end s.part.mem p (written stack_end s.part.mem p w)

-- Why the step is refused, if it is: a write, a read and a fetch are looked at in this order.

abbrev pub refusal : ℕ → Placed → Micro → Option Refusal
refusal stack_end s m = access_refusal stack_end s.part.mem s.part.fetch (ports_of (settled s.part m))
