-- The cycle, computed on a whole run: BIPUSH 72, OUT, HALT in 23 cycles.
use Rattle.mic3_datapath.proofs.Common.{◌≡◌, ℕ, zero, suc, ◌==◌, if◌then◌else◌, List, [], ◌∷◌, Option, Some, None, Bool, true, false, refl, wrap, signed_byte}
use Rattle.mic3_datapath.proofs.Common.{AluOp, BusSource, Mem, Placed, PlacedNext, Goto, Dispatch, World, write_refusal, read_refusal, word_refusal, read_value}
use Rattle.mic3_datapath.proofs.Common.{untaken_after, given_after, Registers, Queue, Outcome, Done, Refused, edge, jump, edge_refusal, registers_of}
use Rattle.micro_word.specs.declared.statement.AluOp.TheVariants as ops
use Rattle.micro_word.specs.declared.statement.BusSource.TheVariants as sources
use Rattle.micro_word.specs.declared.statement.Mem.TheVariants as mems
use Rattle.micro_word.specs.declared.statement.Shift.TheVariants as shifts
use Rattle.mic3_datapath.specs.Prelude.{Pipeline, cycle_with, issued, initial}

abbrev word : ℕ → AluOp → Option BusSource → Option BusSource → Mem → PlacedNext → Placed
word dests op a b mem next =
    record { part = record { dests = dests; op = op; a = a; b = b; shift = shifts.None; mem = mem; fetch = false }; next = next }

-- the words of that program's instructions
abbrev word_at : ℕ → Placed
word_at mpc =
    if mpc == 0x002 then word 0 ops.Zero None None mems.None (Dispatch false) else  -- Main1 goto (MBR1)
    if mpc == 0x010 then word 66 ops.B None (Some sources.Mbr1) mems.None (Goto 0x003) else  -- bipush1 TOS=MDR=MBR1
    if mpc == 0x003 then word 9 ops.IncB None (Some sources.Sp) mems.Write (Dispatch false) else  -- bipush2 SP=MAR=SP+1; wr; goto (MBR1)
    if mpc == 0x0FD then word 384 ops.MinusOne None None mems.None (Goto 0x004) else  -- out1 H=OPC=-1
    if mpc == 0x004 then word 128 ops.Sum (Some sources.H) (Some sources.Opc) mems.None (Goto 0x005) else  -- out2 OPC=H+OPC
    if mpc == 0x005 then word 1 ops.Sum (Some sources.H) (Some sources.Opc) mems.None (Goto 0x006) else  -- out3 MAR=H+OPC
    if mpc == 0x006 then word 2 ops.B None (Some sources.Tos) mems.Write (Goto 0x007) else  -- out4 MDR=TOS; wr
    if mpc == 0x007 then word 9 ops.DecB None (Some sources.Sp) mems.Read (Goto 0x008) else  -- out5 SP=MAR=SP-1; rd
    if mpc == 0x008 then word 0 ops.Zero None None mems.None (Goto 0x009) else  -- out6
    word 64 ops.B None (Some sources.Mdr) mems.None (Dispatch false)  -- out7 TOS=MDR; goto (MBR1)

abbrev after : (Pipeline → World → Outcome Pipeline) → Outcome Pipeline → Outcome Pipeline
after more (Refused why) = Refused why
after more (Done p w) = more p w

-- a memory of few words, on a map that ends later
abbrev cycles : ℕ → Pipeline → World → Outcome Pipeline
cycles zero p w = Done p w
cycles (suc n) p w = after (cycles n) (cycle_with 0x10000 (issued (word_at p.micro.mpc) p) p w)

record Shown : Type 0 where
  registers : Registers
  begins : Bool
  given : List ℕ

abbrev shown : Outcome Pipeline → Option Shown
shown (Refused why) = None
shown (Done p w) = Some (record { registers = registers_of p.micro; begins = p.micro.begins; given = w.given })

abbrev run : ℕ → Option Shown
run n =
    shown
    (cycles n (initial (record { entry = 0x002; sp = 0x7FFF; first = 0x1048FDFF })) (record { words = 0x1048FDFF ∷ []; untaken = []; given = [] }))

-- at the boundary of HALT; no cycle before has written
hello : run 23
    ≡ Some (record {
      registers = record {
        mar = 0x7FFF;
        mdr = 0;
        pc = 4;
        sp = 0x7FFF;
        lv = 0x8000;
        cpp = 0x4000;
        tos = 0;
        opc = 0xFFFFFFFE;
        h = 0xFFFFFFFF;
        mpc = 0x0FF;
        tail = Queue (record { items = 0 ∷ 0 ∷ 0 ∷ 0 ∷ [] }) 2;
      };
      begins = true;
      given = 0x48 ∷ [];
    })
unfolding wrap signed_byte write_refusal read_refusal word_refusal read_value untaken_after given_after edge jump edge_refusal
hello = refl
