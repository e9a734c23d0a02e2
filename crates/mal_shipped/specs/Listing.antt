-- The shipped microprograms, statement by statement in their order: each with its address, and as the control store has it.
use Rattle.std.specs.Prelude.{ℕ, Bool, true, false, List, [], ◌∷◌, Option, Some, None, map, option_map, codes}
use Rattle.mic_words.specs.declared.machine.Machine.{Machine}
use Rattle.mic_words.specs.declared.machine.Machine.TheVariants.{Mic1, Mic2}
use Rattle.micro_word.specs.declared.statement.AluOp.{AluOp}
use Rattle.micro_word.specs.declared.statement.AluOp.TheVariants as ops
use Rattle.micro_word.specs.declared.statement.BusSource.{BusSource}
use Rattle.micro_word.specs.declared.statement.BusSource.TheVariants as sources
use Rattle.micro_word.specs.declared.statement.Shift.{Shift}
use Rattle.micro_word.specs.declared.statement.Shift.TheVariants as shifts
use Rattle.micro_word.specs.declared.statement.Shift.TheVariants.{None as Unshifted}
use Rattle.micro_word.specs.declared.statement.Mem.{Mem}
use Rattle.micro_word.specs.declared.statement.Mem.TheVariants.{None as Idle, Read, Write}
use Rattle.micro_word.specs.declared.statement.Test.TheVariants.{N, Z}
use Rattle.micro_word.specs.declared.statement.Part.{Part}
use Rattle.micro_word.specs.declared.statement.Placed.{Placed}
use Rattle.micro_word.specs.declared.statement.PlacedNext.{PlacedNext}
use Rattle.micro_word.specs.declared.statement.PlacedNext.TheVariants as to
use Rattle.mal_line.specs.declared.next.Next.{Next}
use Rattle.mal_line.specs.declared.next.Next.TheVariants as nexts
use Rattle.mal_parser.specs.declared.statement.Statement.{Statement}
use Rattle.mal_parser.specs.Prelude.{MalView}
use Rattle.mal_shipped.specs.declared.mic1.TheConstants.{MIC1}
use Rattle.mal_shipped.specs.declared.mic2.TheConstants.{MIC2}

abbrev pub part_of : ℕ → AluOp → Option BusSource → Option BusSource → Shift → Mem → Bool → Part
part_of dests op a b shift mem fetch = record { dests = dests; op = op; a = a; b = b; shift = shift; mem = mem; fetch = fetch }

-- an address, the statement of the text, and the same statement in the control store
pub record ListingRow : Type 0 where
  pub address : ℕ
  pub statement : Statement
  pub placed : Placed

-- address, label, the address that it is fixed at, destinations, operation, sources, shift, memory, whether it fetches,
-- where it goes in the text, and in the store
abbrev pub row : ℕ → List ℕ → Option ℕ → ℕ → AluOp → Option BusSource → Option BusSource → Shift → Mem → Bool → Next ℕ → PlacedNext → ListingRow
row address label fixed dests op a b shift mem fetch next stored =
    record {
      address = address;
      statement = record { label = Some label; line = 0; part = part_of dests op a b shift mem fetch; next = next; fixed = fixed };
      placed = record { part = part_of dests op a b shift mem fetch; next = stored };
    }

abbrev pub default_to : ℕ → Statement
default_to err = record { label = None; line = 0; part = part_of 0 ops.Zero None None Unshifted Idle false; next = nexts.Goto err; fixed = None }

abbrev pub table1 : List ListingRow
table1 =
    row 0x002 (codes "Main1") None 0x004 ops.IncB None (Some sources.Pc) Unshifted Idle true (nexts.Dispatch false) (to.Dispatch false) ∷
    row 0x000 (codes "nop1") (Some 0x000) 0x000 ops.Zero None None Unshifted Idle false (nexts.Goto 0) (to.Goto 0x002) ∷
    row 0x060 (codes "iadd1") (Some 0x060) 0x009 ops.DecB None (Some sources.Sp) Unshifted Read false nexts.Following (to.Goto 0x003) ∷
    row 0x003 (codes "iadd2") None 0x100 ops.B None (Some sources.Tos) Unshifted Idle false nexts.Following (to.Goto 0x004) ∷
    row 0x004 (codes "iadd3") None 0x042 ops.Sum (Some sources.H) (Some sources.Mdr) Unshifted Write false (nexts.Goto 0) (to.Goto 0x002) ∷
    row 0x064 (codes "isub1") (Some 0x064) 0x009 ops.DecB None (Some sources.Sp) Unshifted Read false nexts.Following (to.Goto 0x005) ∷
    row 0x005 (codes "isub2") None 0x100 ops.B None (Some sources.Tos) Unshifted Idle false nexts.Following (to.Goto 0x006) ∷
    row 0x006 (codes "isub3") None 0x042 ops.Sub (Some sources.H) (Some sources.Mdr) Unshifted Write false (nexts.Goto 0) (to.Goto 0x002) ∷
    row 0x07e (codes "iand1") (Some 0x07e) 0x009 ops.DecB None (Some sources.Sp) Unshifted Read false nexts.Following (to.Goto 0x007) ∷
    row 0x007 (codes "iand2") None 0x100 ops.B None (Some sources.Tos) Unshifted Idle false nexts.Following (to.Goto 0x008) ∷
    row 0x008 (codes "iand3") None 0x042 ops.And (Some sources.H) (Some sources.Mdr) Unshifted Write false (nexts.Goto 0) (to.Goto 0x002) ∷
    row 0x0b0 (codes "ior1") (Some 0x0b0) 0x009 ops.DecB None (Some sources.Sp) Unshifted Read false nexts.Following (to.Goto 0x009) ∷
    row 0x009 (codes "ior2") None 0x100 ops.B None (Some sources.Tos) Unshifted Idle false nexts.Following (to.Goto 0x00a) ∷
    row 0x00a (codes "ior3") None 0x042 ops.Or (Some sources.H) (Some sources.Mdr) Unshifted Write false (nexts.Goto 0) (to.Goto 0x002) ∷
    row 0x080 (codes "ior80") (Some 0x080) 0x009 ops.DecB None (Some sources.Sp) Unshifted Read false (nexts.Goto 12) (to.Goto 0x009) ∷
    row 0x059 (codes "dup1") (Some 0x059) 0x009 ops.IncB None (Some sources.Sp) Unshifted Idle false nexts.Following (to.Goto 0x00b) ∷
    row 0x00b (codes "dup2") None 0x002 ops.B None (Some sources.Tos) Unshifted Write false (nexts.Goto 0) (to.Goto 0x002) ∷
    row 0x057 (codes "pop1") (Some 0x057) 0x009 ops.DecB None (Some sources.Sp) Unshifted Read false nexts.Following (to.Goto 0x00c) ∷
    row 0x00c (codes "pop2") None 0x000 ops.Zero None None Unshifted Idle false nexts.Following (to.Goto 0x00d) ∷
    row 0x00d (codes "pop3") None 0x040 ops.B None (Some sources.Mdr) Unshifted Idle false (nexts.Goto 0) (to.Goto 0x002) ∷
    row 0x05f (codes "swap1") (Some 0x05f) 0x001 ops.DecB None (Some sources.Sp) Unshifted Read false nexts.Following (to.Goto 0x00e) ∷
    row 0x00e (codes "swap2") None 0x001 ops.B None (Some sources.Sp) Unshifted Idle false nexts.Following (to.Goto 0x00f) ∷
    row 0x00f (codes "swap3") None 0x100 ops.B None (Some sources.Mdr) Unshifted Write false nexts.Following (to.Goto 0x011) ∷
    row 0x011 (codes "swap4") None 0x002 ops.B None (Some sources.Tos) Unshifted Idle false nexts.Following (to.Goto 0x012) ∷
    row 0x012 (codes "swap5") None 0x001 ops.DecB None (Some sources.Sp) Unshifted Write false nexts.Following (to.Goto 0x014) ∷
    row 0x014 (codes "swap6") None 0x040 ops.A (Some sources.H) None Unshifted Idle false (nexts.Goto 0) (to.Goto 0x002) ∷
    row 0x010 (codes "bipush1") (Some 0x010) 0x009 ops.IncB None (Some sources.Sp) Unshifted Idle false nexts.Following (to.Goto 0x016) ∷
    row 0x016 (codes "bipush2") None 0x004 ops.IncB None (Some sources.Pc) Unshifted Idle true nexts.Following (to.Goto 0x017) ∷
    row 0x017 (codes "bipush3") None 0x042 ops.B None (Some sources.Mbr) Unshifted Write false (nexts.Goto 0) (to.Goto 0x002) ∷
    row 0x015 (codes "iload1") (Some 0x015) 0x100 ops.B None (Some sources.Lv) Unshifted Idle false nexts.Following (to.Goto 0x018) ∷
    row 0x018 (codes "iload2") None 0x001 ops.Sum (Some sources.H) (Some sources.Mbru) Unshifted Read false nexts.Following (to.Goto 0x019) ∷
    row 0x019 (codes "iload3") None 0x009 ops.IncB None (Some sources.Sp) Unshifted Idle false nexts.Following (to.Goto 0x01a) ∷
    row 0x01a (codes "iload4") None 0x004 ops.IncB None (Some sources.Pc) Unshifted Write true nexts.Following (to.Goto 0x01b) ∷
    row 0x01b (codes "iload5") None 0x040 ops.B None (Some sources.Mdr) Unshifted Idle false (nexts.Goto 0) (to.Goto 0x002) ∷
    row 0x036 (codes "istore1") (Some 0x036) 0x100 ops.B None (Some sources.Lv) Unshifted Idle false nexts.Following (to.Goto 0x01c) ∷
    row 0x01c (codes "istore2") None 0x001 ops.Sum (Some sources.H) (Some sources.Mbru) Unshifted Idle false nexts.Following (to.Goto 0x01d) ∷
    row 0x01d (codes "istore3") None 0x002 ops.B None (Some sources.Tos) Unshifted Write false nexts.Following (to.Goto 0x01e) ∷
    row 0x01e (codes "istore4") None 0x009 ops.DecB None (Some sources.Sp) Unshifted Read false nexts.Following (to.Goto 0x01f) ∷
    row 0x01f (codes "istore5") None 0x004 ops.IncB None (Some sources.Pc) Unshifted Idle true nexts.Following (to.Goto 0x020) ∷
    row 0x020 (codes "istore6") None 0x040 ops.B None (Some sources.Mdr) Unshifted Idle false (nexts.Goto 0) (to.Goto 0x002) ∷
    row 0x0c4 (codes "wide1") (Some 0x0c4) 0x004 ops.IncB None (Some sources.Pc) Unshifted Idle true (nexts.Dispatch true) (to.Dispatch true) ∷
    row 0x115 (codes "wide_iload1") (Some 0x115) 0x004 ops.IncB None (Some sources.Pc) Unshifted Idle true nexts.Following (to.Goto 0x021) ∷
    row 0x021 (codes "wide_iload2") None 0x100 ops.B None (Some sources.Mbru) shifts.Left8 Idle false nexts.Following (to.Goto 0x022) ∷
    row 0x022 (codes "wide_iload3") None 0x100 ops.Or (Some sources.H) (Some sources.Mbru) Unshifted Idle false nexts.Following (to.Goto 0x023) ∷
    row 0x023 (codes "wide_iload4") None 0x001 ops.Sum (Some sources.H) (Some sources.Lv) Unshifted Read false (nexts.Goto 31) (to.Goto 0x019) ∷
    row 0x136 (codes "wide_istore1") (Some 0x136) 0x004 ops.IncB None (Some sources.Pc) Unshifted Idle true nexts.Following (to.Goto 0x024) ∷
    row 0x024 (codes "wide_istore2") None 0x100 ops.B None (Some sources.Mbru) shifts.Left8 Idle false nexts.Following (to.Goto 0x025) ∷
    row 0x025 (codes "wide_istore3") None 0x100 ops.Or (Some sources.H) (Some sources.Mbru) Unshifted Idle false nexts.Following (to.Goto 0x026) ∷
    row 0x026 (codes "wide_istore4") None 0x001 ops.Sum (Some sources.H) (Some sources.Lv) Unshifted Idle false (nexts.Goto 36) (to.Goto 0x01d) ∷
    row 0x013 (codes "ldc_w1") (Some 0x013) 0x004 ops.IncB None (Some sources.Pc) Unshifted Idle true nexts.Following (to.Goto 0x027) ∷
    row 0x027 (codes "ldc_w2") None 0x100 ops.B None (Some sources.Mbru) shifts.Left8 Idle false nexts.Following (to.Goto 0x028) ∷
    row 0x028 (codes "ldc_w3") None 0x100 ops.Or (Some sources.H) (Some sources.Mbru) Unshifted Idle false nexts.Following (to.Goto 0x029) ∷
    row 0x029 (codes "ldc_w4") None 0x001 ops.Sum (Some sources.H) (Some sources.Cpp) Unshifted Read false (nexts.Goto 31) (to.Goto 0x019) ∷
    row 0x084 (codes "iinc1") (Some 0x084) 0x100 ops.B None (Some sources.Lv) Unshifted Idle false nexts.Following (to.Goto 0x02a) ∷
    row 0x02a (codes "iinc2") None 0x001 ops.Sum (Some sources.H) (Some sources.Mbru) Unshifted Read false nexts.Following (to.Goto 0x02b) ∷
    row 0x02b (codes "iinc3") None 0x004 ops.IncB None (Some sources.Pc) Unshifted Idle true nexts.Following (to.Goto 0x02c) ∷
    row 0x02c (codes "iinc4") None 0x100 ops.B None (Some sources.Mdr) Unshifted Idle false nexts.Following (to.Goto 0x02d) ∷
    row 0x02d (codes "iinc5") None 0x004 ops.IncB None (Some sources.Pc) Unshifted Idle true nexts.Following (to.Goto 0x02e) ∷
    row 0x02e (codes "iinc6") None 0x002 ops.Sum (Some sources.H) (Some sources.Mbr) Unshifted Write false (nexts.Goto 0) (to.Goto 0x002) ∷
    row 0x0a7 (codes "goto1") (Some 0x0a7) 0x080 ops.DecB None (Some sources.Pc) Unshifted Idle false nexts.Following (to.Goto 0x02f) ∷
    row 0x02f (codes "goto2") None 0x004 ops.IncB None (Some sources.Pc) Unshifted Idle true nexts.Following (to.Goto 0x030) ∷
    row 0x030 (codes "goto3") None 0x100 ops.B None (Some sources.Mbr) shifts.Left8 Idle false nexts.Following (to.Goto 0x031) ∷
    row 0x031 (codes "goto4") None 0x100 ops.Or (Some sources.H) (Some sources.Mbru) Unshifted Idle false nexts.Following (to.Goto 0x032) ∷
    row 0x032 (codes "goto5") None 0x004 ops.Sum (Some sources.H) (Some sources.Opc) Unshifted Idle true nexts.Following (to.Goto 0x033) ∷
    row 0x033 (codes "goto6") None 0x000 ops.Zero None None Unshifted Idle false (nexts.Goto 0) (to.Goto 0x002) ∷
    row 0x09b (codes "iflt1") (Some 0x09b) 0x009 ops.DecB None (Some sources.Sp) Unshifted Read false nexts.Following (to.Goto 0x034) ∷
    row 0x034 (codes "iflt2") None 0x080 ops.B None (Some sources.Tos) Unshifted Idle false nexts.Following (to.Goto 0x035) ∷
    row 0x035 (codes "iflt3") None 0x040 ops.B None (Some sources.Mdr) Unshifted Idle false nexts.Following (to.Goto 0x037) ∷
    row 0x037 (codes "iflt4") None 0x000 ops.B None (Some sources.Opc) Unshifted Idle false (nexts.Branch N 79 80) (to.Branch N 0x001) ∷
    row 0x099 (codes "ifeq1") (Some 0x099) 0x009 ops.DecB None (Some sources.Sp) Unshifted Read false nexts.Following (to.Goto 0x038) ∷
    row 0x038 (codes "ifeq2") None 0x080 ops.B None (Some sources.Tos) Unshifted Idle false nexts.Following (to.Goto 0x039) ∷
    row 0x039 (codes "ifeq3") None 0x040 ops.B None (Some sources.Mdr) Unshifted Idle false nexts.Following (to.Goto 0x03a) ∷
    row 0x03a (codes "ifeq4") None 0x000 ops.B None (Some sources.Opc) Unshifted Idle false (nexts.Branch Z 79 80) (to.Branch Z 0x001) ∷
    row 0x09f (codes "if_icmpeq1") (Some 0x09f) 0x009 ops.DecB None (Some sources.Sp) Unshifted Read false nexts.Following (to.Goto 0x03b) ∷
    row 0x03b (codes "if_icmpeq2") None 0x009 ops.DecB None (Some sources.Sp) Unshifted Idle false nexts.Following (to.Goto 0x03c) ∷
    row 0x03c (codes "if_icmpeq3") None 0x100 ops.B None (Some sources.Mdr) Unshifted Read false nexts.Following (to.Goto 0x03d) ∷
    row 0x03d (codes "if_icmpeq4") None 0x080 ops.B None (Some sources.Tos) Unshifted Idle false nexts.Following (to.Goto 0x03e) ∷
    row 0x03e (codes "if_icmpeq5") None 0x040 ops.B None (Some sources.Mdr) Unshifted Idle false nexts.Following (to.Goto 0x03f) ∷
    row 0x03f (codes "if_icmpeq6") None 0x000 ops.Sub (Some sources.H) (Some sources.Opc) Unshifted Idle false (nexts.Branch Z 79 80) (to.Branch Z 0x001) ∷
    row 0x101 (codes "T") None 0x080 ops.DecB None (Some sources.Pc) Unshifted Idle false (nexts.Goto 60) (to.Goto 0x02f) ∷
    row 0x001 (codes "F") None 0x004 ops.IncB None (Some sources.Pc) Unshifted Idle false nexts.Following (to.Goto 0x040) ∷
    row 0x040 (codes "F2") None 0x004 ops.IncB None (Some sources.Pc) Unshifted Idle true nexts.Following (to.Goto 0x041) ∷
    row 0x041 (codes "F3") None 0x000 ops.Zero None None Unshifted Idle false (nexts.Goto 0) (to.Goto 0x002) ∷
    row 0x0b6 (codes "invokevirtual1") (Some 0x0b6) 0x004 ops.IncB None (Some sources.Pc) Unshifted Idle true nexts.Following (to.Goto 0x042) ∷
    row 0x042 (codes "invokevirtual2") None 0x100 ops.B None (Some sources.Mbru) shifts.Left8 Idle false nexts.Following (to.Goto 0x043) ∷
    row 0x043 (codes "invokevirtual3") None 0x100 ops.Or (Some sources.H) (Some sources.Mbru) Unshifted Idle false nexts.Following (to.Goto 0x044) ∷
    row 0x044 (codes "invokevirtual4") None 0x001 ops.Sum (Some sources.H) (Some sources.Cpp) Unshifted Read false nexts.Following (to.Goto 0x045) ∷
    row 0x045 (codes "invokevirtual5") None 0x080 ops.IncB None (Some sources.Pc) Unshifted Idle false nexts.Following (to.Goto 0x046) ∷
    row 0x046 (codes "invokevirtual6") None 0x004 ops.B None (Some sources.Mdr) Unshifted Idle true nexts.Following (to.Goto 0x047) ∷
    row 0x047 (codes "invokevirtual7") None 0x004 ops.IncB None (Some sources.Pc) Unshifted Idle true nexts.Following (to.Goto 0x048) ∷
    row 0x048 (codes "invokevirtual8") None 0x100 ops.B None (Some sources.Mbru) shifts.Left8 Idle false nexts.Following (to.Goto 0x049) ∷
    row 0x049 (codes "invokevirtual9") None 0x100 ops.Or (Some sources.H) (Some sources.Mbru) Unshifted Idle false nexts.Following (to.Goto 0x04a) ∷
    row 0x04a (codes "invokevirtual10") None 0x004 ops.IncB None (Some sources.Pc) Unshifted Idle true nexts.Following (to.Goto 0x04b) ∷
    row 0x04b (codes "invokevirtual11") None 0x040 ops.Sub (Some sources.H) (Some sources.Sp) Unshifted Idle false nexts.Following (to.Goto 0x04c) ∷
    row 0x04c (codes "invokevirtual12") None 0x041 ops.IncB None (Some sources.Tos) Unshifted Idle false nexts.Following (to.Goto 0x04d) ∷
    row 0x04d (codes "invokevirtual13") None 0x004 ops.IncB None (Some sources.Pc) Unshifted Idle true nexts.Following (to.Goto 0x04e) ∷
    row 0x04e (codes "invokevirtual14") None 0x100 ops.B None (Some sources.Mbru) shifts.Left8 Idle false nexts.Following (to.Goto 0x04f) ∷
    row 0x04f (codes "invokevirtual15") None 0x100 ops.Or (Some sources.H) (Some sources.Mbru) Unshifted Idle false nexts.Following (to.Goto 0x050) ∷
    row 0x050 (codes "invokevirtual16") None 0x002 ops.SumInc (Some sources.H) (Some sources.Sp) Unshifted Write false nexts.Following (to.Goto 0x051) ∷
    row 0x051 (codes "invokevirtual17") None 0x009 ops.B None (Some sources.Mdr) Unshifted Idle false nexts.Following (to.Goto 0x052) ∷
    row 0x052 (codes "invokevirtual18") None 0x002 ops.B None (Some sources.Opc) Unshifted Write false nexts.Following (to.Goto 0x053) ∷
    row 0x053 (codes "invokevirtual19") None 0x009 ops.IncB None (Some sources.Sp) Unshifted Idle false nexts.Following (to.Goto 0x054) ∷
    row 0x054 (codes "invokevirtual20") None 0x002 ops.B None (Some sources.Lv) Unshifted Write false nexts.Following (to.Goto 0x055) ∷
    row 0x055 (codes "invokevirtual21") None 0x004 ops.IncB None (Some sources.Pc) Unshifted Idle true nexts.Following (to.Goto 0x056) ∷
    row 0x056 (codes "invokevirtual22") None 0x010 ops.B None (Some sources.Tos) Unshifted Idle false (nexts.Goto 0) (to.Goto 0x002) ∷
    row 0x0ac (codes "ireturn1") (Some 0x0ac) 0x009 ops.B None (Some sources.Lv) Unshifted Read false nexts.Following (to.Goto 0x058) ∷
    row 0x058 (codes "ireturn2") None 0x000 ops.Zero None None Unshifted Idle false nexts.Following (to.Goto 0x05a) ∷
    row 0x05a (codes "ireturn3") None 0x011 ops.B None (Some sources.Mdr) Unshifted Read false nexts.Following (to.Goto 0x05b) ∷
    row 0x05b (codes "ireturn4") None 0x001 ops.IncB None (Some sources.Lv) Unshifted Idle false nexts.Following (to.Goto 0x05c) ∷
    row 0x05c (codes "ireturn5") None 0x004 ops.B None (Some sources.Mdr) Unshifted Read true nexts.Following (to.Goto 0x05d) ∷
    row 0x05d (codes "ireturn6") None 0x001 ops.B None (Some sources.Sp) Unshifted Idle false nexts.Following (to.Goto 0x05e) ∷
    row 0x05e (codes "ireturn7") None 0x010 ops.B None (Some sources.Mdr) Unshifted Idle false nexts.Following (to.Goto 0x061) ∷
    row 0x061 (codes "ireturn8") None 0x002 ops.B None (Some sources.Tos) Unshifted Write false (nexts.Goto 0) (to.Goto 0x002) ∷
    row 0x0fc (codes "in1") (Some 0x0fc) 0x180 ops.MinusOne None None Unshifted Idle false nexts.Following (to.Goto 0x062) ∷
    row 0x062 (codes "in2") None 0x080 ops.Sum (Some sources.H) (Some sources.Opc) Unshifted Idle false nexts.Following (to.Goto 0x063) ∷
    row 0x063 (codes "in3") None 0x001 ops.Sum (Some sources.H) (Some sources.Opc) Unshifted Read false nexts.Following (to.Goto 0x065) ∷
    row 0x065 (codes "in4") None 0x009 ops.IncB None (Some sources.Sp) Unshifted Idle false nexts.Following (to.Goto 0x066) ∷
    row 0x066 (codes "in5") None 0x040 ops.B None (Some sources.Mdr) Unshifted Write false (nexts.Goto 0) (to.Goto 0x002) ∷
    row 0x0fd (codes "out1") (Some 0x0fd) 0x180 ops.MinusOne None None Unshifted Idle false nexts.Following (to.Goto 0x067) ∷
    row 0x067 (codes "out2") None 0x080 ops.Sum (Some sources.H) (Some sources.Opc) Unshifted Idle false nexts.Following (to.Goto 0x068) ∷
    row 0x068 (codes "out3") None 0x001 ops.Sum (Some sources.H) (Some sources.Opc) Unshifted Idle false nexts.Following (to.Goto 0x069) ∷
    row 0x069 (codes "out4") None 0x002 ops.B None (Some sources.Tos) Unshifted Write false nexts.Following (to.Goto 0x06a) ∷
    row 0x06a (codes "out5") None 0x009 ops.DecB None (Some sources.Sp) Unshifted Read false nexts.Following (to.Goto 0x06b) ∷
    row 0x06b (codes "out6") None 0x000 ops.Zero None None Unshifted Idle false nexts.Following (to.Goto 0x06c) ∷
    row 0x06c (codes "out7") None 0x040 ops.B None (Some sources.Mdr) Unshifted Idle false (nexts.Goto 0) (to.Goto 0x002) ∷
    row 0x0ff (codes "halt1") (Some 0x0ff) 0x000 ops.Zero None None Unshifted Idle false (nexts.Goto 125) (to.Goto 0x0ff) ∷
    row 0x0fe (codes "err1") (Some 0x0fe) 0x000 ops.Zero None None Unshifted Idle false (nexts.Goto 126) (to.Goto 0x0fe) ∷
    row 0x184 (codes "wide_iinc1") (Some 0x184) 0x004 ops.IncB None (Some sources.Pc) Unshifted Idle true nexts.Following (to.Goto 0x06d) ∷
    row 0x06d (codes "wide_iinc2") None 0x100 ops.B None (Some sources.Mbru) shifts.Left8 Idle false nexts.Following (to.Goto 0x06e) ∷
    row 0x06e (codes "wide_iinc3") None 0x100 ops.Or (Some sources.H) (Some sources.Mbru) Unshifted Idle false nexts.Following (to.Goto 0x06f) ∷
    row 0x06f (codes "wide_iinc4") None 0x001 ops.Sum (Some sources.H) (Some sources.Lv) Unshifted Read false nexts.Following (to.Goto 0x070) ∷
    row 0x070 (codes "wide_iinc5") None 0x004 ops.IncB None (Some sources.Pc) Unshifted Idle true nexts.Following (to.Goto 0x071) ∷
    row 0x071 (codes "wide_iinc6") None 0x004 ops.IncB None (Some sources.Pc) Unshifted Idle true nexts.Following (to.Goto 0x072) ∷
    row 0x072 (codes "wide_iinc7") None 0x100 ops.B None (Some sources.Mbr) shifts.Left8 Idle false nexts.Following (to.Goto 0x073) ∷
    row 0x073 (codes "wide_iinc8") None 0x100 ops.Or (Some sources.H) (Some sources.Mbru) Unshifted Idle false nexts.Following (to.Goto 0x074) ∷
    row 0x074 (codes "wide_iinc9") None 0x004 ops.IncB None (Some sources.Pc) Unshifted Idle true nexts.Following (to.Goto 0x075) ∷
    row 0x075 (codes "wide_iinc10") None 0x002 ops.Sum (Some sources.H) (Some sources.Mdr) Unshifted Write false (nexts.Goto 0) (to.Goto 0x002) ∷
    []

-- the table, unfolded only where a proof asks for it
unfoldable pub rows1 : List ListingRow
rows1 = table1

unfoldable pub program1 : MalView
program1 = record { machine = Mic1; statements = map (λ (r : ListingRow). r.statement) rows1; fallback = Some (default_to 126); entry = 0 }

abbrev pub addresses1 : List ℕ
addresses1 = map (λ (r : ListingRow). r.address) rows1

abbrev pub table2 : List ListingRow
table2 =
    row 0x002 (codes "Main1") None 0x000 ops.Zero None None Unshifted Idle false (nexts.Dispatch false) (to.Dispatch false) ∷
    row 0x000 (codes "nop1") (Some 0x000) 0x000 ops.Zero None None Unshifted Idle false (nexts.Dispatch false) (to.Dispatch false) ∷
    row 0x060 (codes "iadd1") (Some 0x060) 0x009 ops.DecB None (Some sources.Sp) Unshifted Read false nexts.Following (to.Goto 0x003) ∷
    row 0x003 (codes "iadd2") None 0x100 ops.B None (Some sources.Tos) Unshifted Idle false nexts.Following (to.Goto 0x004) ∷
    row 0x004 (codes "iadd3") None 0x042 ops.Sum (Some sources.Mdr) (Some sources.H) Unshifted Write false (nexts.Dispatch false) (to.Dispatch false) ∷
    row 0x064 (codes "isub1") (Some 0x064) 0x009 ops.DecB None (Some sources.Sp) Unshifted Read false nexts.Following (to.Goto 0x005) ∷
    row 0x005 (codes "isub2") None 0x100 ops.B None (Some sources.Tos) Unshifted Idle false nexts.Following (to.Goto 0x006) ∷
    row 0x006 (codes "isub3") None 0x042 ops.Sub (Some sources.H) (Some sources.Mdr) Unshifted Write false (nexts.Dispatch false) (to.Dispatch false) ∷
    row 0x07e (codes "iand1") (Some 0x07e) 0x009 ops.DecB None (Some sources.Sp) Unshifted Read false nexts.Following (to.Goto 0x007) ∷
    row 0x007 (codes "iand2") None 0x100 ops.B None (Some sources.Tos) Unshifted Idle false nexts.Following (to.Goto 0x008) ∷
    row 0x008 (codes "iand3") None 0x042 ops.And (Some sources.Mdr) (Some sources.H) Unshifted Write false (nexts.Dispatch false) (to.Dispatch false) ∷
    row 0x0b0 (codes "ior1") (Some 0x0b0) 0x009 ops.DecB None (Some sources.Sp) Unshifted Read false nexts.Following (to.Goto 0x009) ∷
    row 0x009 (codes "ior2") None 0x100 ops.B None (Some sources.Tos) Unshifted Idle false nexts.Following (to.Goto 0x00a) ∷
    row 0x00a (codes "ior3") None 0x042 ops.Or (Some sources.Mdr) (Some sources.H) Unshifted Write false (nexts.Dispatch false) (to.Dispatch false) ∷
    row 0x080 (codes "ior80") (Some 0x080) 0x009 ops.DecB None (Some sources.Sp) Unshifted Read false (nexts.Goto 12) (to.Goto 0x009) ∷
    row 0x059 (codes "dup1") (Some 0x059) 0x009 ops.IncB None (Some sources.Sp) Unshifted Idle false nexts.Following (to.Goto 0x00b) ∷
    row 0x00b (codes "dup2") None 0x002 ops.B None (Some sources.Tos) Unshifted Write false (nexts.Dispatch false) (to.Dispatch false) ∷
    row 0x057 (codes "pop1") (Some 0x057) 0x009 ops.DecB None (Some sources.Sp) Unshifted Read false nexts.Following (to.Goto 0x00c) ∷
    row 0x00c (codes "pop2") None 0x000 ops.Zero None None Unshifted Idle false nexts.Following (to.Goto 0x00d) ∷
    row 0x00d (codes "pop3") None 0x040 ops.B None (Some sources.Mdr) Unshifted Idle false (nexts.Dispatch false) (to.Dispatch false) ∷
    row 0x05f (codes "swap1") (Some 0x05f) 0x001 ops.DecB None (Some sources.Sp) Unshifted Read false nexts.Following (to.Goto 0x00e) ∷
    row 0x00e (codes "swap2") None 0x001 ops.B None (Some sources.Sp) Unshifted Idle false nexts.Following (to.Goto 0x00f) ∷
    row 0x00f (codes "swap3") None 0x100 ops.B None (Some sources.Mdr) Unshifted Write false nexts.Following (to.Goto 0x011) ∷
    row 0x011 (codes "swap4") None 0x002 ops.B None (Some sources.Tos) Unshifted Idle false nexts.Following (to.Goto 0x012) ∷
    row 0x012 (codes "swap5") None 0x001 ops.DecB None (Some sources.Sp) Unshifted Write false nexts.Following (to.Goto 0x014) ∷
    row 0x014 (codes "swap6") None 0x040 ops.B None (Some sources.H) Unshifted Idle false (nexts.Dispatch false) (to.Dispatch false) ∷
    row 0x010 (codes "bipush1") (Some 0x010) 0x042 ops.B None (Some sources.Mbr1) Unshifted Idle false nexts.Following (to.Goto 0x016) ∷
    row 0x016 (codes "bipush2") None 0x009 ops.IncB None (Some sources.Sp) Unshifted Write false (nexts.Dispatch false) (to.Dispatch false) ∷
    row 0x015 (codes "iload1") (Some 0x015) 0x001 ops.Sum (Some sources.Lv) (Some sources.Mbr1u) Unshifted Read false nexts.Following (to.Goto 0x017) ∷
    row 0x017 (codes "iload2") None 0x009 ops.IncB None (Some sources.Sp) Unshifted Idle false nexts.Following (to.Goto 0x018) ∷
    row 0x018 (codes "iload3") None 0x040 ops.B None (Some sources.Mdr) Unshifted Write false (nexts.Dispatch false) (to.Dispatch false) ∷
    row 0x036 (codes "istore1") (Some 0x036) 0x001 ops.Sum (Some sources.Lv) (Some sources.Mbr1u) Unshifted Idle false nexts.Following (to.Goto 0x019) ∷
    row 0x019 (codes "istore2") None 0x002 ops.B None (Some sources.Tos) Unshifted Write false nexts.Following (to.Goto 0x01a) ∷
    row 0x01a (codes "istore3") None 0x009 ops.DecB None (Some sources.Sp) Unshifted Read false nexts.Following (to.Goto 0x01b) ∷
    row 0x01b (codes "istore4") None 0x000 ops.Zero None None Unshifted Idle false nexts.Following (to.Goto 0x01c) ∷
    row 0x01c (codes "istore5") None 0x040 ops.B None (Some sources.Mdr) Unshifted Idle false (nexts.Dispatch false) (to.Dispatch false) ∷
    row 0x0c4 (codes "wide1") (Some 0x0c4) 0x000 ops.Zero None None Unshifted Idle false (nexts.Dispatch true) (to.Dispatch true) ∷
    row 0x115 (codes "wide_iload1") (Some 0x115) 0x001 ops.Sum (Some sources.Lv) (Some sources.Mbr2u) Unshifted Read false (nexts.Goto 29) (to.Goto 0x017) ∷
    row 0x136 (codes "wide_istore1") (Some 0x136) 0x001 ops.Sum (Some sources.Lv) (Some sources.Mbr2u) Unshifted Idle false (nexts.Goto 32) (to.Goto 0x019) ∷
    row 0x013 (codes "ldc_w1") (Some 0x013) 0x001 ops.Sum (Some sources.Cpp) (Some sources.Mbr2u) Unshifted Read false (nexts.Goto 29) (to.Goto 0x017) ∷
    row 0x084 (codes "iinc1") (Some 0x084) 0x001 ops.Sum (Some sources.Lv) (Some sources.Mbr1u) Unshifted Read false nexts.Following (to.Goto 0x01d) ∷
    row 0x01d (codes "iinc2") None 0x100 ops.B None (Some sources.Mbr1) Unshifted Idle false nexts.Following (to.Goto 0x01e) ∷
    row 0x01e (codes "iinc3") None 0x002 ops.Sum (Some sources.Mdr) (Some sources.H) Unshifted Write false (nexts.Dispatch false) (to.Dispatch false) ∷
    row 0x0a7 (codes "goto1") (Some 0x0a7) 0x100 ops.DecB None (Some sources.Pc) Unshifted Idle false nexts.Following (to.Goto 0x01f) ∷
    row 0x01f (codes "goto2") None 0x004 ops.Sum (Some sources.H) (Some sources.Mbr2) Unshifted Idle false nexts.Following (to.Goto 0x020) ∷
    row 0x020 (codes "goto3") None 0x000 ops.Zero None None Unshifted Idle false nexts.Following (to.Goto 0x021) ∷
    row 0x021 (codes "goto4") None 0x000 ops.Zero None None Unshifted Idle false (nexts.Dispatch false) (to.Dispatch false) ∷
    row 0x09b (codes "iflt1") (Some 0x09b) 0x009 ops.DecB None (Some sources.Sp) Unshifted Read false nexts.Following (to.Goto 0x022) ∷
    row 0x022 (codes "iflt2") None 0x080 ops.B None (Some sources.Tos) Unshifted Idle false nexts.Following (to.Goto 0x023) ∷
    row 0x023 (codes "iflt3") None 0x040 ops.B None (Some sources.Mdr) Unshifted Idle false nexts.Following (to.Goto 0x024) ∷
    row 0x024 (codes "iflt4") None 0x000 ops.B None (Some sources.Opc) Unshifted Idle false (nexts.Branch N 61 62) (to.Branch N 0x001) ∷
    row 0x099 (codes "ifeq1") (Some 0x099) 0x009 ops.DecB None (Some sources.Sp) Unshifted Read false nexts.Following (to.Goto 0x025) ∷
    row 0x025 (codes "ifeq2") None 0x080 ops.B None (Some sources.Tos) Unshifted Idle false nexts.Following (to.Goto 0x026) ∷
    row 0x026 (codes "ifeq3") None 0x040 ops.B None (Some sources.Mdr) Unshifted Idle false nexts.Following (to.Goto 0x027) ∷
    row 0x027 (codes "ifeq4") None 0x000 ops.B None (Some sources.Opc) Unshifted Idle false (nexts.Branch Z 61 62) (to.Branch Z 0x001) ∷
    row 0x09f (codes "if_icmpeq1") (Some 0x09f) 0x009 ops.DecB None (Some sources.Sp) Unshifted Read false nexts.Following (to.Goto 0x028) ∷
    row 0x028 (codes "if_icmpeq2") None 0x009 ops.DecB None (Some sources.Sp) Unshifted Idle false nexts.Following (to.Goto 0x029) ∷
    row 0x029 (codes "if_icmpeq3") None 0x100 ops.B None (Some sources.Mdr) Unshifted Read false nexts.Following (to.Goto 0x02a) ∷
    row 0x02a (codes "if_icmpeq4") None 0x080 ops.B None (Some sources.Tos) Unshifted Idle false nexts.Following (to.Goto 0x02b) ∷
    row 0x02b (codes "if_icmpeq5") None 0x040 ops.B None (Some sources.Mdr) Unshifted Idle false nexts.Following (to.Goto 0x02c) ∷
    row 0x02c (codes "if_icmpeq6") None 0x000 ops.Sub (Some sources.H) (Some sources.Opc) Unshifted Idle false (nexts.Branch Z 61 62) (to.Branch Z 0x001) ∷
    row 0x101 (codes "T") None 0x100 ops.DecB None (Some sources.Pc) Unshifted Idle false (nexts.Goto 44) (to.Goto 0x01f) ∷
    row 0x001 (codes "F") None 0x100 ops.B None (Some sources.Mbr2) Unshifted Idle false nexts.Following (to.Goto 0x02d) ∷
    row 0x02d (codes "F2") None 0x000 ops.Zero None None Unshifted Idle false (nexts.Dispatch false) (to.Dispatch false) ∷
    row 0x0b6 (codes "invokevirtual1") (Some 0x0b6) 0x001 ops.Sum (Some sources.Cpp) (Some sources.Mbr2u) Unshifted Read false nexts.Following (to.Goto 0x02e) ∷
    row 0x02e (codes "invokevirtual2") None 0x080 ops.B None (Some sources.Pc) Unshifted Idle false nexts.Following (to.Goto 0x02f) ∷
    row 0x02f (codes "invokevirtual3") None 0x004 ops.B None (Some sources.Mdr) Unshifted Idle false nexts.Following (to.Goto 0x030) ∷
    row 0x030 (codes "invokevirtual4") None 0x040 ops.Sub (Some sources.Mbr2u) (Some sources.Sp) Unshifted Idle false nexts.Following (to.Goto 0x031) ∷
    row 0x031 (codes "invokevirtual5") None 0x141 ops.IncB None (Some sources.Tos) Unshifted Idle false nexts.Following (to.Goto 0x032) ∷
    row 0x032 (codes "invokevirtual6") None 0x002 ops.SumInc (Some sources.Sp) (Some sources.Mbr2u) Unshifted Write false nexts.Following (to.Goto 0x033) ∷
    row 0x033 (codes "invokevirtual7") None 0x009 ops.B None (Some sources.Mdr) Unshifted Idle false nexts.Following (to.Goto 0x034) ∷
    row 0x034 (codes "invokevirtual8") None 0x002 ops.B None (Some sources.Opc) Unshifted Write false nexts.Following (to.Goto 0x035) ∷
    row 0x035 (codes "invokevirtual9") None 0x009 ops.IncB None (Some sources.Sp) Unshifted Idle false nexts.Following (to.Goto 0x037) ∷
    row 0x037 (codes "invokevirtual10") None 0x002 ops.B None (Some sources.Lv) Unshifted Write false nexts.Following (to.Goto 0x038) ∷
    row 0x038 (codes "invokevirtual11") None 0x010 ops.B None (Some sources.Tos) Unshifted Idle false (nexts.Dispatch false) (to.Dispatch false) ∷
    row 0x0ac (codes "ireturn1") (Some 0x0ac) 0x009 ops.B None (Some sources.Lv) Unshifted Read false nexts.Following (to.Goto 0x039) ∷
    row 0x039 (codes "ireturn2") None 0x000 ops.Zero None None Unshifted Idle false nexts.Following (to.Goto 0x03a) ∷
    row 0x03a (codes "ireturn3") None 0x011 ops.B None (Some sources.Mdr) Unshifted Read false nexts.Following (to.Goto 0x03b) ∷
    row 0x03b (codes "ireturn4") None 0x001 ops.IncB None (Some sources.Lv) Unshifted Idle false nexts.Following (to.Goto 0x03c) ∷
    row 0x03c (codes "ireturn5") None 0x004 ops.B None (Some sources.Mdr) Unshifted Read false nexts.Following (to.Goto 0x03d) ∷
    row 0x03d (codes "ireturn6") None 0x001 ops.B None (Some sources.Sp) Unshifted Idle false nexts.Following (to.Goto 0x03e) ∷
    row 0x03e (codes "ireturn7") None 0x010 ops.B None (Some sources.Mdr) Unshifted Idle false nexts.Following (to.Goto 0x03f) ∷
    row 0x03f (codes "ireturn8") None 0x002 ops.B None (Some sources.Tos) Unshifted Write false (nexts.Dispatch false) (to.Dispatch false) ∷
    row 0x0fc (codes "in1") (Some 0x0fc) 0x180 ops.MinusOne None None Unshifted Idle false nexts.Following (to.Goto 0x040) ∷
    row 0x040 (codes "in2") None 0x080 ops.Sum (Some sources.H) (Some sources.Opc) Unshifted Idle false nexts.Following (to.Goto 0x041) ∷
    row 0x041 (codes "in3") None 0x001 ops.Sum (Some sources.H) (Some sources.Opc) Unshifted Read false nexts.Following (to.Goto 0x042) ∷
    row 0x042 (codes "in4") None 0x009 ops.IncB None (Some sources.Sp) Unshifted Idle false nexts.Following (to.Goto 0x043) ∷
    row 0x043 (codes "in5") None 0x040 ops.B None (Some sources.Mdr) Unshifted Write false (nexts.Dispatch false) (to.Dispatch false) ∷
    row 0x0fd (codes "out1") (Some 0x0fd) 0x180 ops.MinusOne None None Unshifted Idle false nexts.Following (to.Goto 0x044) ∷
    row 0x044 (codes "out2") None 0x080 ops.Sum (Some sources.H) (Some sources.Opc) Unshifted Idle false nexts.Following (to.Goto 0x045) ∷
    row 0x045 (codes "out3") None 0x001 ops.Sum (Some sources.H) (Some sources.Opc) Unshifted Idle false nexts.Following (to.Goto 0x046) ∷
    row 0x046 (codes "out4") None 0x002 ops.B None (Some sources.Tos) Unshifted Write false nexts.Following (to.Goto 0x047) ∷
    row 0x047 (codes "out5") None 0x009 ops.DecB None (Some sources.Sp) Unshifted Read false nexts.Following (to.Goto 0x048) ∷
    row 0x048 (codes "out6") None 0x000 ops.Zero None None Unshifted Idle false nexts.Following (to.Goto 0x049) ∷
    row 0x049 (codes "out7") None 0x040 ops.B None (Some sources.Mdr) Unshifted Idle false (nexts.Dispatch false) (to.Dispatch false) ∷
    row 0x0ff (codes "halt1") (Some 0x0ff) 0x000 ops.Zero None None Unshifted Idle false (nexts.Goto 95) (to.Goto 0x0ff) ∷
    row 0x0fe (codes "err1") (Some 0x0fe) 0x000 ops.Zero None None Unshifted Idle false (nexts.Goto 96) (to.Goto 0x0fe) ∷
    row 0x184 (codes "wide_iinc1") (Some 0x184) 0x001 ops.Sum (Some sources.Lv) (Some sources.Mbr2u) Unshifted Read false nexts.Following (to.Goto 0x04a) ∷
    row 0x04a (codes "wide_iinc2") None 0x000 ops.Zero None None Unshifted Idle false nexts.Following (to.Goto 0x04b) ∷
    row 0x04b (codes "wide_iinc3") None 0x100 ops.B None (Some sources.Mbr2) Unshifted Idle false nexts.Following (to.Goto 0x04c) ∷
    row 0x04c (codes "wide_iinc4") None 0x002 ops.Sum (Some sources.Mdr) (Some sources.H) Unshifted Write false (nexts.Dispatch false) (to.Dispatch false) ∷
    []

unfoldable pub rows2 : List ListingRow
rows2 = table2

unfoldable pub program2 : MalView
program2 = record { machine = Mic2; statements = map (λ (r : ListingRow). r.statement) rows2; fallback = Some (default_to 96); entry = 0 }

abbrev pub addresses2 : List ℕ
addresses2 = map (λ (r : ListingRow). r.address) rows2

-- by machine

abbrev pub text_of : Machine → List ℕ
text_of Mic1 = MIC1.now
text_of Mic2 = MIC2.now

abbrev pub listed_program : Machine → MalView
listed_program Mic1 = program1
listed_program Mic2 = program2

abbrev pub addresses_of : Machine → List ℕ
addresses_of Mic1 = addresses1
addresses_of Mic2 = addresses2

-- with 0 for each line number

abbrev pub without_line : Statement → Statement
without_line s = record s { line = 0 }

abbrev pub unlined : MalView → MalView
unlined p = record p { statements = map without_line p.statements; fallback = option_map without_line p.fallback }
