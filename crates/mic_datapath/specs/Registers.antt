-- The registers that the C bus loads, which are those of both datapaths: what they put on a bus, and what becomes of them at a clock edge (chapter 4).
use Rattle.std.specs.Prelude.{ℕ, if◌then◌else◌, Option, Some, None}
use Rattle.micro_word.specs.Prelude.{loads}
use Rattle.micro_word.specs.declared.destination.Destination.TheVariants as registers
use Rattle.micro_word.specs.declared.statement.BusSource.{BusSource}
use Rattle.micro_word.specs.declared.statement.BusSource.TheVariants as sources
use Rattle.mic_datapath.specs.declared.ports.Ports.{Ports}

pub record NineRegisters : Type 0 where
  pub mar : ℕ
  pub mdr : ℕ
  pub pc : ℕ
  pub sp : ℕ
  pub lv : ℕ
  pub cpp : ℕ
  pub tos : ℕ
  pub opc : ℕ
  pub h : ℕ

-- what is on a bus, where `fetched` has the value of each source of fetched bytes; 0 when nothing drives it
abbrev pub on_bus : NineRegisters → (BusSource → ℕ) → Option BusSource → ℕ
on_bus r fetched None = 0
on_bus r fetched (Some sources.Mdr) = r.mdr
on_bus r fetched (Some sources.Pc) = r.pc
on_bus r fetched (Some sources.Sp) = r.sp
on_bus r fetched (Some sources.Lv) = r.lv
on_bus r fetched (Some sources.Cpp) = r.cpp
on_bus r fetched (Some sources.Tos) = r.tos
on_bus r fetched (Some sources.Opc) = r.opc
on_bus r fetched (Some sources.H) = r.h
on_bus r fetched (Some sources.Mbr) = fetched sources.Mbr
on_bus r fetched (Some sources.Mbru) = fetched sources.Mbru
on_bus r fetched (Some sources.Mbr1) = fetched sources.Mbr1
on_bus r fetched (Some sources.Mbr1u) = fetched sources.Mbr1u
on_bus r fetched (Some sources.Mbr2) = fetched sources.Mbr2
on_bus r fetched (Some sources.Mbr2u) = fetched sources.Mbr2u

-- what was under way, if something was, in the place of what was there
abbrev pub arrived : Option ℕ → ℕ → ℕ
arrived None x = x
arrived (Some y) x = y

-- The registers that a field C names become v. Then a word that was read becomes MDR.
abbrev pub loaded : ℕ → ℕ → Option ℕ → NineRegisters → NineRegisters
loaded c v word r =
    record {
      mar = if loads c registers.Mar then v else r.mar;
      mdr = arrived word (if loads c registers.Mdr then v else r.mdr);
      pc = if loads c registers.Pc then v else r.pc;
      sp = if loads c registers.Sp then v else r.sp;
      lv = if loads c registers.Lv then v else r.lv;
      cpp = if loads c registers.Cpp then v else r.cpp;
      tos = if loads c registers.Tos then v else r.tos;
      opc = if loads c registers.Opc then v else r.opc;
      h = if loads c registers.H then v else r.h;
    }

-- the registers that the memory's two ports are given
abbrev pub ports_given : NineRegisters → Ports
ports_given r = record { mar = r.mar; mdr = r.mdr; pc = r.pc }
