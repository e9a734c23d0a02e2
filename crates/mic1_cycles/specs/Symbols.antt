-- The state of Mic-1 that symbols stand for, and how a clock edge loads them.
use Rattle.std.specs.Prelude.{◌≡◌, ℕ, Bool, if◌then◌else◌, Option, Some, None, unwrap_or}
use Rattle.mic1_cycles.specs.Common.{signed_byte, loads, BusSource, Micro}
use Rattle.micro_word.specs.declared.destination.Destination.TheVariants as registers
use Rattle.micro_word.specs.declared.statement.BusSource.TheVariants as sources
use Rattle.mic1_cycles.specs.declared.symbols.Byte.{Byte}
use Rattle.mic1_cycles.specs.declared.symbols.Symbols.{Symbols}

-- the symbol on the B bus, which is `empty` if no register is on it
abbrev pub source_symbol : ℕ → Symbols → Option BusSource → ℕ
source_symbol empty s (Some sources.Mdr) = s.mdr
source_symbol empty s (Some sources.Pc) = s.pc
source_symbol empty s (Some sources.Sp) = s.sp
source_symbol empty s (Some sources.Lv) = s.lv
source_symbol empty s (Some sources.Cpp) = s.cpp
source_symbol empty s (Some sources.Tos) = s.tos
source_symbol empty s (Some sources.Opc) = s.opc
source_symbol empty s (Some sources.H) = s.h
source_symbol empty s (Some sources.Mbr) = s.mbr.signed
source_symbol empty s (Some sources.Mbru) = s.mbr.plain
source_symbol empty s _ = empty

-- the registers after the C bus was loaded with a symbol, and what was under way arrived
abbrev pub assigned_symbols : ℕ → ℕ → Symbols → Symbols
assigned_symbols dests v s =
    record {
      mar = if loads dests registers.Mar then v else s.mar;
      mdr = unwrap_or s.word (if loads dests registers.Mdr then v else s.mdr);
      pc = if loads dests registers.Pc then v else s.pc;
      sp = if loads dests registers.Sp then v else s.sp;
      lv = if loads dests registers.Lv then v else s.lv;
      cpp = if loads dests registers.Cpp then v else s.cpp;
      tos = if loads dests registers.Tos then v else s.tos;
      opc = if loads dests registers.Opc then v else s.opc;
      h = if loads dests registers.H then v else s.h;
      mbr = unwrap_or s.byte s.mbr;
      mpc = s.mpc;
      word = None;
      byte = None;
    }

-- the loaded symbols with their next address, and with this word and this byte under way
abbrev pub moved_symbols : ℕ → Option ℕ → Option Byte → Symbols → Symbols
moved_symbols to word byte s = record s { mpc = to; word = word; byte = byte }

-- `word` has the word of each symbol.
module _ (word : ℕ → ℕ) where
  abbrev pub word_in : Option ℕ → Option ℕ
  word_in None = None
  word_in (Some n) = Some (word n)

  abbrev pub byte_in : Option Byte → Option ℕ
  byte_in None = None
  byte_in (Some b) = Some (word b.plain)

  abbrev pub IsSigned : Byte → Type 0
  IsSigned b = signed_byte (word b.plain) ≡ word b.signed

  abbrev pub IsSignedIn : Option Byte → Type 0
  IsSignedIn None = Unit {0}
  IsSignedIn (Some b) = IsSigned b

  -- the bytes have their signs
  pub record HasSigns (s : Symbols) : Type 0 where
    pub mbr : IsSigned s.mbr
    pub byte : IsSignedIn s.byte

  -- the state that the symbols stand for
  abbrev pub micro_of : ℕ → Bool → Symbols → Micro
  micro_of entry clocked s =
      record {
        mar = word s.mar;
        mdr = word s.mdr;
        pc = word s.pc;
        sp = word s.sp;
        lv = word s.lv;
        cpp = word s.cpp;
        tos = word s.tos;
        opc = word s.opc;
        h = word s.h;
        mbr = word s.mbr.plain;
        mpc = s.mpc;
        word = word_in s.word;
        byte = byte_in s.byte;
        entry = entry;
        clocked = clocked;
      }
