-- What loaded symbols stand for.
use Rattle.mic1_cycles.proofs.Common.{◌≡◌, ℕ, Bool, true, false, if◌then◌else◌, Option, Some, None, refl, sym, unwrap_or, loads, BusSource, arrived, source}
use Rattle.mic1_cycles.proofs.Common.{assigned, Byte, Symbols, source_symbol, assigned_symbols, micro_of, word_in, IsSigned, IsSignedIn, HasSigns}
use Rattle.mic1_cycles.specs.Prelude.{byte_in}
use Rattle.micro_word.specs.declared.destination.Destination.TheVariants as registers
use Rattle.micro_word.specs.declared.statement.BusSource.TheVariants as sources

module _ (word : ℕ → ℕ) where
  pub on_bus : (entry : ℕ) (clocked : Bool) (empty : ℕ) (s : Symbols) (b : Option BusSource) → word empty ≡ 0 → HasSigns word s →
      source b (micro_of word entry clocked s) ≡ word (source_symbol empty s b)
  on_bus entry clocked empty s None z h = sym z
  on_bus entry clocked empty s (Some sources.Mdr) z h = refl
  on_bus entry clocked empty s (Some sources.Pc) z h = refl
  on_bus entry clocked empty s (Some sources.Mbr) z h = h.mbr
  on_bus entry clocked empty s (Some sources.Mbru) z h = refl
  on_bus entry clocked empty s (Some sources.Sp) z h = refl
  on_bus entry clocked empty s (Some sources.Lv) z h = refl
  on_bus entry clocked empty s (Some sources.Cpp) z h = refl
  on_bus entry clocked empty s (Some sources.Tos) z h = refl
  on_bus entry clocked empty s (Some sources.Opc) z h = refl
  on_bus entry clocked empty s (Some sources.Mbr1) z h = sym z
  on_bus entry clocked empty s (Some sources.Mbr1u) z h = sym z
  on_bus entry clocked empty s (Some sources.Mbr2) z h = sym z
  on_bus entry clocked empty s (Some sources.Mbr2u) z h = sym z
  on_bus entry clocked empty s (Some sources.H) z h = refl

  picked : (b : Bool) (x y : ℕ) → (if b then word x else word y) ≡ word (if b then x else y)
  picked true x y = refl
  picked false x y = refl

  came : (o : Option ℕ) (y z : ℕ) → y ≡ word z → arrived (word_in word o) y ≡ word (unwrap_or o z)
  came None y z e = e
  came (Some n) y z e = refl

  byte_came : (o : Option Byte) (b : Byte) → arrived (byte_in word o) (word b.plain) ≡ word (unwrap_or o b).plain
  byte_came None b = refl
  byte_came (Some n) b = refl

  sign_came : (o : Option Byte) (b : Byte) → IsSignedIn word o → IsSigned word b → IsSigned word (unwrap_or o b)
  sign_came None b h g = g
  sign_came (Some n) b h g = h

  pub are_assigned : (entry : ℕ) (clocked : Bool) (dests v : ℕ) (s : Symbols) →
      assigned dests (word v) (micro_of word entry clocked s) ≡ micro_of word entry true (assigned_symbols dests v s)
  are_assigned entry clocked dests v s = λ i.
      record {
        mar = picked (loads dests registers.Mar) v s.mar i;
        mdr = came s.word (if loads dests registers.Mdr then word v else word s.mdr) (if loads dests registers.Mdr then v else s.mdr) (picked (loads dests registers.Mdr) v s.mdr) i;
        pc = picked (loads dests registers.Pc) v s.pc i;
        sp = picked (loads dests registers.Sp) v s.sp i;
        lv = picked (loads dests registers.Lv) v s.lv i;
        cpp = picked (loads dests registers.Cpp) v s.cpp i;
        tos = picked (loads dests registers.Tos) v s.tos i;
        opc = picked (loads dests registers.Opc) v s.opc i;
        h = picked (loads dests registers.H) v s.h i;
        mbr = byte_came s.byte s.mbr i;
        mpc = s.mpc;
        word = None;
        byte = None;
        entry = entry;
        clocked = true;
      }

  pub are_signed : (dests v : ℕ) (s : Symbols) → HasSigns word s → HasSigns word (assigned_symbols dests v s)
  are_signed dests v s h = record { mbr = sign_came s.byte s.mbr h.byte h.mbr; byte = tt }
