-- Symbols that stand for a boundary.
use Rattle.mic1_checks.proofs.Common.{◌≡◌, ◌<◌, ℕ, zero, suc, Bool, true, false, if◌then◌else◌, List, [], ◌∷◌, Option, Some, None, refl, sym, ap, ◌∙◌, subst}
use Rattle.mic1_checks.proofs.Common.{arith, slice_index, unwrap_or, is_some, arrived, All, All-head, All-tail, World, signed_byte, State, Micro, mic1_meaning}
use Rattle.mic1_checks.proofs.Common.{IsReady, Origin, IsAt, Environment, Fits, Node, AreOrdered, HasEnvironments, Byte, Symbols, micro_of, word_in, HasSigns}
use Rattle.mic1_checks.proofs.Common.{IsSigned, IsSignedIn, Shape, IsReadyOrArriving, shape_of, IsStart, HasRegisters, shaped_symbols, HasWords, free_words}
use Rattle.mic1_cycles.specs.Prelude.{byte_in}

below : (xs : List ℕ) (i : ℕ) → All (λ x. x < 4294967296) xs → slice_index xs i < 4294967296
below [] i h = omega arith
below (x ∷ xs) zero h = All-head (λ y. y < 4294967296) x xs h
below (x ∷ xs) (suc i) h = below xs i (All-tail (λ y. y < 4294967296) x xs h)

-- an environment of a table whose free numbers have a machine's words
pub record Started (table : List Node) (m : Micro) (w : World) : Type 0 where
  pub e : Environment
  pub fits : Fits e table
  pub starts : e.start ≡ w
  pub mar : e.word 0 ≡ m.mar
  pub mdr : e.word 1 ≡ m.mdr
  pub pc : e.word 2 ≡ m.pc
  pub sp : e.word 3 ≡ m.sp
  pub lv : e.word 4 ≡ m.lv
  pub tos : e.word 5 ≡ m.tos
  pub opc : e.word 6 ≡ m.opc
  pub h : e.word 7 ≡ m.h
  pub mbr : e.word 8 ≡ m.mbr
  pub sign : e.word 9 ≡ signed_byte m.mbr
  pub word : e.word 10 ≡ unwrap_or m.word 0

pub started : HasEnvironments → (table : List Node) → AreOrdered table → HasRegisters table → (m : Micro) (w : World) → HasWords m w → Started table m w
started exist table ordered r m w words =
    let x = exist table w (λ i. slice_index (free_words m) i) ordered words.memory (λ i. below (free_words m) i words.registers) in
    record {
      e = x.0;
      fits = x.1;
      starts = x.2.starts;
      mar = x.2.free_words 0 r.mar;
      mdr = x.2.free_words 1 r.mdr;
      pc = x.2.free_words 2 r.pc;
      sp = x.2.free_words 3 r.sp;
      lv = x.2.free_words 4 r.lv;
      tos = x.2.free_words 5 r.tos;
      opc = x.2.free_words 6 r.opc;
      h = x.2.free_words 7 r.h;
      mbr = x.2.free_words 8 r.mbr;
      sign = x.2.free_words 9 r.sign;
      word = x.2.free_words 10 r.word;
    }

-- a machine with another entry, at it, in which what was under way has arrived
abbrev pub twin : ℕ → Micro → Micro
twin entry m = record m { mbr = arrived m.byte m.mbr; mpc = entry; word = None; byte = None; entry = entry }

pub twin_stands : (o : Origin) (entry entry' : ℕ) (s : State) (m : Micro) (w : World) →
    IsAt mic1_meaning IsReadyOrArriving entry' o s m w → IsAt mic1_meaning IsReady entry o s (twin entry m) w
twin_stands o entry entry' s m w h =
    record {
      holds = h.holds;
      ready = record { pc = h.ready.pc; mbr = h.ready.opcode; mpc = refl; entry = refl; clocked = h.ready.clocked; word = refl; byte = refl };
    }

module _ (table : List Node) (m : Micro) (w : World) (t : Started table m w) (opcode : ℕ) (s : Symbols) (is : IsStart t.e opcode s)
    (cpp : m.cpp ≡ 0x4000) (code : arrived m.byte m.mbr ≡ opcode) (clocked : m.clocked ≡ true) where
  -- the symbols stand for the twin
  pub stand : (entry : ℕ) → micro_of t.e.word entry true (record s { mpc = entry }) ≡ twin entry m
  stand entry =
      λ i. record {
        mar = (ap t.e.word is.mar ∙ t.mar) i;
        mdr = (ap t.e.word is.mdr ∙ t.mdr) i;
        pc = (ap t.e.word is.pc ∙ t.pc) i;
        sp = (ap t.e.word is.sp ∙ t.sp) i;
        lv = (ap t.e.word is.lv ∙ t.lv) i;
        cpp = (is.cpp ∙ sym cpp) i;
        tos = (ap t.e.word is.tos ∙ t.tos) i;
        opc = (ap t.e.word is.opc ∙ t.opc) i;
        h = (ap t.e.word is.h ∙ t.h) i;
        mbr = (is.plain ∙ sym code) i;
        mpc = entry;
        word = ap (word_in t.e.word) is.word i;
        byte = ap (byte_in t.e.word) is.byte i;
        entry = entry;
        clocked = sym clocked i;
      }

  -- MBR and what is under way, by what the machine has under way
  mbr_in : (b : Bool) (o : Option ℕ) → is_some o ≡ b → arrived o m.mbr ≡ opcode → t.e.word (if b then record { plain = 8; signed = 9 } else s.mbr).plain ≡ m.mbr
  mbr_in true o h a = t.mbr
  mbr_in false None h a = is.plain ∙ sym a
  mbr_in false (Some x) h a = absurd (cc)

  byte_under_way : (b : Bool) (o : Option ℕ) → is_some o ≡ b → arrived o m.mbr ≡ opcode → byte_in t.e.word (if b then Some s.mbr else None) ≡ o
  byte_under_way true None h a = absurd (cc)
  byte_under_way true (Some x) h a = ap Some (is.plain ∙ sym a)
  byte_under_way false None h a = refl
  byte_under_way false (Some x) h a = absurd (cc)

  word_under_way : (b : Bool) (o : Option ℕ) → is_some o ≡ b → t.e.word 10 ≡ unwrap_or o 0 → word_in t.e.word (if b then Some 10 else None) ≡ o
  word_under_way true None h a = absurd (cc)
  word_under_way true (Some x) h a = ap Some a
  word_under_way false None h a = refl
  word_under_way false (Some x) h a = absurd (cc)

  -- the symbols of a shape stand for a machine of that shape
  pub stand_shaped : (shape : Shape) → shape_of m ≡ shape → (entry : ℕ) → m.mpc ≡ entry → m.entry ≡ entry →
      micro_of t.e.word entry true (record (shaped_symbols shape s) { mpc = entry }) ≡ m
  stand_shaped shape same entry mpc at =
      λ i. record {
        mar = (ap t.e.word is.mar ∙ t.mar) i;
        mdr = (ap t.e.word is.mdr ∙ t.mdr) i;
        pc = (ap t.e.word is.pc ∙ t.pc) i;
        sp = (ap t.e.word is.sp ∙ t.sp) i;
        lv = (ap t.e.word is.lv ∙ t.lv) i;
        cpp = (is.cpp ∙ sym cpp) i;
        tos = (ap t.e.word is.tos ∙ t.tos) i;
        opc = (ap t.e.word is.opc ∙ t.opc) i;
        h = (ap t.e.word is.h ∙ t.h) i;
        mbr = mbr_in shape.byte m.byte (ap (λ (k : Shape). k.byte) same) code i;
        mpc = sym mpc i;
        word = word_under_way shape.word m.word (ap (λ (k : Shape). k.word) same) t.word i;
        byte = byte_under_way shape.byte m.byte (ap (λ (k : Shape). k.byte) same) code i;
        entry = sym at i;
        clocked = sym clocked i;
      }

  sign_of : (b : Bool) → IsSigned t.e.word (if b then record { plain = 8; signed = 9 } else s.mbr)
  sign_of true = ap signed_byte t.mbr ∙ sym t.sign
  sign_of false = ap signed_byte is.plain ∙ sym is.signed

  sign_to_come : (b : Bool) → IsSignedIn t.e.word (if b then Some s.mbr else None)
  sign_to_come true = ap signed_byte is.plain ∙ sym is.signed
  sign_to_come false = tt

  pub signs_shaped : (shape : Shape) → HasSigns t.e.word (shaped_symbols shape s)
  signs_shaped shape = record { mbr = sign_of shape.byte; byte = sign_to_come shape.byte }

pub signs : (e : Environment) (opcode : ℕ) (s : Symbols) → IsStart e opcode s → HasSigns e.word s
signs e opcode s is =
    record {
      mbr = ap signed_byte is.plain ∙ sym is.signed;
      byte = subst (λ (b : Option Byte). IsSignedIn e.word b) (sym is.byte) tt;
    }
