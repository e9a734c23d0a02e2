-- The cycle, computed on whole runs of the shipped microprogram.
use Rattle.mic3_interpreter.proofs.Common.{◌≡◌, ℕ, zero, suc, List, [], ◌∷◌, Option, Some, None, Bool, true, refl, wrap, signed_byte, signed_pair, World}
use Rattle.mic3_interpreter.proofs.Common.{write_refusal, read_refusal, word_refusal, read_value, untaken_after, given_after, byte_in, Outcome, Done, Refused}
use Rattle.mic3_interpreter.proofs.Common.{edge, jump, edge_refusal, Pipeline, issued, cycle_with, initial}
use Rattle.mic3_interpreter.proofs.Store.{shipped}

record Told : Type 0 where
  mar : ℕ
  mdr : ℕ
  pc : ℕ
  bytes : List ℕ
  imar : ℕ
  sp : ℕ
  lv : ℕ
  tos : ℕ
  opc : ℕ
  h : ℕ
  mpc : ℕ
  begins : Bool
  given : List ℕ

abbrev told : Outcome Pipeline → Option Told
told (Refused why) = None
told (Done p w) =
    Some (
    record {
      mar = p.micro.mar;
      mdr = p.micro.mdr;
      pc = p.micro.pc;
      bytes = p.micro.unit.bytes;
      imar = p.micro.unit.imar;
      sp = p.micro.sp;
      lv = p.micro.lv;
      tos = p.micro.tos;
      opc = p.micro.opc;
      h = p.micro.h;
      mpc = p.micro.mpc;
      begins = p.micro.begins;
      given = w.given;
    })

-- a memory of few words, on a map that ends later
abbrev top : ℕ
top = 0x10000

abbrev after : (Pipeline → World → Outcome Pipeline) → Outcome Pipeline → Outcome Pipeline
after more (Refused why) = Refused why
after more (Done p w) = more p w

abbrev cycles : ℕ → Pipeline → World → Outcome Pipeline
cycles zero p w = Done p w
cycles (suc n) p w = after (cycles n) (cycle_with top (issued (shipped p.micro.mpc) p) p w)

abbrev run : ℕ → List ℕ → Option Told
run n words = told (cycles n (initial (record { entry = 2; sp = 0x7FFF; first = 0x1048FDFF })) (record { words = words; untaken = []; given = [] }))

-- such a run with the pool from word 8 and main's frame from word 16 on, so that the memory is short
abbrev run_low : ℕ → ℕ → List ℕ → List ℕ → Option Told
run_low n first words input =
    told
    (cycles n (record (initial (record { entry = 2; sp = 15; first = first })) {
      micro = record
          (initial (record { entry = 2; sp = 15; first = first })).micro { lv = 16; cpp = 8 };
    })
    (record { words = words; untaken = input; given = [] }))

-- the program of the call: LDC_W, BIPUSH 20, BIPUSH 22, INVOKEVIRTUAL, OUT, HALT; ILOAD 1, ILOAD 2, IADD, ISTORE 3, ILOAD 3, IRETURN
abbrev add_words : List ℕ
add_words =
    0x13000010 ∷ 0x141016B6 ∷ 0x0001FDFF ∷ 0x00030001 ∷ 0x15011502 ∷ 0x60360315 ∷ 0x03AC0000 ∷ 0 ∷ 64 ∷ 12
    ∷ 0 ∷ 0 ∷ 0 ∷ 0 ∷ 0 ∷ 0 ∷ 0 ∷ 0 ∷ 0 ∷ 0 ∷ 0 ∷ 0 ∷ 0 ∷ 0 ∷ 0 ∷ 0 ∷ 0 ∷ 0 ∷ 0 ∷ 0 ∷ 0 ∷ 0 ∷ []

add_row : run_low 112 0x13000010 add_words []
    ≡ Some (record {
      mar = 15;
      mdr = 0;
      pc = 12;
      bytes = 0 ∷ 3 ∷ 0 ∷ 1 ∷ [];
      imar = 4;
      sp = 15;
      lv = 16;
      tos = 0;
      opc = 0xFFFFFFFE;
      h = 0xFFFFFFFF;
      mpc = 0xFF;
      begins = true;
      given = 42 ∷ [];
    })
unfolding wrap signed_byte signed_pair write_refusal read_refusal word_refusal read_value untaken_after given_after byte_in edge jump edge_refusal
add_row = refl

-- BIPUSH 72, OUT, HALT
hello : run 23 (0x1048FDFF ∷ [])
    ≡ Some (record {
      mar = 0x7FFF;
      mdr = 0;
      pc = 4;
      bytes = 0 ∷ 0 ∷ 0 ∷ 0 ∷ [];
      imar = 2;
      sp = 0x7FFF;
      lv = 0x8000;
      tos = 0;
      opc = 0xFFFFFFFE;
      h = 0xFFFFFFFF;
      mpc = 0xFF;
      begins = true;
      given = 0x48 ∷ [];
    })
unfolding wrap signed_byte signed_pair write_refusal read_refusal word_refusal read_value untaken_after given_after byte_in edge jump edge_refusal
hello = refl
