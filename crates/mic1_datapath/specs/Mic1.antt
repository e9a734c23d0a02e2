-- What Mic-1 means as a clocked machine: the microstep of the statement that a word spells.
use Rattle.std.specs.Prelude.{◌≡◌, ℕ, true, false, ◌&&◌, ◌==◌, List, None, length, IsTrue}
use Rattle.mic1_datapath.specs.Common.{World, byte_in, Placed, microword_of, statement_of, is_valid, alu, shifted, is_negative, Drive, Computed, Registers}
use Rattle.mic1_datapath.specs.Common.{Start, Mbr, Meaning, Outcome, outcome}
use Rattle.mic_words.specs.declared.machine.Machine.TheVariants as machines
use Rattle.mic1_datapath.specs.Microstep.{source, clock, world_after, refusal}
use Rattle.mic1_datapath.specs.Micro.{Micro}

abbrev pub microstep : Placed → Micro → World → Outcome Micro
microstep s m w = outcome (refusal (length w.words) s m) (clock (length w.words) s m w) (world_after (length w.words) s m w)

unfoldable pub step_of_word : ℕ → Micro → World → Outcome Micro
step_of_word word m w = microstep (statement_of machines.Mic1 word) m w

-- the step of a valid statement's word is the microstep of the statement
abbrev pub StepsAsSpelled : Type 0
StepsAsSpelled =
    (s : Placed) → IsTrue (is_valid machines.Mic1 s) → (m : Micro) (w : World) → step_of_word (microword_of machines.Mic1 s) m w ≡ microstep s m w

abbrev pub initial : Start → Micro
initial start =
    record {
      mar = 0;
      mdr = 0;
      pc = 0xFFFFFFFF;
      sp = start.sp;
      lv = 0x8000;
      cpp = 0x4000;
      tos = 0;
      opc = 0;
      h = 0;
      mbr = 0;
      mpc = start.entry;
      word = None;
      byte = None;
      entry = start.entry;
      clocked = false;
    }

abbrev pub at_zero : Start
at_zero = record { entry = 0; sp = 0; first = 0 }

abbrev pub registers_of : Micro → Registers
registers_of m =
    record { mar = m.mar; mdr = m.mdr; pc = m.pc; sp = m.sp; lv = m.lv; cpp = m.cpp; tos = m.tos; opc = m.opc; h = m.h; mpc = m.mpc; tail = Mbr m.mbr }

-- H and the B source
unfoldable pub driven : ℕ → Micro → Drive
driven word m = record { a = m.h; b = source (statement_of machines.Mic1 word).part.b m; stalled = false }

-- for these operands, the result with N and Z, and the shifted result
abbrev pub computed_on : ℕ → ℕ → ℕ → Computed
computed_on word a b =
    let part = (statement_of machines.Mic1 word).part in
    let x = alu part.op a b in
    record { alu = record { value = x; n = is_negative x; z = x == 0 }; c = shifted part.shift x }

unfoldable pub computed : ℕ → Micro → Computed
computed word m = computed_on word m.h (source (statement_of machines.Mic1 word).part.b m)

-- After a first cycle an instruction begins where MPC is the address of Main1, and PC is its address.
abbrev pub mic1_meaning : Meaning Micro
mic1_meaning =
    record {
      machine = machines.Mic1;
      initial = initial;
      step = step_of_word;
      drives = driven;
      computes = computed;
      registers = registers_of;
      is_boundary = λ m. m.clocked && m.mpc == m.entry;
      address = λ m. m.pc;
    }

-- what a Mic-1 has before the instruction at an address, in any world: PC there, its byte in MBR, MPC at Main1, and nothing under way
pub record IsReady (main : ℕ) (words : List ℕ) (at : ℕ) (m : Micro) (w : World) : Type 0 where
  pub pc : m.pc ≡ at
  pub mbr : m.mbr ≡ byte_in words at
  pub mpc : m.mpc ≡ m.entry
  pub entry : m.entry ≡ main
  pub clocked : m.clocked ≡ true
  pub word : m.word ≡ None
  pub byte : m.byte ≡ None
