-- What Mic-2 means as a clocked machine: the microstep of the statement that a word spells.
use Rattle.std.specs.Prelude.{◌≡◌, ◌<◌, ◌≤◌, ℕ, ◌+◌, ◌^◌, ◌==◌, true, false, if◌then◌else◌, List, None, length, IsTrue}
use Rattle.mic2_datapath.specs.Common.{World, byte_in, Placed, microword_of, statement_of, is_valid, alu, shifted, before, is_negative, Drive, Computed}
use Rattle.mic2_datapath.specs.Common.{Registers, Start, Queue, Meaning, Outcome, at_start, StandsAt}
use Rattle.mic_words.specs.declared.machine.Machine.TheVariants as machines
use Rattle.mic2_datapath.specs.Microstep.{source, result_of, is_stalled, microstep}
use Rattle.mic2_datapath.specs.Micro.{Micro}

unfoldable pub step_of_word : ℕ → Micro → World → Outcome Micro
step_of_word word m w = microstep (statement_of machines.Mic2 word) m w

-- the step of a valid statement's word is the microstep of the statement
abbrev pub StepsAsSpelled : Type 0
StepsAsSpelled =
    (s : Placed) → IsTrue (is_valid machines.Mic2 s) → (m : Micro) (w : World) → step_of_word (microword_of machines.Mic2 s) m w ≡ microstep s m w

-- the word at address 0 is pending
abbrev pub initial : Start → Micro
initial start =
    record {
      mar = 0;
      mdr = 0;
      pc = 0;
      sp = start.sp;
      lv = 0x8000;
      cpp = 0x4000;
      tos = 0;
      opc = 0;
      h = 0;
      mpc = start.entry;
      word = None;
      unit = at_start start.first;
      begins = false;
    }

abbrev pub at_zero : Start
at_zero = record { entry = 0; sp = 0; first = 0 }

abbrev pub registers_of : Micro → Registers
registers_of m =
    record {
      mar = m.mar;
      mdr = m.mdr;
      pc = m.pc;
      sp = m.sp;
      lv = m.lv;
      cpp = m.cpp;
      tos = m.tos;
      opc = m.opc;
      h = m.h;
      mpc = m.mpc;
      tail = Queue (record { items = m.unit.bytes }) m.unit.imar;
    }

-- What is on the buses; in a stall nothing drives them.

abbrev pub stalled_drive : Drive
stalled_drive = record { a = 0; b = 0; stalled = true }

abbrev pub driven_by : Placed → Micro → Drive
driven_by s m = if is_stalled s m then stalled_drive else record { a = source s.part.a m; b = source s.part.b m; stalled = false }

unfoldable pub driven : ℕ → Micro → Drive
driven word m = driven_by (statement_of machines.Mic2 word) m

-- the result with N and Z, and the shifted result

abbrev pub stalled_value : Computed
stalled_value = record { alu = record { value = 0; n = false; z = false }; c = 0 }

abbrev pub flagged : ℕ → ℕ → Computed
flagged x c = record { alu = record { value = x; n = is_negative x; z = x == 0 }; c = c }

abbrev pub value_of : Placed → ℕ → Computed
value_of s x = flagged x (shifted s.part.shift x)

-- what leaves the ALU and the shifter for what is on the operand buses
abbrev pub computed_on : Placed → Drive → Computed
computed_on s d = if d.stalled then stalled_value else value_of s (alu s.part.op d.a d.b)

abbrev pub computed_by : Placed → Micro → Computed
computed_by s m = if is_stalled s m then stalled_value else value_of s (result_of s.part m)

unfoldable pub computed : ℕ → Micro → Computed
computed word m = computed_by (statement_of machines.Mic2 word) m

-- An instruction begins where the cycle before went to its first word. Its opcode was taken then: PC is one more than its address.
abbrev pub mic2_meaning : Meaning Micro
mic2_meaning =
    record {
      machine = machines.Mic2;
      initial = initial;
      step = step_of_word;
      drives = driven;
      computes = computed;
      registers = registers_of;
      is_boundary = λ m. m.begins;
      address = λ m. before m.pc;
    }

-- What a Mic-2 has before the instruction at an address, in any world: PC after its opcode, which is MPC, the unit
-- there with at least two bytes, and no word under way.
pub record IsReady (main : ℕ) (words : List ℕ) (at : ℕ) (m : Micro) (w : World) : Type 0 where
  pub pc : m.pc ≡ at + 1
  pub low : m.pc < 2 ^ 32
  pub mpc : m.mpc ≡ byte_in words at
  pub unit : StandsAt words (at + 1) m.unit
  pub two : 2 ≤ length m.unit.bytes
  pub begins : m.begins ≡ true
  pub word : m.word ≡ None
