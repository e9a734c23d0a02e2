-- What Mic-3 means as a clocked machine: its cycle, where the statement that a word spells is the next to issue.
use Rattle.std.specs.Prelude.{◌≡◌, ◌≤◌, ℕ, List, Option, Some, None, false, length}
use Rattle.mic3_datapath.specs.Common.{World, before, statement_of, Drive, Computed as Values, Start, Meaning, Outcome}
use Rattle.mic_words.specs.declared.machine.Machine.TheVariants as machines
use Rattle.mic2_datapath.specs.Mic2.{initial as initial_of, IsReady as IsReadyAt}
use Rattle.mic2_datapath.specs.Prelude.{registers_of, stalled_drive, stalled_value, value_of}
use Rattle.mic3_datapath.specs.Pipeline.{Pipeline, Issued}
use Rattle.mic3_datapath.specs.Cycle.{cycle, issued, result_of}

unfoldable pub step_of_word : ℕ → Pipeline → World → Outcome Pipeline
step_of_word word p w = cycle (statement_of machines.Mic2 word) p w

-- the state at a reset: that of Mic-2, with empty slots
abbrev pub initial : Start → Pipeline
initial start = record { micro = initial_of start; operand = None; result = None }

-- What is on the operand buses. Where nothing issues, nothing drives them, and the cycle counts as a stall.

abbrev pub driven_by : Option Issued → Drive
driven_by None = stalled_drive
driven_by (Some i) = record { a = i.a; b = i.b; stalled = false }

unfoldable pub driven : ℕ → Pipeline → Drive
driven word p = driven_by (issued (statement_of machines.Mic2 word) p)

-- what the statement in the operand slot computes, and 0 where there is none
abbrev pub values_of : Option Issued → Values
values_of None = stalled_value
values_of (Some i) = value_of i.statement (result_of i)

-- A boundary is after a cycle in which a dispatch to an instruction has retired. Its opcode was taken before: PC is one more than its address.
abbrev pub mic3_meaning : Meaning Pipeline
mic3_meaning =
    record {
      machine = machines.Mic2;
      initial = initial;
      step = step_of_word;
      drives = driven;
      computes = λ word p. values_of p.operand;
      registers = λ p. registers_of p.micro;
      is_boundary = λ p. p.micro.begins;
      address = λ p. before p.micro.pc;
    }

-- what a Mic-3 has before the instruction at an address, in any world: what a Mic-2 has, with at least three bytes in its queue and empty slots
pub record IsReady (main : ℕ) (words : List ℕ) (at : ℕ) (p : Pipeline) (w : World) : Type 0 where
  pub micro : IsReadyAt main words at p.micro w
  pub three : 3 ≤ length p.micro.unit.bytes
  pub operand : p.operand ≡ None
  pub result : p.result ≡ None
