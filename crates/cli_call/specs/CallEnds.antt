-- How a call of `mic` ends, by what its words ask for.
use Rattle.std.specs.Prelude.{ℕ, List, Option, Some, None, MatchOption}
use Rattle.cli_call.specs.Common.{Machine, Mic1, Mic2, World, canonical_text, Meaning, IsReady as IsReady1, mic1_meaning, micro_of as micro_of1, mic2_meaning}
use Rattle.cli_call.specs.Common.{mic3_meaning, pipeline_of, mic3_timing, Timing, timing_of, listed_program, HasShipped, Processor, Datapath, Mic3, CommandName}
use Rattle.cli_call.specs.Common.{Text, Asked, machine_of, out_of_memory, LentView, Over, OutsideView, PrintsOnOut, TellsOnErr, PrintsTextOf, Lists, Summarizes}
use Rattle.cli_call.specs.Common.{Assembles, EndsOver, IsReferenceRun, SoakEnds, Compiles, EndsOverTiny, MicroAnswers, PrintMicroAnswers, Job, EndsCache}
use Rattle.cli_call.specs.Common.{EndsOwnRun, EndsProfile, EndsTrace, EndsDebug, EndsRewind}
use Rattle.mic2_datapath.specs.Prelude.{IsReady as IsReady2, micro_of as micro_of2}
use Rattle.mic3_datapath.specs.Prelude.{IsReady as IsReady3}
use Rattle.cli_words.specs.declared.table.CommandName.TheVariants as name
use Rattle.cli_outside.specs.Status as exits
use Rattle.cli_call.specs.ClockedEnd.{ClockedEnd}
use Rattle.cli_call.specs.Usage.{usage_text}

-- the microprogram of this file is printed, or the one that ships where no file is named
abbrev pub PrintsMicro : Machine → Option Text → OutsideView → OutsideView → ℕ → Type 0
PrintsMicro machine None = PrintsOnOut (canonical_text (listed_program machine)) exits.done
PrintsMicro machine (Some file) = PrintMicroAnswers machine file

-- what a command line asks a machine to do, by the microprogram that it names, or always by the one that ships

abbrev pub job_of : Asked → Job Text
job_of a = record { file = a.file; own = a.micro; bound = a.bound; map = a.map }

abbrev pub shipped_job_of : Asked → Job Text
shipped_job_of a = record { file = a.file; own = None; bound = a.bound; map = a.map }

-- A machine: its meaning, when its next instruction is ready, its store that ships, where that begins, and what is spent.
module _ {M S : Type 0} (state : M → S) (m : Meaning S) (IsReady : ℕ → List ℕ → ℕ → S → World → Type 0)
    (IsShipped : List ℕ → Type 0) (entry : ℕ) (timing : Timing) where
  -- `run`, by the microprogram that ships, or by a person's own
  abbrev pub EndsRun : Job Text → OutsideView → OutsideView → ℕ → Type 0
  EndsRun job old new status =
      MatchOption job.own (EndsOver job.map (ClockedEnd state m IsReady IsShipped entry timing job.bound) job.file old new status)
      (λ own. EndsOwnRun state m job old new status)

  -- how each command ends, on the machine where one is clocked
  abbrev pub EndsOn : CommandName → Asked → OutsideView → OutsideView → ℕ → Type 0
  EndsOn name.Assemble a = Assembles a.target a.file
  EndsOn name.List a = EndsOver a.map (PrintsTextOf Lists) a.file
  EndsOn name.Verify a = EndsOver a.map (PrintsTextOf Summarizes) a.file
  EndsOn name.Run a = EndsRun (job_of a)
  EndsOn name.Trace a = EndsTrace state m a.buses (job_of a)
  EndsOn name.Profile a = EndsProfile state m (job_of a)
  EndsOn name.Debug a = EndsDebug state m (job_of a) a.input
  EndsOn name.Reference a = EndsOver a.map (IsReferenceRun (machine_of a.processor) a.bound) a.file
  EndsOn name.Micro a = MicroAnswers (machine_of a.processor) a.target a.file
  EndsOn name.PrintMicro a = PrintsMicro (machine_of a.processor) a.micro
  EndsOn name.Soak a = SoakEnds state m IsReady IsShipped entry timing a.seed a.size
  -- always on Mic-1
  EndsOn name.Cache a = EndsCache micro_of1 mic1_meaning a.lines (shipped_job_of a)
  EndsOn name.Rewind a = EndsRewind state m a.depth (shipped_job_of a) a.input
  EndsOn name.Compile a = Compiles a.target a.file
  EndsOn name.Tiny a = EndsOverTiny (ClockedEnd state m IsReady IsShipped entry timing a.bound) a.file

-- Each machine with the microprogram that ships for it, and Main1 at 0x002. Mic-3 clocks the one for Mic-2, and spends its own cycles.
abbrev pub EndsOnMachine : Processor → CommandName → Asked → OutsideView → OutsideView → ℕ → Type 0
EndsOnMachine (Datapath Mic1) = EndsOn micro_of1 mic1_meaning IsReady1 (HasShipped Mic1) 0x002 (timing_of Mic1)
EndsOnMachine (Datapath Mic2) = EndsOn micro_of2 mic2_meaning IsReady2 (HasShipped Mic2) 0x002 (timing_of Mic2)
EndsOnMachine Mic3 = EndsOn pipeline_of mic3_meaning IsReady3 (HasShipped Mic2) 0x002 mic3_timing

-- Where the words ask for nothing, the usage text says how `mic` is called.
abbrev pub EndsAs : Option Asked → OutsideView → OutsideView → ℕ → Type 0
EndsAs None = TellsOnErr usage_text exits.usage
EndsAs (Some a) = EndsOnMachine a.processor a.command a

-- what is asked for is done to an outside that is lent
abbrev pub DoesAsked : Asked → LentView → LentView → ℕ → Type 0
DoesAsked asked = Over (EndsAs (Some asked))

-- memory runs out before anything is done, or the call ends as its words ask
pub data CallEnds (asks : Option Asked) (old new : OutsideView) (status : ℕ) : Type 0 where
  NoRoom : TellsOnErr out_of_memory exits.memory old new status → CallEnds asks old new status
  Done : EndsAs asks old new status → CallEnds asks old new status
