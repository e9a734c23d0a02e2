-- That `run` and `reference` of one program agree: the same output, the same status, and the same first three lines
-- of their reports. That `run` agrees on two machines: the same output, status, end and number of instructions.
-- That `cache` counts the accesses of the run that `run` makes on Mic-1: the same output, status and report.
use Rattle.std.specs.Prelude.{◌≡◌, ◌≢◌, ◌⊎◌, ℕ, List, ◌++◌, Some, codes, replicate}
use Rattle.cli_call.specs.Common.{Rose, Contents, Machine, Mic1, Mic2, IsLoaded, World, MemoryMap, Counts, End, Registers, MicroRun, turns, state_line, Cycle}
use Rattle.cli_call.specs.Common.{cycles_of, reset_run, Micro, mic1_meaning, registers_of, HasShipped, VerifiedView, PlainReport, Got, OutsideView}
use Rattle.cli_call.specs.Common.{report as report_of, plain_head, accesses_of, cache_line, counts_of, Cache, Reference, Run}
use Rattle.cli_outside.specs.Status as exits
use Rattle.cli_call.specs.CallEnds.{CallEnds}

-- a call met no fault of its files and its streams, and was not out of memory
pub record IsQuiet (old new : OutsideView) (status : ℕ) : Type 0 where
  pub files : Rose old.files.faults new.files.faults → ⊥
  pub console : Rose old.console.faults new.console.faults → ⊥
  pub out : Rose old.out.faults new.out.faults → ⊥
  pub err : Rose old.err.faults new.err.faults → ⊥
  pub memory : status ≢ exits.memory

-- `run` led to the outside `ran`, and `reference` to `told`
pub record Agrees (old ran told : OutsideView) (status status' : ℕ) : Type 0 where
  pub same_status : status ≡ status'
  pub same_out : (one other : List ℕ) → ran.out.held ≡ Some one → told.out.held ≡ Some other → one ≡ other
  -- `reference` prints three lines, and `run` these and the state line
  pub report : PlainReport
  pub registers : Registers
  pub run_says : Got old.err.held (plain_head report ++ state_line registers ++ codes "\n") ran.err.held
  pub reference_says : Got old.err.held (plain_head report) told.err.held

-- `run` on one machine led to the outside `one`, and on another to `other`
pub record CallsEndAlike (old one other : OutsideView) (status status' : ℕ) : Type 0 where
  pub same_status : status ≡ status'
  pub same_out : (given given' : List ℕ) → one.out.held ≡ Some given → other.out.held ≡ Some given' → given ≡ given'
  -- both report this end, and the same number of instructions
  pub end : End
  pub counts : Counts
  pub counts' : Counts
  pub same_instructions : counts.instructions ≡ counts'.instructions
  pub registers : Registers
  pub registers' : Registers
  pub one_says : Got old.err.held (report_of end counts registers) one.err.held
  pub other_says : Got old.err.held (report_of end counts' registers') other.err.held

-- A run of Mic-1 by the microprogram that ships, from its reset over a loaded program and this input: its turns show these cycles, and come here.
pub record RunsTo (program : VerifiedView) (input : List ℕ) (bound : ℕ) (store : List ℕ) (cycles : List Cycle) (last : MicroRun Micro) : Type 0 where
  pub shipped : HasShipped Mic1 store
  pub world : World
  pub loaded : IsLoaded program.image.text program.image.pool (replicate program.map.stack_end 0) world.words
  pub untaken : world.untaken ≡ input
  pub n : ℕ
  pub shows : cycles_of mic1_meaning store (Some bound) n (reset_run mic1_meaning 0x002 program.main_locals world) ≡ cycles
  pub comes : turns mic1_meaning store (Some bound) n (reset_run mic1_meaning 0x002 program.main_locals world) ≡ last

-- `run` led to the outside `ran`, and `cache` with this many lines to `cached`: both made this run.
pub record CountsTheRun (input : List ℕ) (lines bound : ℕ) (old ran cached : OutsideView) (status status' : ℕ) : Type 0 where
  pub same_status : status ≡ status'
  pub same_out : (given given' : List ℕ) → ran.out.held ≡ Some given → cached.out.held ≡ Some given' → given ≡ given'
  pub program : VerifiedView
  pub store : List ℕ
  pub cycles : List Cycle
  pub last : MicroRun Micro
  pub runs : RunsTo program input bound store cycles last
  pub end : End
  pub ended : last.end ≡ Some end
  -- `run` prints the report, and `cache` the same, and then the hits and the misses among the accesses of the cycles
  pub run_says : Got old.err.held (report_of end last.counts (registers_of last.state)) ran.err.held
  pub cache_says : Got old.err.held (report_of end last.counts (registers_of last.state)
      ++ cache_line lines (counts_of lines program.map.stack_end (accesses_of Mic1 store cycles))) cached.err.held

-- Two calls over one file end alike: neither has a program, for the same cause, or both run one, of which this holds.
pub data CallsAgree (Agree : Type 0) (status status' : ℕ) : Type 0 where
  NoneHad : status ≡ status' → (status ≡ exits.refused) ⊎ (status ≡ exits.too_long) → CallsAgree Agree status status'
  BothRan : Agree → CallsAgree Agree status status'

-- Both commands over one file, console and map: where no fault comes and neither is out of memory they agree.
abbrev pub RunIsAsReference : Machine → List ℕ → MemoryMap → ℕ → Type 0
RunIsAsReference machine file map bound =
    (input : List ℕ) (contents : Contents) (old ran told : OutsideView) (status status' : ℕ) →
    old.console.left ≡ Some input → old.files.contents ≡ Some contents →
    CallEnds (Some (Run file machine bound map)) old ran status → CallEnds (Some (Reference file machine bound map)) old told status' →
    IsQuiet old ran status → IsQuiet old told status' → CallsAgree (Agrees old ran told status status') status status'

-- `run` on both machines: where, besides, neither meets its bound they end alike.
abbrev pub RunsEndAlike : List ℕ → MemoryMap → ℕ → ℕ → Type 0
RunsEndAlike file map bound bound' =
    (input : List ℕ) (contents : Contents) (old one other : OutsideView) (status status' : ℕ) →
    old.console.left ≡ Some input → old.files.contents ≡ Some contents →
    CallEnds (Some (Run file Mic1 bound map)) old one status → CallEnds (Some (Run file Mic2 bound' map)) old other status' →
    IsQuiet old one status → IsQuiet old other status' → status ≢ exits.bound → status' ≢ exits.bound →
    CallsAgree (CallsEndAlike old one other status status') status status'

-- `run` on Mic-1 and `cache`, with one bound: they make one run.
abbrev pub CacheCountsTheRun : List ℕ → MemoryMap → ℕ → ℕ → Type 0
CacheCountsTheRun file map lines bound =
    (input : List ℕ) (contents : Contents) (old ran cached : OutsideView) (status status' : ℕ) →
    old.console.left ≡ Some input → old.files.contents ≡ Some contents →
    CallEnds (Some (Run file Mic1 bound map)) old ran status → CallEnds (Some (Cache file lines bound map)) old cached status' →
    IsQuiet old ran status → IsQuiet old cached status' →
    CallsAgree (CountsTheRun input lines bound old ran cached status status') status status'
