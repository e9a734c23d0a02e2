-- What a run of the plain machine over a source and a sink reports: the definition's run to its end, or to the boundary at which a fault cut it.
use Rattle.std.specs.Prelude.{◌≡◌, ◌≢◌, ◌⊎◌, ℕ, ◌<◌, ◌+◌, false, List, [], ◌∷◌, ◌++◌, Option, Some, IfSome, Result, Ok, Err, is_some, unwrap_or}
use Rattle.ijvm_reference.specs.Common.{AllocError, Machine, ConsoleView, Untaken, LosesLast, MemoryMap, In, RunEnd, instr_at, ImageView, base, sp_of, lv_of}
use Rattle.ijvm_reference.specs.Common.{timing_of, TimedImage, Point, Finish, first_point, EndsBy}
use Rattle.ijvm_meaning.specs.declared.run.RunEnd.TheVariants as defined
use Rattle.ijvm_reference.specs.declared.plain.PlainEnd.{PlainEnd}
use Rattle.ijvm_reference.specs.declared.plain.PlainEnd.TheVariants as ends
use Rattle.ijvm_reference.specs.declared.plain.PlainReport.{PlainReport}
use Rattle.ijvm_reference.specs.declared.plain.Counts.{Counts}
use Rattle.ijvm_reference.specs.Kept.{PutsKept, fresh}
use Rattle.ijvm_reference.specs.Machine.{MachineView}
use Rattle.ijvm_reference.specs.Runs.{Reaches, IsAllBut}

-- the bytes of a source or a sink, or none where they are not known
abbrev pub told_of : Option (List ℕ) → List ℕ
told_of told = unwrap_or told []

-- an image on a memory map, with a machine's cycles
abbrev pub program : ImageView → MemoryMap → Machine → TimedImage
program image map machine = record { image = image; stack_end = map.stack_end; timing = timing_of machine }

-- an end of the definition's run, as it is reported
abbrev pub reported_end : RunEnd → PlainEnd
reported_end defined.Halt = ends.Halt
reported_end defined.Err = ends.Err
reported_end defined.Bound = ends.Bound
reported_end defined.StackLimit = ends.StackLimit

-- how a run ended, or that memory was short
abbrev pub end_of : Result PlainReport AllocError → Result PlainEnd AllocError
end_of (Ok r) = Ok r.end
end_of (Err e) = Err e

-- a report of these counts and of these frames' places
pub record IsReportOf (r : PlainReport) (c : Counts) (new : MachineView) : Type 0 where
  pub cycles : r.cycles ≡ c.cycles
  pub instructions : r.instructions ≡ c.instructions
  pub boundary : r.boundary ≡ c.boundary
  pub address : r.address ≡ new.at
  pub sp : r.sp + 1 ≡ base (new.running ∷ new.callers)
  pub lv : r.lv ≡ base new.callers

-- the counts of a report, and its last boundary
pub record Reports (r : PlainReport) (cycles instructions : ℕ) (last : Point) : Type 0 where
  pub cycles_are : r.cycles ≡ cycles
  pub instructions_are : r.instructions ≡ instructions
  pub boundary : r.boundary ≡ last.cycles
  pub address : r.address ≡ last.state.at
  pub sp : r.sp ≡ sp_of last.state
  pub lv : r.lv ≡ lv_of last.state

-- where it was known what a source had left, these bytes are left now
abbrev pub Leaves : Option (List ℕ) → Option (List ℕ) → List ℕ → Type 0
Leaves left left' untaken = (bytes : List ℕ) → left ≡ Some bytes → left' ≡ Some untaken

-- A sink that held this got all of these bytes; a front of them.

abbrev pub GotAll : Option (List ℕ) → Option (List ℕ) → List ℕ → Type 0
GotAll held held' given = IfSome held' (λ h. h ≡ told_of held ++ given)

abbrev pub GotFront : Option (List ℕ) → Option (List ℕ) → List ℕ → Type 0
GotFront held held' given = IfSome held' (λ h. (some more : List ℕ) × (h ≡ told_of held ++ some) × (some ++ more ≡ given))

module _ (p : TimedImage) (main_locals bound : ℕ) (left held left' held' : Option (List ℕ)) where
  -- the definition's run of the bytes that the source has left, where they are known, goes to its end, and leaves what the run does not take
  pub record Finishes : Type 0 where
    pub input : List ℕ
    pub told : Untaken left false input
    pub finish : Finish
    pub ends : EndsBy p bound (first_point p main_locals input) finish
    pub untaken : Leaves left left' finish.left.untaken

  -- the definition's run of those bytes goes to a boundary that it passes, with what the console keeps there
  pub record Stops : Type 0 where
    pub input : List ℕ
    pub told : Untaken left false input
    pub at : Point
    pub console : ConsoleView
    pub reaches : Reaches (is_some left) p bound (first_point p main_locals input) fresh at console
    pub untaken : Leaves left left' at.state.untaken

  -- no fault came: the end is the definition's, and the sink has got all its output
  pub record HasRun (r : PlainReport) : Type 0 where
    pub run : Finishes
    pub end : r.end ≡ reported_end run.finish.end
    pub report : Reports r run.finish.cycles run.finish.instructions run.finish.last
    pub given : GotAll held held' run.finish.left.given

  -- the source failed at an IN that asked it: the sink has got all that was given before it
  pub record IsCutByRead (r : PlainReport) : Type 0 where
    pub run : Stops
    pub under : run.at.cycles < bound
    pub instr : instr_at p.image.text run.at.state.at ≡ Some In
    pub asked : run.console.ended ≡ false
    pub report : Reports r run.at.cycles run.at.instructions run.at
    pub given : GotAll held held' run.at.state.given

  -- The sink failed at an instruction that puts what the console keeps, an IN or an OUT. It has got all that was given before it but the last
  -- of those bytes: so no earlier such instruction failed.
  pub record IsCutInside (r : PlainReport) : Type 0 where
    pub run : Stops
    pub under : run.at.cycles < bound
    pub met : PutsKept (instr_at p.image.text run.at.state.at) run.console
    pub report : Reports r run.at.cycles run.at.instructions run.at
    pub given : GotFront held held' run.at.state.given
    pub lost : IsAllBut held' run.console.kept (told_of held ++ run.at.state.given)

  -- the sink failed in the last flush, for which the last bytes that were given waited
  pub record IsCutAtEnd (r : PlainReport) : Type 0 where
    pub run : Finishes
    pub report : Reports r run.finish.cycles run.finish.instructions run.finish.last
    pub given : GotFront held held' run.finish.left.given
    pub last : LosesLast held' (told_of held ++ run.finish.left.given)

  abbrev pub IsCutByWrite : PlainReport → Type 0
  IsCutByWrite r = IsCutInside r ⊎ IsCutAtEnd r

  -- memory ran out for the instruction at a boundary, or before the first boundary
  pub record IsShort : Type 0 where
    pub run : Stops
    pub given : GotFront held held' run.at.state.given

  -- which of these holds of a report, by its end
  pub record IsRunReport (r : PlainReport) : Type 0 where
    pub run : r.end ≢ ends.ReadFault → r.end ≢ ends.WriteFault → HasRun r
    pub read : r.end ≡ ends.ReadFault → IsCutByRead r
    pub write : r.end ≡ ends.WriteFault → IsCutByWrite r
