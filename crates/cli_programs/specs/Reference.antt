-- How the definition's run of an accepted program ends, with a machine's costs, and its report.
use Rattle.std.specs.Prelude.{◌≡◌, ℕ}
use Rattle.cli_programs.specs.Common.{Rose, Machine, StaysFlushed, PlainReport, timing_of, TimedImage, VerifiedView, OutsideView, Says, out_of_memory}
use Rattle.cli_programs.specs.Common.{clocked_end, status_of, plain_head}
use Rattle.ijvm_reference.specs.declared.plain.PlainEnd.TheVariants as ends
use Rattle.ijvm_reference.specs.Prelude.{HasRun, IsCutByRead, IsCutByWrite, IsShort}
use Rattle.cli_outside.specs.Status as exits

-- an accepted program on its memory map, with this machine's costs
abbrev pub verified_program : VerifiedView → Machine → TimedImage
verified_program program machine = record { image = program.image; stack_end = program.map.stack_end; timing = timing_of machine }

-- What a report says of a run between the console and `out`.
pub data IsReported (machine : Machine) (bound : ℕ) (program : VerifiedView) (old new : OutsideView) (r : PlainReport) : Type 0 where
  -- the definition's run to its end; `out` has got its output, and has passed on all
  Ran : HasRun (verified_program program machine) program.main_locals bound old.console.left old.out.held new.console.left new.out.held r →
      new.console.faults ≡ old.console.faults → new.out.faults ≡ old.out.faults → StaysFlushed old.out.held old.out.passed new.out.held new.out.passed →
      IsReported machine bound program old new r
  -- the console failed, which cut the run at an IN; `out` has got all the output before it, and has passed on all
  CutByRead : r.end ≡ ends.ReadFault →
      IsCutByRead (verified_program program machine) program.main_locals bound old.console.left old.out.held new.console.left new.out.held r →
      Rose old.console.faults new.console.faults → new.out.faults ≡ old.out.faults → StaysFlushed old.out.held old.out.passed new.out.held new.out.passed →
      IsReported machine bound program old new r
  -- `out` failed, which cut the run at an IN or an OUT, or at its end; `out` has got a front of the output
  CutByWrite : r.end ≡ ends.WriteFault →
      IsCutByWrite (verified_program program machine) program.main_locals bound old.console.left old.out.held new.console.left new.out.held r →
      new.console.faults ≡ old.console.faults → Rose old.out.faults new.out.faults → IsReported machine bound program old new r

-- A run of the program, and what is printed of it on `err`.
pub data IsReferenceRun (machine : Machine) (bound : ℕ) (program : VerifiedView) (old new : OutsideView) (status : ℕ) : Type 0 where
  Reported : (r : PlainReport) → IsReported machine bound program old new r → new.files ≡ old.files →
      Says old.err new.err (plain_head r) (status_of (clocked_end r.end)) status → IsReferenceRun machine bound program old new status
  -- memory ran out at a boundary; `out` has got a front of the output, and has passed on all that it got
  Short : IsShort (verified_program program machine) program.main_locals bound old.console.left old.out.held new.console.left new.out.held →
      new.console.faults ≡ old.console.faults → new.out.faults ≡ old.out.faults → StaysFlushed old.out.held old.out.passed new.out.held new.out.passed →
      new.files ≡ old.files → Says old.err new.err out_of_memory exits.memory status → IsReferenceRun machine bound program old new status
