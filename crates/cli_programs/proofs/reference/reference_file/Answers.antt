use Rattle.cli_outside.specs.Prelude.{did, not_had}
use Rattle.cli_programs.proofs.reference.reference_file.Goals as goal

pub returns-in-Ok : goal.returns-in-Ok
returns-in-Ok g c = did c.in-Ok.program c.in-Ok.ensures.had (rw c.in-Ok.ensures.same at c.run_program.ensures)

pub returns-in-Err : goal.returns-in-Err
returns-in-Err g c = not_had c.in-Err.ensures.not_had
