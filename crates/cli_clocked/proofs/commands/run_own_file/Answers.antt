use Rattle.cli_clocked.proofs.Ending.{clocked, unprepared}
use Rattle.cli_clocked.proofs.commands.run_own_file.Goals as goal

pub returns-in-Ok : goal.returns-in-Ok
returns-in-Ok g c =
    clocked c.in-Ok.prepared.micro.program c.in-Ok.prepared.program (rw c.machine.ensures at c.in-Ok.ensures.prepared)
    (rw c.in-Ok.ensures.same at c.run_program.ensures)

pub returns-in-Err : goal.returns-in-Err
returns-in-Err g c = unprepared (rw c.machine.ensures at c.in-Err.ensures.unprepared)
