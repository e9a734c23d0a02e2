use Rattle.cli_clocked.specs.Prelude.{Clocked, Unprepared}
use Rattle.cli_session.specs.Prelude.{HasInput, NoInput}
use Rattle.cli_rewind.proofs.commands.rewind_file.Goals as goal

pub returns-in-Err : goal.returns-in-Err
returns-in-Err g c =
    let ended = c.in-Err.ensures.unprepared in
    record { names = ended.names; does = Unprepared (rw c.machine.ensures at ended.does) }

pub returns-in-Ok-chosen_input : goal.returns-in-Ok-chosen_input
returns-in-Ok-chosen_input g c =
    let ended = rw (c.in-Ok-chosen_input.ensures.same, c.in-Ok.ensures.same) at c.rewind_program.ensures in
    record {
      names = ended.names;
      does =
          Clocked c.in-Ok.prepared.micro.program c.in-Ok.prepared.program (rw c.machine.ensures at c.in-Ok.ensures.prepared)
          (HasInput c.in-Ok-chosen_input.input.items (rw c.in-Ok.ensures.same at c.in-Ok-chosen_input.ensures.ok) ended.does);
    }

pub returns-in-Err-chosen_input : goal.returns-in-Err-chosen_input
returns-in-Err-chosen_input g c =
    let ended = rw c.in-Ok.ensures.same at c.in-Err-chosen_input.ensures.err in
    record {
      names = ended.names;
      does =
          Clocked c.in-Ok.prepared.micro.program c.in-Ok.prepared.program (rw c.machine.ensures at c.in-Ok.ensures.prepared) (NoInput ended.does);
    }
