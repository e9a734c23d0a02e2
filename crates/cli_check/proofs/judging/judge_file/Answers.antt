use Rattle.cli_outside.specs.Prelude.{did, not_had, refused, unread}
use Rattle.cli_check.proofs.judging.judge_file.Goals as goal

pub returns-in-Err : goal.returns-in-Err
returns-in-Err g c = not_had (unread c.in-Err.ensures.unread)

pub returns-in-Ok-placed_microprogram : goal.returns-in-Ok-placed_microprogram
returns-in-Ok-placed_microprogram g c =
    did c.in-Ok-placed_microprogram.micro.program
    (record { bytes = c.in-Ok.bytes.items; read = c.in-Ok.ensures.read; is = rw c.deref.ensures.value at c.in-Ok-placed_microprogram.ensures.ok })
    (rw c.in-Ok.ensures.same at c.judge_program.ensures)

pub returns : goal.returns
returns g c =
    not_had (refused c.in-Err-placed_microprogram.refusal c.in-Ok.ensures.read (rw c.deref.ensures.value at c.in-Err-placed_microprogram.ensures.err)
    (rw c.in-Ok.ensures.same at c.refuse.ensures))
