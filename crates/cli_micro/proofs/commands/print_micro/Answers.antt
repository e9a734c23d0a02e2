use Rattle.cli_outside.specs.Prelude.{did, not_had, refused, unread}
use Rattle.cli_micro.proofs.commands.print_micro.Goals as goal

pub returns-in-Err : goal.returns-in-Err
returns-in-Err g c = not_had (unread c.in-Err.ensures.unread)

pub returns-in-Ok-printed_text : goal.returns-in-Ok-printed_text
returns-in-Ok-printed_text g c =
    did c.in-Ok-printed_text.text.items
    (record { bytes = c.in-Ok.bytes.items; read = c.in-Ok.ensures.read; is = rw c.deref.ensures.value at c.in-Ok-printed_text.ensures.ok })
    (rw (c.in-Ok.ensures.same, c.deref-in-Ok-printed_text.ensures.value) at c.print.ensures)

pub returns : goal.returns
returns g c =
    not_had (refused c.in-Err-printed_text.refusal c.in-Ok.ensures.read (rw c.deref.ensures.value at c.in-Err-printed_text.ensures.err)
    (rw c.in-Ok.ensures.same at c.refuse.ensures))
