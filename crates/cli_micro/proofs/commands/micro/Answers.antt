use Rattle.cli_outside.specs.Prelude.{did, not_had, refused, unread}
use Rattle.cli_micro.proofs.commands.micro.Goals as goal

pub returns-in-Err : goal.returns-in-Err
returns-in-Err g c = not_had (unread c.in-Err.ensures.unread)

pub returns-in-Ok-made_of : goal.returns-in-Ok-made_of
returns-in-Ok-made_of g c =
    let m = rw c.deref.ensures.value at c.in-Ok-made_of.ensures.ok in
    did m.placed (record { bytes = c.in-Ok.bytes.items; read = c.in-Ok.ensures.read; is = m.is })
    (rw (m.made.file_is, m.made.text_is) at (rw (c.in-Ok.ensures.same, c.deref-in-Ok-made_of.ensures.value, c.deref-in-Ok-made_of-2.ensures.value) at c.write.ensures))

pub returns : goal.returns
returns g c =
    not_had (refused c.in-Err-made_of.refusal c.in-Ok.ensures.read (rw c.deref.ensures.value at c.in-Err-made_of.ensures.err)
    (rw c.in-Ok.ensures.same at c.refuse.ensures))
