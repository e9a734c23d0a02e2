use Rattle.cli_outside.specs.Prelude.{did, not_had, refused, short, unread}
use Rattle.cli_programs.proofs.assemble.assemble_file.Goals as goal

pub returns-in-Err : goal.returns-in-Err
returns-in-Err g c = not_had (unread c.in-Err.ensures.unread)

pub returns-in-Err-assembled : goal.returns-in-Err-assembled
returns-in-Err-assembled g c =
    not_had (refused c.in-Err-assembled.refusal c.in-Ok.ensures.read (rw c.deref.ensures.value at c.in-Err-assembled.ensures.err)
    (rw c.in-Ok.ensures.same at c.refuse.ensures))

pub returns-in-Ok-write_image : goal.returns-in-Ok-write_image
returns-in-Ok-write_image g c =
    did c.in-Ok-assembled.image (record { bytes = c.in-Ok.text.items; read = c.in-Ok.ensures.read; is = rw c.deref.ensures.value at c.in-Ok-assembled.ensures.ok })
    (rw (c.in-Ok-write_image.ensures.file, c.sizes_of.ensures) at (rw (c.in-Ok.ensures.same, c.bytes.ensures.value, c.deref-in-Ok-write_image.ensures.value) at c.write.ensures))

pub returns : goal.returns
returns g c = not_had (short (rw c.in-Ok.ensures.same at c.no_memory.ensures))
