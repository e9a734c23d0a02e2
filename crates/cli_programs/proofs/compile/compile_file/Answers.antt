use Rattle.cli_outside.specs.Prelude.{did, not_had, short}
use Rattle.cli_programs.proofs.compile.compile_file.Goals as goal

pub returns-in-Err : goal.returns-in-Err
returns-in-Err g c = not_had c.in-Err.ensures.not_had

pub returns-in-Ok-write_image : goal.returns-in-Ok-write_image
returns-in-Ok-write_image g c =
    did c.in-Ok.program c.in-Ok.ensures.had
    (rw (c.in-Ok-write_image.ensures.file, c.sizes_of.ensures, c.image-image.ensures.is) at
    (rw (c.in-Ok.ensures.same, c.bytes.ensures.value, c.deref.ensures.value) at c.write.ensures))

pub returns : goal.returns
returns g c = not_had (short (rw c.in-Ok.ensures.same at c.no_memory.ensures))
