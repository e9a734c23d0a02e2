use Rattle.ijvm_soak.specs.Prelude.{generated}
use Rattle.ijvm_soak.proofs.Notes.{items_of, listed}
use Rattle.ijvm_soak.proofs.laws.generated_images_are_accepted.Goals as goal

pub returns : goal.returns
returns c seed size end short map =
    c.listed_images_are_accepted.ensures (generated seed size) (items_of seed size) end (listed seed size short c.read_instructions_are_whole.ensures.written) map
