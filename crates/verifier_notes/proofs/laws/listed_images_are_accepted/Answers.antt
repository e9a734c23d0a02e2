use Rattle.verifier_notes.specs.Prelude.{note_at}
use Rattle.verifier_notes.proofs.Listed.{noted}
use Rattle.verifier_notes.proofs.laws.listed_images_are_accepted.Goals as goal

pub returns : goal.returns
returns c image items end listed map = c.noted_images_are_accepted.ensures image (note_at items) end (noted image items listed) map
