use Rattle.verifier_notes.proofs.Accepted.{accepted}
use Rattle.verifier_notes.proofs.laws.noted_images_are_accepted.Goals as goal

pub returns : goal.returns
returns c image note end noted map = accepted image note noted c.instructions_are_whole.ensures end map
