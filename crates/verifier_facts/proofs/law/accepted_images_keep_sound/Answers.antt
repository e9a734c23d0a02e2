use Rattle.verifier_facts.proofs.Sounds.{keeps_sound}
use Rattle.verifier_facts.proofs.law.accepted_images_keep_sound.Goals as goal

pub returns : goal.returns
returns c = keeps_sound
