use Rattle.tiny_code.proofs.Methods.{complete, sound}
use Rattle.tiny_code.proofs.laws.methods_are_the_others.Goals as goal

pub returns : goal.returns
returns c = record { complete = λ program f g other. complete program f g other.0 other.1; sound = sound }
