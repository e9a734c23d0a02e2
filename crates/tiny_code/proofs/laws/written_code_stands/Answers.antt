use Rattle.tiny_code.proofs.Written.{stands}
use Rattle.tiny_code.proofs.laws.written_code_stands.Goals as goal

pub returns : goal.returns
returns c code before after real small = stands c.read_instructions_are_whole.ensures.written code before after real small
