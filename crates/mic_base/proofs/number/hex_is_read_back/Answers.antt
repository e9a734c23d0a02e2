use Rattle.mic_base.proofs.NumberLemmas.{number_of-hex_text}
use Rattle.mic_base.proofs.number.hex_is_read_back.Goals as goal

pub returns : goal.returns
returns c = number_of-hex_text
