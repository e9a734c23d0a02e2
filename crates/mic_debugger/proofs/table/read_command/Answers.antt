use Rattle.std.proofs.Common.{◌∙◌, refl}
use Rattle.mic_debugger.proofs.table.read_command.Goals as goal

pub returns : goal.returns
returns c = c.read_command.ensures ∙ refl
