use Rattle.std.proofs.Common.{None, refl}
use Rattle.ijvm_text.specs.Prelude.{empty_text}
use Rattle.ijvm_text.proofs.text.Text.new.Goals as goal

pub returns-clause-nothing : goal.returns-clause-nothing
returns-clause-nothing c = empty_text (record { bytes = c.new.result; far = None }) c.new.ensures.items refl
