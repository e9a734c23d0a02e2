use Rattle.mic2_interpreter.proofs.Store.{known}
use Rattle.mic2_interpreter.proofs.Boot.{boots}
use Rattle.mic2_interpreter.proofs.Instructions.{takes}
use Rattle.mic2_interpreter.proofs.laws.stalls_law.Goals as goal

pub returns-clause-boots : goal.returns-clause-boots
returns-clause-boots c = λ store o v input has loads. boots store (known store has c.queue_law.ensures) o v loads input

pub returns-clause-takes : goal.returns-clause-takes
returns-clause-takes c = λ store o v has loads. takes store (known store has c.queue_law.ensures) o v loads
