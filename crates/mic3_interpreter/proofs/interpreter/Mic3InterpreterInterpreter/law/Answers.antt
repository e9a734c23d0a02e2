use Rattle.mic3_interpreter.proofs.Store.{Known, known}
use Rattle.mic3_interpreter.proofs.Boundaries.{shows}
use Rattle.mic3_interpreter.proofs.Boot.{boots}
use Rattle.mic3_interpreter.proofs.Instructions.{takes}
use Rattle.mic3_interpreter.proofs.Ends.{ends}
use Rattle.mic3_interpreter.proofs.Output.{step_grows}
use Rattle.mic3_interpreter.proofs.interpreter.Mic3InterpreterInterpreter.law.Goals as goal

pub returns-clause-law : goal.returns-clause-law
returns-clause-law c = λ store o v shipped loads.
    let has : Known store = known store shipped c.queue_law.ensures in
    record { shows = shows store o; takes = takes store has o v loads; ends = ends store o v }

pub returns-clause-boots : goal.returns-clause-boots
returns-clause-boots c = λ store o v input has loads. boots store (known store has c.queue_law.ensures) o v loads input

pub returns-clause-grows : goal.returns-clause-grows
returns-clause-grows c = λ word s w. step_grows word s w
