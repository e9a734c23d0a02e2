use Rattle.mic1_interpreter.proofs.Store.{HasStatements, has_statements}
use Rattle.mic1_interpreter.proofs.Boundaries.{shows}
use Rattle.mic1_interpreter.proofs.Boot.{boots}
use Rattle.mic1_interpreter.proofs.Instructions.{takes}
use Rattle.mic1_interpreter.proofs.Ends.{ends}
use Rattle.mic1_interpreter.proofs.Output.{step_grows}
use Rattle.mic1_interpreter.proofs.interpreter.Mic1InterpreterInterpreter.law.Goals as goal

pub returns-clause-law : goal.returns-clause-law
returns-clause-law c = λ store o v shipped loads.
    let has : HasStatements store = has_statements store shipped in
    record { shows = shows store o; takes = takes store has o v loads; ends = ends store has o v loads }

pub returns-clause-boots : goal.returns-clause-boots
returns-clause-boots c = λ store o v input has loads. boots store (has_statements store has) o v loads input

pub returns-clause-grows : goal.returns-clause-grows
returns-clause-grows c = λ word s w. step_grows word s w
