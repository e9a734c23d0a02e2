use Rattle.mic2_interpreter.proofs.Store.{known}
use Rattle.mic2_interpreter.proofs.Boundaries.{shows}
use Rattle.mic2_interpreter.proofs.Boot.{boots_off}
use Rattle.mic2_interpreter.proofs.Ends.{ends}
use Rattle.mic2_interpreter.proofs.Output.{step_grows}
use Rattle.mic2_interpreter.proofs.interpreter.Mic2InterpreterInterpreter.law.Goals as goal

pub returns-clause-law : goal.returns-clause-law
returns-clause-law c = λ store o v has loads. record {
  shows = shows store o;
  takes = record {
    goes = λ s to q i any fine n h went. ((c.stalls_law.ensures.takes store o v has loads).goes s to q i any fine n h went).moves;
    limits = λ s left q i any fine n h over. ((c.stalls_law.ensures.takes store o v has loads).limits s left q i any fine n h over).overruns;
  };
  ends = ends store o v;
}

pub returns-clause-boots : goal.returns-clause-boots
returns-clause-boots c = λ store o v input has loads. boots_off store (known store has c.queue_law.ensures) o v loads input

pub returns-clause-grows : goal.returns-clause-grows
returns-clause-grows c = λ word s w. step_grows word s w
