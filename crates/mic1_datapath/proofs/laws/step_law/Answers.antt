use Rattle.mic1_datapath.proofs.Common.{ap, Placed, step_of_word, microstep}
use Rattle.mic1_datapath.proofs.laws.step_law.Goals as goal

pub returns : goal.returns
unfolding step_of_word
returns c = λ s h m w. ap (λ (p : Placed). microstep p m w) (c.statement_law.ensures.statement s h)
