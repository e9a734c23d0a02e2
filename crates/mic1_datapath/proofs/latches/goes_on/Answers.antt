use Rattle.std.proofs.Common.{sym, ◌∙◌}
use Rattle.mic1_datapath.proofs.latches.goes_on.Goals as goal

pub returns-then-plain-clause-next : goal.returns-then-plain-clause-next
returns-then-plain-clause-next c = λ n valid addr jam. c.next_address.ensures.next n valid addr (sym c.if-plain.true ∙ jam)
