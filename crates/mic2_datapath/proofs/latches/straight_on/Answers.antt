use Rattle.std.proofs.Common.{◌∙◌}
use Rattle.mic2_datapath.proofs.Demands.{not_dispatched}
use Rattle.mic2_datapath.proofs.latches.straight_on.Goals as goal

pub returns-clause-mpc : goal.returns-clause-mpc
returns-clause-mpc c = λ byte n is addr jam.
    c.next_address-mpc.ensures.next n is addr jam ∙ not_dispatched n c.args.value 0 byte (λ e. c.requires.jam (jam ∙ e))
