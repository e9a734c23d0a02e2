use Rattle.mic2_datapath.proofs.Common.{sym, ◌∙◌, byte_at}
use Rattle.mic2_datapath.proofs.Demands.{dispatched_last, is_dispatch}
use Rattle.mic2_datapath.proofs.latches.Latches.goes_on.Goals as goal

pub returns-then-is_plain-clause-mpc : goal.returns-then-is_plain-clause-mpc
returns-then-is_plain-clause-mpc c = λ n operands is addr jam takes.
    c.straight_on.ensures.mpc (byte_at c.args.self.now.unit operands) n is addr (sym (c.is_plain.ensures c.if-is_plain.true) ∙ jam)

pub returns-then-is_plain-clause-begins : goal.returns-then-is_plain-clause-begins
returns-then-is_plain-clause-begins c = λ n jam addr. c.straight_on.ensures.begins n (sym (c.is_plain.ensures c.if-is_plain.true) ∙ jam) addr

pub returns-then-dispatches-clause-mpc : goal.returns-then-dispatches-clause-mpc
returns-then-dispatches-clause-mpc c = λ n operands is addr jam takes.
    let jmpc = is_dispatch n _ jam (c.dispatches.ensures.yes c.if-dispatches.true) in
    c.next_address-mpc.ensures.next n is addr (sym jmpc)
    ∙ dispatched_last n c.args.value _ c.args.takes operands (byte_at c.args.self.now.unit) jmpc takes c.byte_at-byte.ensures

pub returns-then-dispatches-clause-begins : goal.returns-then-dispatches-clause-begins
returns-then-dispatches-clause-begins c = λ n jam addr.
    c.is_first-begins.ensures n (sym (is_dispatch n _ jam (c.dispatches.ensures.yes c.if-dispatches.true))) addr

pub returns-clause-mpc : goal.returns-clause-mpc
returns-clause-mpc c = λ n operands is addr jam takes.
    c.straight_on-2.ensures.mpc (byte_at c.args.self.now.unit operands) n is addr (c.jam.ensures.value ∙ jam)

pub returns-clause-begins : goal.returns-clause-begins
returns-clause-begins c = λ n jam addr. c.straight_on-2.ensures.begins n (c.jam.ensures.value ∙ jam) addr
