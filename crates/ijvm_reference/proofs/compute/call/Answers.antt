use Rattle.ijvm_reference.proofs.Common.{true, false, sym, ap, ◌∙◌, arith}
use Rattle.ijvm_meaning.specs.Prelude.{Goes}
use Rattle.ijvm_reference.specs.Prelude.{MachineView, state_of}
use Rattle.ijvm_reference.proofs.Calls.{called_by}
use Rattle.ijvm_reference.proofs.compute.call.Goals as goal

pub returns-then-not-has_room-clause-ok : goal.returns-then-not-has_room-clause-ok
returns-then-not-has_room-clause-ok c = λ untaken given.
    called_by c.args.machine.now c.in-Some.method _ c.from.result false untaken given c.in-Some.ensures.is (omega arith) (omega arith)
    c.from.ensures c.if-not-has_room.ensures

pub returns-clause-ok : goal.returns-clause-ok
returns-clause-ok c = λ untaken given.
    called_by c.args.machine.now c.in-Some.method _ c.from.result true untaken given c.in-Some.ensures.is (omega arith) (omega arith)
    c.from.ensures c.if-not-has_room.ensures
    ∙ ap (λ (n : MachineView). Goes (state_of n untaken given)) (sym c.in_ok-call.ensures.ok)
