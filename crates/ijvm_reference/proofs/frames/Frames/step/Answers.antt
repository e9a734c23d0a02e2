use Rattle.std.proofs.Common.{[], sym, subst}
use Rattle.ijvm_meaning.specs.Prelude.{NeverStuck}
use Rattle.ijvm_reference.specs.Prelude.{MachineView, state_of}
use Rattle.ijvm_reference.proofs.SafeLemmas.{never_after, never_none, some_of}
use Rattle.ijvm_reference.proofs.frames.Frames.step.Goals as goal

pub unwrap-requires : goal.unwrap-requires
unwrap-requires g c =
    some_of c.in_ok-turn.field-0
    (λ none. never_none (g.S.Source.left c.args.source.now) (g.K.Sink.held c.args.sink.now) c.args.console.now
    (g.S.Source.left c.turn.new.source) (g.K.Sink.held c.turn.new.sink) c.turn.new.console c.self.inside.machine c.turn.new.machine
    c.self.invariant (rw none at c.in_ok-turn.ensures.ok))

pub invariant_of-self : goal.invariant_of-self
invariant_of-self g c =
    subst (λ (m : MachineView). NeverStuck m.image m.stack_end (state_of m [] [])) (sym c.in_err-turn.ensures.err.frames) c.self.invariant

pub invariant_of-self-2 : goal.invariant_of-self-2
invariant_of-self-2 g c =
    never_after (g.S.Source.left c.args.source.now) (g.K.Sink.held c.args.sink.now) c.args.console.now
    (g.S.Source.left c.turn.new.source) (g.K.Sink.held c.turn.new.sink) c.turn.new.console c.unwrap.result c.self.inside.machine c.turn.new.machine
    c.self.invariant (rw c.unwrap.ensures at c.in_ok-turn.ensures.ok) c.turn.ensures.program

pub returns-clause-ok : goal.returns-clause-ok
returns-clause-ok g c = rw (← c.self.view_is) (rw c.unwrap.ensures at c.in_ok-turn.ensures.ok)
