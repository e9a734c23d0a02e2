use Rattle.ijvm_reference.proofs.Common.{◌≡◌, ◌-◌, SinkGoesOn, SourceGoesOn}
use Rattle.ijvm_reference.proofs.Running.{IsRunning}
use Rattle.ijvm_reference.proofs.plain.drive.Given as goal

abbrev pub invariant-run : goal.invariant-run
invariant-run g l =
    IsRunning (g.S.Source.left l.initial.source) (g.K.Sink.held l.initial.sink) l.initial.console (g.S.Source.left l.source) (g.K.Sink.held l.sink) l.console
    l.bound l.machine l.initial.counts l.counts l.initial.frames l.frames
    × SourceGoesOn g.S.Source.left l.initial.console.ended l.initial.source l.console.ended l.source
    × SinkGoesOn g.K.Sink.held g.K.Sink.passed ⊥ l.initial.sink l.sink
    × (g.S.Source.faults l.source ≡ g.S.Source.faults l.initial.source)
    × (g.K.Sink.faults l.sink ≡ g.K.Sink.faults l.initial.sink)

abbrev pub decreases-run : goal.decreases-run
decreases-run g l = l.bound - l.counts.cycles
