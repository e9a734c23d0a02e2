use Rattle.ijvm_reference.proofs.Common.{rules, Some, refl, Out}
use Rattle.ijvm_reference.specs.Prelude.{IsCutOff, StepFails}
use Rattle.ijvm_reference.proofs.port.write_out.Goals as goal

pub returns-in_err-give_byte-clause-err : goal.returns-in_err-give_byte-clause-err
returns-in_err-give_byte-clause-err g c = λ left.
    let cut : IsCutOff left (g.K.Sink.held c.args.sink.now) c.args.console.now left (g.K.Sink.held c.give_byte.new.sink) c.give_byte.new.console c.in_err-give_byte.field-0.0 = c.in_err-give_byte.ensures.err left in
    let fails : StepFails (Some Out) left (g.K.Sink.held c.args.sink.now) c.args.console.now left (g.K.Sink.held c.give_byte.new.sink) c.give_byte.new.console c.args.machine.now c.args.machine.now c.in_err-give_byte.field-0.0 =
    record { met = c.in_err-give_byte.ensures.met; frames = refl; cut = cut } in
    search rules
