use Rattle.mic3_datapath.proofs.Common.{sym, ◌∙◌, statement_of, byte_at, operand_bytes}
use Rattle.mic_words.specs.declared.machine.Machine.TheVariants as machines
use Rattle.mic3_datapath.proofs.Bits.{dispatch_takes, dispatched_last, last_there, not_dispatched}
use Rattle.mic3_datapath.proofs.pipeline.dispatched.Goals as goal

pub overflow_sub-control : goal.overflow_sub-control
overflow_sub-control c =
    let control = c.args.control.now in
    let s = statement_of machines.Mic2 control.word in
    dispatch_takes s.next (operand_bytes s.part) control.lines.takes (sym c.jam-dispatches.ensures.value ∙ c.if-dispatches.true) control.demands

pub byte_at-requires : goal.byte_at-requires
byte_at-requires c =
    let control = c.args.control.now in
    let s = statement_of machines.Mic2 control.word in
    let some = dispatch_takes s.next (operand_bytes s.part) control.lines.takes (sym c.jam-dispatches.ensures.value ∙ c.if-dispatches.true) control.demands in
    last_there _ _ _ control.demands c.requires some

pub returns-then-dispatches : goal.returns-then-dispatches
returns-then-dispatches c =
    let control = c.args.control.now in
    let s = statement_of machines.Mic2 control.word in
    dispatched_last s.next (operand_bytes s.part) control.lines.takes c.byte_at.result (byte_at c.args.unit.now)
    (sym c.jam-dispatches.ensures.value ∙ c.if-dispatches.true) control.demands c.byte_at.ensures

pub returns-else-dispatches : goal.returns-else-dispatches
returns-else-dispatches c =
    let control = c.args.control.now in
    let s = statement_of machines.Mic2 control.word in
    not_dispatched s.next (byte_at c.args.unit.now (operand_bytes s.part)) (λ e. c.if-dispatches.false (c.jam-dispatches.ensures.value ∙ e))
