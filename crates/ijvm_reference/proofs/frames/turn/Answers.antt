use Rattle.ijvm_reference.proofs.Common.{Some, sym, ap, ◌∙◌, err_from_is_err_and, Instr, In, Out}
use Rattle.ijvm_reference.proofs.Turned.{failed_at, turned}
use Rattle.ijvm_reference.proofs.frames.turn.Goals as goal

pub returns-in_ok-write_out-in-Out-clause-ok : goal.returns-in_ok-write_out-in-Out-clause-ok
returns-in_ok-write_out-in-Out-clause-ok g c =
    let found = sym c.next.ensures.is ∙ c.in-Some.is ∙ ap (λ (i : Instr). Some i) c.in-Out.is in
    rw c.step_end-in-Out.ensures (
    turned Out c.in_ok-write_out-in-Out.field-0 (g.S.Source.left c.args.source.now) (g.K.Sink.held c.args.sink.now) c.args.console.now
    (g.S.Source.left c.args.source.now) (g.K.Sink.held c.write_out.new.sink) c.write_out.new.console
    c.args.machine.now c.write_out.new.machine found (c.in_ok-write_out-in-Out.ensures.ok (g.S.Source.left c.args.source.now)))

pub returns-in_err-write_out-in-Out-clause-err : goal.returns-in_err-write_out-in-Out-clause-err
returns-in_err-write_out-in-Out-clause-err g c =
    let found = sym c.next.ensures.is ∙ c.in-Some.is ∙ ap (λ (i : Instr). Some i) c.in-Out.is in
    let p = err_from_is_err_and c.from_residual-in_err-write_out-in-Out.result c.from_residual-in_err-write_out-in-Out.ensures.1 in
    rw (p.1, p.2) (failed_at _ _ _ _ _ _ _ _ _ _ _ found (c.in_err-write_out-in-Out.ensures.err (g.S.Source.left c.args.source.now)))

pub returns-in_err-read_in-in-In-clause-err : goal.returns-in_err-read_in-in-In-clause-err
returns-in_err-read_in-in-In-clause-err g c =
    let found = sym c.next.ensures.is ∙ c.in-Some.is ∙ ap (λ (i : Instr). Some i) c.in-In.is in
    let p = err_from_is_err_and c.from_residual.result c.from_residual.ensures.1 in
    rw (p.1, p.2) (failed_at _ _ _ _ _ _ _ _ _ _ _ found c.in_err-read_in-in-In.ensures.err)

pub returns-in_ok-read_in-in-In-clause-ok : goal.returns-in_ok-read_in-in-In-clause-ok
returns-in_ok-read_in-in-In-clause-ok g c =
    let found = sym c.next.ensures.is ∙ c.in-Some.is ∙ ap (λ (i : Instr). Some i) c.in-In.is in
    rw c.step_end.ensures (
    turned In c.in_ok-read_in-in-In.field-0 (g.S.Source.left c.args.source.now) (g.K.Sink.held c.args.sink.now) c.args.console.now
    (g.S.Source.left c.read_in.new.source) (g.K.Sink.held c.read_in.new.sink) c.read_in.new.console
    c.args.machine.now c.read_in.new.machine found c.in_ok-read_in-in-In.ensures.ok)
