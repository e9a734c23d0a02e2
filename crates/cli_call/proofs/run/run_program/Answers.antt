use Rattle.cli_call.proofs.Common.{◌≡◌, ◌∙◌, rules, sym, ap, Some, End, Counts, Registers, sink_of, source_of, report as report_of, report_on, NoRoom}
use Rattle.cli_call.proofs.Ending.{ends_by}
use Rattle.cli_call.proofs.run.run_program.Goals as goal

pub returns-in-Ok : goal.returns-in-Ok
returns-in-Ok g c =
    let told = c.tell.ensures.does in
    let end : End = c.unwrap-end.result in
    let ended : c.in-Ok.board.end ≡ Some end = sym c.ended.ensures ∙ c.unwrap-end.ensures in
    let printed : c.bytes.result.now ≡ report_on g.I.Machine.Clocked.state g.I.Machine.Clocked.meaning end c.in-Ok.board =
    c.bytes.ensures.value ∙ c.clocked_report-line.ensures
    ∙ (ap (λ (k : Counts). report_of end k c.registers.result) c.counts.ensures ∙ ap (λ (r : Registers). report_of end c.in-Ok.board.counts r) c.registers.ensures.value) in
    record {
      names = search rules;
      does =
          rw (← c.outside.view_is)
          (ends_by g.I.Machine.Clocked.state g.I.Machine.Clocked.meaning g.I.Machine.Clocked.IsReady g.I.Interpreter.IsShipped g.I.Interpreter.entry g.I.Interpreter.timing
          c.args.bound c.args.program.now _ _ c.in-Ok.board end c.tell.result.0
          (record {
            files = told.files;
            run = rw (told.console, told.out) c.in-Ok.ensures.run;
            read = rw (told.console, told.out) c.in-Ok.ensures.read;
            write = rw (told.console, told.out) c.in-Ok.ensures.write;
            flushed = rw told.out c.in-Ok.ensures.sink.flushed;
            cause = rw (told.console, told.out) c.in-Ok.ensures.cause;
          })
          ended (rw (printed, c.status_of.ensures) at told.says));
    }

pub returns-in-Err : goal.returns-in-Err
returns-in-Err g c =
    let told = c.no_memory.ensures.does in
    record {
      names = search rules;
      does =
          rw (← c.outside.view_is)
          (NoRoom (record {
            files = told.files;
            console = told.console ∙ ap (source_of g.S.Source.left g.S.Source.faults) c.in-Err.ensures.none.0;
            out = told.out ∙ ap (sink_of g.K.Sink.held g.K.Sink.passed g.K.Sink.faults) c.in-Err.ensures.none.1;
            says = told.says;
          }));
    }
