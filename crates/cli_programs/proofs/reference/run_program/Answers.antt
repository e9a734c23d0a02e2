use Rattle.cli_programs.proofs.Common.{rules, Reported, Short}
use Rattle.cli_programs.proofs.Running.{reported}
use Rattle.cli_programs.proofs.reference.run_program.Goals as goal

pub returns-in-Ok : goal.returns-in-Ok
returns-in-Ok g c =
    let told = c.tell.ensures.does in
    record {
      names = search rules;
      does =
          rw (← c.outside.view_is)
          (Reported c.in-Ok.run'
          (reported c.args.machine c.args.bound c.args.program.now _ _ c.in-Ok.run' (record {
            report = rw (told.console, told.out) (rw (c.main_locals-locals.ensures.is, c.image-image.ensures.is, c.map-map.ensures.is) at c.in-Ok.ensures.report);
            flushed = λ unwritten. rw told.out (c.in-Ok.ensures.sink.flushed (λ e. unwritten (cc)));
            cause = rw (told.console, told.out) c.in-Ok.ensures.cause;
          }))
          told.files
          (rw (c.bytes.ensures.value, c.plain_report.ensures, c.status_of.ensures, c.clocked_end.ensures) at told.says));
    }

pub returns-in-Err : goal.returns-in-Err
returns-in-Err g c =
    let told = c.no_memory.ensures.does in
    record {
      names = search rules;
      does =
          rw (← c.outside.view_is)
          (Short (rw (told.console, told.out) (rw (c.main_locals-locals.ensures.is, c.image-image.ensures.is, c.map-map.ensures.is) at c.in-Err.ensures.short))
          (rw told.console (c.in-Err.ensures.cause.source_same (λ e. cc))) (rw told.out (c.in-Err.ensures.cause.sink_same (λ e. cc))) (rw told.out (c.in-Err.ensures.sink.flushed (λ e. cc))) told.files told.says);
    }
