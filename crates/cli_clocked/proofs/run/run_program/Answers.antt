use Rattle.cli_clocked.proofs.Common.{◌≡◌, ◌∙◌, ap, rules, Counts, End, Registers, report as report_of, report_on}
use Rattle.cli_clocked.specs.OwnRun.{Ran}
use Rattle.cli_clocked.proofs.Watching.{flushed_of}
use Rattle.cli_clocked.proofs.run.run_program.Goals as goal

pub returns : goal.returns
returns g c =
    let last = c.run-end.new.self in
    let end : End = c.run-end.result in
    let told = c.tell.ensures.does in
    let printed : c.bytes.result.now ≡ report_on g.M.Clocked.state g.M.Clocked.meaning end last =
    c.bytes.ensures.value ∙ c.clocked_report-line.ensures
    ∙ (ap (λ (k : Counts). report_of end k c.registers.result) c.counts.ensures ∙ ap (λ (r : Registers). report_of end last.counts r) c.registers.ensures.value) in
    record {
      names = search rules;
      does =
          rw (← c.outside.view_is)
          (Ran c.args.prepared.micro.loaded c.in-Ok.board last end
          (record { loaded = c.args.prepared.micro.is_loaded; store = c.in-Ok.ensures.store; reset = c.in-Ok.ensures.reset })
          c.run-end.ensures.end (c.run-end.ensures.kept c.in-Ok.ensures.reset.end) (rw (told.console, told.out) c.run-end.ensures.run) (rw (told.console, told.out) c.run-end.ensures.read) (rw (told.console, told.out) c.run-end.ensures.write)
          (record {
            files = told.files;
            cause = rw (told.console, told.out) (rw (c.in-Ok.ensures.reset.end, c.run-end.ensures.end) at c.run-end.ensures.goes_on.cause);
            flushed = λ other. rw told.out (flushed_of c.run-end.ensures.goes_on end c.run-end.ensures.end other);
          })
          (rw (printed, c.status_of.ensures) at told.says));
    }
