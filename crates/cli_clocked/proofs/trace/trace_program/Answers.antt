use Rattle.std.proofs.Common.{refl, rules}
use Rattle.cli_clocked.specs.Traced.{Stopped, Whole}
use Rattle.cli_clocked.proofs.Watching.{can_run, cause_of, flushed_of}
use Rattle.cli_clocked.proofs.trace.trace_program.Goals as goal

pub run_watched-requires-clause-board : goal.run_watched-requires-clause-board
run_watched-requires-clause-board g c = can_run g.M.Clocked.state g.M.Clocked.meaning _ _ _ c.in-Ok.ensures.reset

pub returns-in-Ok-run_watched : goal.returns-in-Ok-run_watched
returns-in-Ok-run_watched g c =
    let watched = c.in-Ok-run_watched.ensures.watched in
    let said = c.in-Ok-run_watched.ensures.said in
    record {
      names = search rules;
      does =
          rw (← c.outside.view_is)
          (Whole c.args.prepared.micro.loaded c.run_watched.new.board watched.cycles c.in-Ok-run_watched.end watched.saw.text
          (record {
            first = c.in-Ok.board;
            begins = record { loaded = c.args.prepared.micro.is_loaded; store = c.in-Ok.ensures.store; reset = c.in-Ok.ensures.reset };
            shows = watched.run;
            ends = c.in-Ok-run_watched.ensures.end;
            kept = c.in-Ok-run_watched.ensures.kept;
            left = record { files = refl; cause = cause_of c.in-Ok-run_watched.ensures.goes_on c.in-Ok.ensures.reset.end; flushed = flushed_of c.in-Ok-run_watched.ensures.goes_on c.in-Ok-run_watched.end refl };
          })
          watched.saw.says
          (c.report_after.ensures _ watched.saw.text watched.saw.said (record { later = said.later; failed = tt; quiet = said.quiet })));
    }

pub returns : goal.returns
returns g c =
    let watched = c.in-Err-run_watched.ensures.watched in
    record {
      names = search rules;
      does =
          rw (← c.outside.view_is)
          (Stopped c.args.prepared.micro.loaded c.run_watched.new.board watched.cycles watched.saw.text
          (record {
            first = c.in-Ok.board;
            begins = record { loaded = c.args.prepared.micro.is_loaded; store = c.in-Ok.ensures.store; reset = c.in-Ok.ensures.reset };
            shows = watched.run;
            ends = tt;
            kept = tt;
            left = record { files = refl; cause = cause_of c.in-Err-run_watched.ensures.goes_on c.in-Ok.ensures.reset.end; flushed = tt };
          })
          c.in-Err-run_watched.ensures.not_ended watched.saw.says watched.saw.said c.in-Err-run_watched.ensures.said.failed refl);
    }
