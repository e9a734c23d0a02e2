use Rattle.cli_clocked.proofs.Common.{◌≡◌, ◌∙◌, Option, ap, refl, rules, unwrap_or, End, Profile, profile_of_cycles, profile_text, start_profile, Silent}
use Rattle.cli_clocked.proofs.Common.{profile_after, kept_of, Stopped, Whole}
use Rattle.cli_clocked.proofs.Micros.{nothing_put, nothing_put_of, silent_says}
use Rattle.cli_clocked.proofs.Watching.{can_run, cause_of, flushed_of}
use Rattle.cli_clocked.proofs.profile.profile_program.Goals as goal

pub run_watched-requires-clause-board : goal.run_watched-requires-clause-board
run_watched-requires-clause-board g c = can_run g.M.Clocked.state g.M.Clocked.meaning _ _ _ c.in-Ok-reset_board.ensures.reset

pub returns-in-Ok-run_watched : goal.returns-in-Ok-run_watched
returns-in-Ok-run_watched g c =
    let last = c.run_watched.new.board in
    let end = c.in-Ok-run_watched.end in
    let watched = c.in-Ok-run_watched.ensures.watched in
    let said = c.in-Ok-run_watched.ensures.said in
    let rows = c.in-Ok.rows.items in
    let begun : record { rows = c.new-profiler.result.rows.now; boot = c.new-profiler.result.boot; last = c.new-profiler.result.last; tallies = c.new-profiler.result.tallies } ≡ start_profile rows =
    λ i. record { rows = (c.new-profiler.ensures.rows ∙ c.deref.ensures.value) i; boot = c.new-profiler.ensures.boot i; last = c.new-profiler.ensures.last i; tallies = c.new-profiler.ensures.tallies i } in
    let counted_all = watched.saw.kept ∙ ap (λ (p : Profile). kept_of profile_after Silent p watched.cycles) begun in
    let held = nothing_put _ _ watched.saw.text (silent_says _ watched.cycles watched.saw.text watched.saw.says) watched.saw.said in
    let profiler = c.run_watched.new.watcher in
    let now : Profile = record { rows = profiler.rows.now; boot = profiler.boot; last = profiler.last; tallies = profiler.tallies } in
    let stood : c.unwrap_or-stood.result ≡ unwrap_or last.end end = c.unwrap_or-stood.ensures ∙ ap (λ (e : Option End). unwrap_or e end) c.ended.ensures in
    let text : profile_text now c.unwrap_or-stood.result c.counts.result ≡ profile_text (profile_of_cycles rows watched.cycles) (unwrap_or last.end end) last.counts =
    λ i. profile_text (counted_all i) (stood i) (c.counts.ensures i) in
    let put = rw (text, held) at c.put_profile-said.ensures.puts in
    let cause = rw said.quiet at c.put_profile-said.ensures.cause in
    record {
      names = search rules;
      does =
          rw (← c.outside.view_is)
          (Whole c.args.prepared.micro.loaded last watched.cycles end rows
          (record {
            first = c.in-Ok-reset_board.board;
            begins = record { loaded = c.args.prepared.micro.is_loaded; store = c.in-Ok-reset_board.ensures.store; reset = c.in-Ok-reset_board.ensures.reset };
            shows = watched.run;
            ends = c.in-Ok-run_watched.ensures.end;
            kept = c.in-Ok-run_watched.ensures.kept;
            left = record { files = refl; cause = cause_of c.in-Ok-run_watched.ensures.goes_on c.in-Ok-reset_board.ensures.reset.end; flushed = flushed_of c.in-Ok-run_watched.ensures.goes_on end refl };
          })
          c.in-Ok.ensures (c.report_after.ensures _ (profile_text (profile_of_cycles rows watched.cycles) (unwrap_or last.end end) last.counts) put cause));
    }

pub returns : goal.returns
returns g c =
    let watched = c.in-Err-run_watched.ensures.watched in
    let held = nothing_put_of _ _ watched.saw.text (silent_says _ watched.cycles watched.saw.text watched.saw.says) watched.saw.said in
    record {
      names = search rules;
      does =
          rw (← c.outside.view_is)
          (Stopped c.args.prepared.micro.loaded c.run_watched.new.board watched.cycles
          (record {
            first = c.in-Ok-reset_board.board;
            begins = record { loaded = c.args.prepared.micro.is_loaded; store = c.in-Ok-reset_board.ensures.store; reset = c.in-Ok-reset_board.ensures.reset };
            shows = watched.run;
            ends = tt;
            kept = tt;
            left = record { files = refl; cause = cause_of c.in-Err-run_watched.ensures.goes_on c.in-Ok-reset_board.ensures.reset.end; flushed = tt };
          })
          c.in-Err-run_watched.ensures.not_ended held c.in-Err-run_watched.ensures.said.failed refl);
    }
