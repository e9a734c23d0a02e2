use Rattle.cli_clocked.proofs.Common.{◌≡◌, ◌∙◌, ap, refl, rules, CacheCounts, Counts, Registers, kept_of, report as report_of, CacheKept, SaysNothing}
use Rattle.cli_clocked.proofs.Common.{cache_line, kept_after, report_on}
use Rattle.cli_clocked.proofs.Caching.{cached, says_code}
use Rattle.cli_clocked.proofs.Watching.{can_run, cause_of, flushed_of}
use Rattle.cli_clocked.proofs.cache.cache_program.Goals as goal

pub run_watched-requires-clause-board : goal.run_watched-requires-clause-board
run_watched-requires-clause-board g c = can_run g.M.Clocked.state g.M.Clocked.meaning _ _ _ c.in-Ok-reset_board.ensures.reset

pub returns : goal.returns
returns g c =
    let l = c.args.prepared.micro.loaded in
    let last = c.run_watched.new.board in
    let end = c.in-Ok-run_watched.end in
    let watched = c.in-Ok-run_watched.ensures.watched in
    let watcher = c.run_watched.new.watcher in
    let kept : CacheKept = record { accesses = watcher.accesses.items; words = watcher.cache.bus.words; tally = watcher.cache.tally } in
    let printed : c.bytes.result.now ≡ report_on g.M.Clocked.state g.M.Clocked.meaning end last =
    c.bytes.ensures.value ∙ c.clocked_report-report.ensures
    ∙ (ap (λ (k : Counts). report_of end k c.registers.result) c.counts.ensures ∙ ap (λ (r : Registers). report_of end last.counts r) c.registers.ensures.value) in
    let line : c.bytes-in-Ok-run_watched.result.now ≡ cache_line c.args.lines kept.tally.counts =
    c.bytes-in-Ok-run_watched.ensures.value ∙ c.cache_line-line.ensures ∙ ap (λ (n : CacheCounts). cache_line c.args.lines n) c.counts-in-Ok-run_watched.ensures in
    let put = rw printed at c.put-said.ensures.puts in
    record {
      names = search rules;
      does =
          rw (← c.outside.view_is)
          (cached g.M.Clocked.state g.M.Clocked.meaning c.args.lines c.args.bound c.args.prepared.micro.program c.args.prepared.program l last watched.cycles end _ _
          (record {
            first = c.in-Ok-reset_board.board;
            begins = record { loaded = c.args.prepared.micro.is_loaded; store = c.in-Ok-reset_board.ensures.store; reset = c.in-Ok-reset_board.ensures.reset };
            shows = watched.run;
            ends = c.in-Ok-run_watched.ensures.end;
            kept = c.in-Ok-run_watched.ensures.kept;
            left = record { files = refl; cause = cause_of c.in-Ok-run_watched.ensures.goes_on c.in-Ok-reset_board.ensures.reset.end; flushed = flushed_of c.in-Ok-run_watched.ensures.goes_on end refl };
          })
          c.requires.bound c.in-Ok-run_watched.ensures.growth c.a_cache_counts_the_run.ensures c.requires.lines.0
          (c.args.prepared.micro.is_loaded.machine ∙ c.requires.machine) kept
          c.in-Ok.watcher.cache.bus.words c.in-Ok.ensures.size
          (watched.saw.kept ∙ ap (λ (k : CacheKept). kept_of kept_after SaysNothing k watched.cycles) c.in-Ok.ensures.kept)
          c.bytes-in-Ok-run_watched.result.now line c.say_after.result.0
          (says_code c.status_of.ensures (c.say_after.ensures _ (report_on g.M.Clocked.state g.M.Clocked.meaning end last) put c.put-said.ensures.cause)));
    }
