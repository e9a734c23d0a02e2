use Rattle.mic_debugger.proofs.Common.{◌≡◌, ℕ, List, Option, Result, refl, sym, ◌∙◌, ap, subst, BoardView, ShowsAs, CommandError, Plan, Verb, on_err_of}
use Rattle.cli_session.specs.declared.reading.Command.{Command}
use Rattle.mic_debugger.specs.Prelude.{command_of, IsCarriedOut, IsPlanBroken, plan_in, Streams, streams, breaks_after, plan_of, watched_after, SessionView}
use Rattle.mic_debugger.proofs.Breaking.{flush_broken, plan_broken, stands_flushed}
use Rattle.mic_debugger.proofs.Carrying.{failed_after, through_flushed}
use Rattle.mic_debugger.proofs.session.Session.command.Given.{Over}
use Rattle.mic_debugger.proofs.session.Session.command.Goals as goal

abbrev between : (g : Over) → g.row.S.Denot → g.row.K.Denot → g.row.E.Denot → Streams
between g input out err =
    streams g.S.Source.left g.S.Source.faults input g.K.Sink.held g.K.Sink.passed g.K.Sink.faults out g.E.Sink.held g.E.Sink.passed g.E.Sink.faults err

-- a plan by what was read is that of the line
planned : {M : Type 0} (v : SessionView M) (line : List ℕ) {read : Result (Option (Command Verb)) CommandError} {plan : Plan} →
    read ≡ command_of v.listing.memory line → plan ≡ plan_of v.board.end v.breaks v.watched v.board.bus.words read → plan ≡ plan_in v line
planned v line read_is is = is ∙ ap (λ (x : Result (Option (Command Verb)) CommandError). plan_of v.board.end v.breaks v.watched v.board.bus.words x) read_is

pub returns-clause-obeys : goal.returns-clause-obeys
returns-clause-obeys g c =
    let state = g.M.Clocked.state in
    let m = g.M.Clocked.meaning in
    let v = c.args.self.now in
    let line = c.args.line.now in
    let at = between g c.args.input.now c.args.out.now c.args.err.now in
    let mid = between g c.carry_out.new.input c.carry_out.new.out c.carry_out.new.err in
    let at' = between g c.carry_out.new.input c.flush.new.out c.flush.new.err in
    let board = c.carry_out.new.self.board in
    let plan_is = planned v c.args.line.now c.read-read.ensures c.plan-plan.ensures in
    let done = subst (λ (p : Plan). IsCarriedOut state m v board at mid p) plan_is c.in_ok-carry_out.ensures.done in
    let same = c.in_ok-carry_out.ensures.same in
    let flushed = c.in_ok-flush.ensures in
    let board_is : c.note.new.self.board ≡ c.flush.new.self.board = ap (λ (s : SessionView g.row.M.Denot). s.board) c.note.ensures.same in
    let breaks_stay : c.flush.new.self.breaks ≡ v.breaks =
    ap (λ (s : SessionView g.row.M.Denot). s.breaks) flushed.same ∙ ap (λ (s : SessionView g.row.M.Denot). s.breaks) same in
    let watched_stays : c.flush.new.self.watched ≡ v.watched =
    ap (λ (s : SessionView g.row.M.Denot). s.watched) flushed.same ∙ ap (λ (s : SessionView g.row.M.Denot). s.watched) same in
    let breaks = c.note.ensures.breaks ∙ (λ i. breaks_after (breaks_stay i) (c.read-read.ensures i)) in
    let watched = c.note.ensures.watched ∙ (λ i. watched_after (watched_stays i) (c.read-read.ensures i)) in
    let kept = ap (λ (b : BoardView g.row.M.Denot). b.bus.console.kept) board_is ∙ flushed.kept in
    record {
      through = through_flushed state m line v c.note.new.self board at mid at'.out at'.err
          (ap (λ (b : BoardView g.row.M.Denot). b.bus.console.ended) board_is ∙ flushed.others.1)
          (subst (λ (b : BoardView g.row.M.Denot). ShowsAs state mid.out.held board at'.out.held b (λ r. r)) (sym board_is) flushed.shows)
          breaks watched kept
          (ap (λ (b : BoardView g.row.M.Denot). state b.machine) board_is ∙ ap (λ (s : SessionView g.row.M.Denot). state s.board.machine) flushed.same)
          (ap (λ (b : BoardView g.row.M.Denot). b.counts) board_is ∙ ap (λ (s : SessionView g.row.M.Denot). s.board.counts) flushed.same)
          (ap (λ (b : BoardView g.row.M.Denot). b.end) board_is ∙ ap (λ (s : SessionView g.row.M.Denot). s.board.end) flushed.same)
          flushed.held
          (record {
            flushed = λ h. flushed.out.flushed (λ e. cc) (done.sinks.flushed h);
            out = flushed.cause.quiet.0 ∙ done.sinks.out;
            err = flushed.cause.quiet.1 ∙ done.sinks.err;
          })
          done;
      breaks = breaks;
      watched = watched;
      kept = kept;
      passed = flushed.passed;
    }

pub returns-in_err-carry_out-clause-broken : goal.returns-in_err-carry_out-clause-broken
returns-in_err-carry_out-clause-broken g c =
    let state = g.M.Clocked.state in
    let m = g.M.Clocked.meaning in
    let v = c.args.self.now in
    let at = between g c.args.input.now c.args.out.now c.args.err.now in
    let mid = between g c.carry_out.new.input c.carry_out.new.out c.carry_out.new.err in
    let board = c.carry_out.new.self.board in
    let plan_is = planned v c.args.line.now c.read-read.ensures c.plan-plan.ensures in
    let same = c.in_err-carry_out.ensures.same in
    on_err_of _ c.from_residual.result
    (record {
      broken = plan_broken state m c.args.line.now v at mid board
          (subst (λ (p : Plan). IsPlanBroken state m v board at mid p) plan_is c.in_err-carry_out.ensures.broken);
      breaks = ap (λ (s : SessionView g.row.M.Denot). s.breaks) same;
      watched = ap (λ (s : SessionView g.row.M.Denot). s.watched) same;
    })

pub returns-in_err-flush-clause-broken : goal.returns-in_err-flush-clause-broken
returns-in_err-flush-clause-broken g c =
    let state = g.M.Clocked.state in
    let m = g.M.Clocked.meaning in
    let v = c.args.self.now in
    let at = between g c.args.input.now c.args.out.now c.args.err.now in
    let mid = between g c.carry_out.new.input c.carry_out.new.out c.carry_out.new.err in
    let at' = between g c.carry_out.new.input c.flush.new.out c.flush.new.err in
    let board = c.carry_out.new.self.board in
    let board' = c.flush.new.self.board in
    let plan_is = planned v c.args.line.now c.read-read.ensures c.plan-plan.ensures in
    let done = subst (λ (p : Plan). IsCarriedOut state m v board at mid p) plan_is c.in_ok-carry_out.ensures.done in
    let same = c.in_ok-carry_out.ensures.same in
    let flushed = c.in_err-flush.ensures in
    let end_is : board'.end ≡ board.end = ap (λ (s : SessionView g.row.M.Denot). s.board.end) flushed.same in
    on_err_of _ c.from_residual-in_err-flush.result
    (record {
      broken = flush_broken state m c.args.line.now v at at' board' board mid done refl flushed.held flushed.others.1 end_is
          (stands_flushed state mid.input.left mid.out.held board board' (ap (λ (s : SessionView g.row.M.Denot). state s.board.machine) flushed.same) flushed.others.0
          (ap (λ (s : SessionView g.row.M.Denot). s.board.counts) flushed.same) end_is)
          (λ r here. flushed.front mid.input.left r here)
          (failed_after at.out.faults mid.out.faults at'.out.faults at.err.faults mid.err.faults at'.err.faults done.sinks.out done.sinks.err flushed.cause.rose);
      breaks = ap (λ (s : SessionView g.row.M.Denot). s.breaks) flushed.same ∙ ap (λ (s : SessionView g.row.M.Denot). s.breaks) same;
      watched = ap (λ (s : SessionView g.row.M.Denot). s.watched) flushed.same ∙ ap (λ (s : SessionView g.row.M.Denot). s.watched) same;
    })
