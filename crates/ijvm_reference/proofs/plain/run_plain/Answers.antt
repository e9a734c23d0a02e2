use Rattle.ijvm_reference.proofs.Common.{◌≡◌, ℕ, true, false, List, Some, Result, Ok, Err, OnErr, sym, ap, subst, ◌∙◌, inl, inr, refl, AllocError, Given}
use Rattle.ijvm_reference.proofs.Common.{PlainEnd, PlainReport}
use Rattle.ijvm_reference.specs.declared.plain.PlainEnd.TheVariants as ends
use Rattle.ijvm_reference.specs.Prelude.{program, told_of, IsReportOf}
use Rattle.ijvm_reference.proofs.Running.{sink_on}
use Rattle.ijvm_reference.proofs.Told.{Driven, driven, ran, unflushed, cut_by_read, cut_inside, short, short_first, holds_told}
use Rattle.ijvm_reference.proofs.plain.run_plain.Goals as goal
use Rattle.ijvm_reference.proofs.plain.run_plain.Goals.{in-Ok, in-Err}

on_err : (r : Result PlainReport AllocError) (P : Type 0) → P → OnErr r P
on_err (Ok x) P h = tt
on_err (Err e) P h = h

pub returns-in_err-frames-clause-short : goal.returns-in_err-frames-clause-short
returns-in_err-frames-clause-short g c =
    on_err c.from_residual.result _
    (short_first (g.S.Source.left c.args.source.now) (g.K.Sink.held c.args.sink.now) (program c.args.image.now c.args.map c.args.machine) c.args.main_locals c.args.bound)

pub returns-in_err-driven-clause-short : goal.returns-in_err-driven-clause-short
returns-in_err-driven-clause-short g c =
    let left = g.S.Source.left c.args.source.now in
    let held = g.K.Sink.held c.args.sink.now in
    let left' = g.S.Source.left c.drive.new.source in
    let held' = g.K.Sink.held c.drive.new.sink in
    let p = program c.args.image.now c.args.map c.args.machine in
    let error : AllocError = c.in_err-driven.field-0.0 in
    on_err c.from_residual-in_err-driven.result _
    (short p c.args.main_locals c.args.bound left held left' held' held' c.drive.new.console c.drive.new.counts c.drive.new.frames error
    (driven (Err error) left held left' held' c.new-console.result c.drive.new.console c.args.image.now c.args.map.stack_end c.args.main_locals
    c.args.bound c.args.machine
    (record { boundary = 2; cycles = 2; instructions = 0 }) c.drive.new.counts c.in_ok-frames.frames c.drive.new.frames
    c.new-console.ensures.kept c.new-console.ensures.ended refl refl c.in_ok-frames.ensures c.drive.ensures.source.tells_left c.in_err-driven.ensures.led)
    refl (c.in_err-driven.ensures.sink.keeps (told_of held) (holds_told held)))

pub returns-in_err-driven-clause-sink : goal.returns-in_err-driven-clause-sink
returns-in_err-driven-clause-sink g c =
    let sink = c.in_err-driven.ensures.sink in
    record { keeps = sink.keeps; tells = sink.tells; flushed = λ none. sink.flushed (λ e. cc) }

pub returns-clause-sink : goal.returns-clause-sink
returns-clause-sink g c =
    elim c.match-flush.branch [
      | in-Ok w ↦
          sink_on _ _ _ _ _ _ _ _
          (λ e. ap (λ (x : PlainEnd). Ok x) (c.report.ensures.end ∙ w.end-is ∙ (let is : c.in_ok-driven.driven ≡ ends.WriteFault = cc in is)))
          (λ e. absurd (let differ : Ok tt ≡ Err _ = e in cc)) c.in_ok-driven.ensures.sink w.in-Ok.ensures.sink
      | in-Err w ↦
          sink_on _ _ _ _ _ _ _ _ (λ e. ap (λ (x : PlainEnd). Ok x) (c.report.ensures.end ∙ w.end-is)) (λ e. ap (λ (x : PlainEnd). Ok x) (c.report.ensures.end ∙ w.end-is))
          c.in_ok-driven.ensures.sink w.in-Err.ensures.sink
    ]

pub returns-clause-report : goal.returns-clause-report
returns-clause-report g c =
    let left = g.S.Source.left c.args.source.now in
    let held = g.K.Sink.held c.args.sink.now in
    let left' = g.S.Source.left c.drive.new.source in
    let held1 = g.K.Sink.held c.drive.new.sink in
    let held' = g.K.Sink.held c.flush.new.sink in
    let p = program c.args.image.now c.args.map c.args.machine in
    let end : PlainEnd = c.in_ok-driven.driven in
    let r : PlainReport = c.report.result in
    let is : IsReportOf r c.drive.new.counts c.drive.new.frames = c.report.ensures.report in
    let d : Driven p c.args.main_locals c.args.bound left held left' (Ok end) held1 c.drive.new.console c.drive.new.counts c.drive.new.frames =
    driven (Ok end) left held left' held1 c.new-console.result c.drive.new.console c.args.image.now c.args.map.stack_end c.args.main_locals c.args.bound c.args.machine
    (record { boundary = 2; cycles = 2; instructions = 0 }) c.drive.new.counts c.in_ok-frames.frames c.drive.new.frames
    c.new-console.ensures.kept c.new-console.ensures.ended refl refl c.in_ok-frames.ensures c.drive.ensures.source.tells_left c.in_ok-driven.ensures.led in
    let front : List ℕ = told_of held in
    let console = c.drive.new.console in
    let counts = c.drive.new.counts in
    let frames = c.drive.new.frames in
    let locals : ℕ = c.args.main_locals in
    let holds = c.in_ok-driven.ensures.sink.keeps front (holds_told held) in
    elim c.match-flush.branch [
      | in-Ok w ↦
          let same : r.end ≡ end = c.report.ensures.end ∙ w.end-is in
          let flushed = λ (given : List ℕ) (h : Given held1 c.drive.new.console.kept given). subst (λ (kept : List ℕ). Given held' kept given) c.flush.ensures.kept (w.in-Ok.ensures.ok given h) in
          let d_by = λ (to : PlainEnd) (by : r.end ≡ to).
          subst (λ (x : PlainEnd). Driven p locals c.args.bound left held left' (Ok x) held1 console counts frames)
          (sym same ∙ by) d in
          record {
            run = λ not_read not_write. ran p locals c.args.bound left held left' held1 held' console counts frames end r
                (λ e. not_read (same ∙ e)) (λ e. not_write (same ∙ e)) d flushed is same;
            read = λ by. cut_by_read p locals c.args.bound left held left' held1 held' console counts frames r (d_by ends.ReadFault by) flushed is;
            write = λ by. inl (cut_inside p locals c.args.bound left held left' held1 held' console counts frames r (d_by ends.WriteFault by)
                (ap g.K.Sink.held (c.flush.ensures.empty (c.in_ok-driven.ensures.emptied.write (ap (λ (x : PlainEnd). Some (Ok x)) (sym same ∙ by)))).2) holds is);
          }
      | in-Err w ↦
          let failed : r.end ≡ ends.WriteFault = c.report.ensures.end ∙ w.end-is in
          record {
            run = λ not_read not_write. absurd (not_write failed);
            read = λ by. absurd (let differ : ends.WriteFault ≡ ends.ReadFault = sym failed ∙ by in cc);
            write = λ by. inr (unflushed p locals c.args.bound left held left' held1 held' console counts frames end c.flush.new.self.kept r
                (λ e. let done : false ≡ true = (w.in-Err.ensures.empty (c.in_ok-driven.ensures.emptied.read (ap (λ (x : PlainEnd). Some (Ok x)) e))).0 in cc)
                (λ e. let done : false ≡ true = (w.in-Err.ensures.empty (c.in_ok-driven.ensures.emptied.write (ap (λ (x : PlainEnd). Some (Ok x)) e))).0 in cc)
                d (λ none. let done : false ≡ true = (w.in-Err.ensures.empty none).0 in cc) w.in-Err.ensures.lost (w.in-Err.ensures.sink.keeps front holds) is);
          }
    ]
