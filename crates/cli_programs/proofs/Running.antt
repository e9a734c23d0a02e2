-- What a report says of its run, by the run's end.
use Rattle.cli_programs.proofs.Common.{◌≡◌, ◌≢◌, ◌∙◌, ℕ, Some, Ok, refl, sym, ap, Machine, StaysFlushed, PlainEnd, PlainReport, HasRunCause, IsRunReport}
use Rattle.cli_programs.proofs.Common.{VerifiedView, OutsideView, Ran, CutByRead, CutByWrite, IsReported, verified_program}
use Rattle.ijvm_reference.specs.declared.plain.PlainEnd.TheVariants as ends

module _ (machine : Machine) (bound : ℕ) (program : VerifiedView) (old new : OutsideView) where
  -- what is known of a run
  pub record IsKnown (r : PlainReport) : Type 0 where
    pub report : IsRunReport (verified_program program machine) program.main_locals bound old.console.left old.out.held new.console.left new.out.held r
    pub flushed : r.end ≢ ends.WriteFault → StaysFlushed old.out.held old.out.passed new.out.held new.out.passed
    pub cause : HasRunCause old.console.faults new.console.faults old.out.faults new.out.faults (Some (Ok r.end))

  whole : (r : PlainReport) → IsKnown r → r.end ≢ ends.ReadFault → r.end ≢ ends.WriteFault → IsReported machine bound program old new r
  whole r k unread unwritten = Ran (k.report.run unread unwritten) (k.cause.source_same (λ e. unread (cc))) (k.cause.sink_same (λ e. unwritten (cc))) (k.flushed unwritten)

  by_end : (r : PlainReport) (end : PlainEnd) → r.end ≡ end → IsKnown r → IsReported machine bound program old new r
  by_end r ends.Halt e k = whole r k (λ q. cc) (λ q. cc)
  by_end r ends.Err e k = whole r k (λ q. cc) (λ q. cc)
  by_end r ends.Bound e k = whole r k (λ q. cc) (λ q. cc)
  by_end r ends.StackLimit e k = whole r k (λ q. cc) (λ q. cc)
  by_end r ends.ReadFault e k =
      CutByRead e (k.report.read e) (k.cause.read (ap (λ (x : PlainEnd). Some (Ok x)) e)) (k.cause.sink_same (λ q. cc)) (k.flushed (λ q. let c : ends.ReadFault ≡ ends.WriteFault = sym e ∙ q in cc))
  by_end r ends.WriteFault e k =
      CutByWrite e (k.report.write e) (k.cause.source_same (λ q. cc)) (k.cause.write (ap (λ (x : PlainEnd). Some (Ok x)) e))

  pub reported : (r : PlainReport) → IsKnown r → IsReported machine bound program old new r
  reported r k = by_end r r.end refl k
