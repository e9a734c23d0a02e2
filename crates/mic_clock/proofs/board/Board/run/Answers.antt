use Rattle.mic_clock.proofs.Common.{◌≡◌, ◌≤◌, ℕ, max, [], Option, None, Some, IsSome, inl, inr, refl, sym, ◌∙◌, ap, subst, rules, arith, ControlStore}
use Rattle.console_port.specs.declared.fault.BusFault.TheVariants as faults
use Rattle.mic_clock.specs.declared.end.End.TheVariants as ends
use Rattle.mic_clock.specs.Prelude.{BoardView, MicroRun, last_cycles, ShowsRun, NoFault, IsCutByRead, IsCutByWrite, IsLedTo-map, Leads-on, Leads-flushed, IsCutByWrite-lost, goes-then}
use Rattle.mic_clock.proofs.GoesOn.{GoesOn-finish}
use Rattle.mic_clock.proofs.Reach.{by_done, no_err, if_err, fault_cases}
use Rattle.mic_clock.proofs.board.Board.run.Goals as goal

pub strides-preserved : goal.strides-preserved
strides-preserved g c =
    let state = g.M.Clocked.state in
    let m = g.M.Clocked.meaning in
    let first = c.args.self.now in
    let words = first.store.words in
    let old = c.strides.self in
    let new = c.stride.new.self in
    let left0 = g.S.Source.left c.args.source.now in
    let held0 = g.K.Sink.held c.args.sink.now in
    let left = g.S.Source.left c.strides.source in
    let held = g.K.Sink.held c.strides.sink in
    let left' = g.S.Source.left c.stride.new.source in
    let held' = g.K.Sink.held c.stride.new.sink in
    let first_not_ended : first.end ≡ None = search rules in
    let not_ended : old.end ≡ None = search rules in
    let program : old.store.words ≡ words = ap (λ (s : ControlStore). s.words) c.strides.invariant.goes_on.store in
    let top : ℕ = max c.args.bound (last_cycles first.counts.boundary) in
    let le : c.args.bound ≤ top = omega arith in
    let led = c.strides.invariant.run (subst (λ (e : Option _). NoFault None e) (sym not_ended) tt) in
    record {
      run = λ q. Leads-on state m (Some c.args.bound) left0 held0 first left held old left' new (λ ws r. ShowsRun state left' held' new r) words program led (c.stride.ensures.run q);
      read = λ p. Leads-on state m (Some c.args.bound) left0 held0 first left held old left' new (λ ws r. IsCutByRead state m ws (Some c.args.bound) left' held' new r)
          words program led (c.stride.ensures.read not_ended p);
      write = λ p. Leads-on state m (Some c.args.bound) left0 held0 first left held old left' new (λ ws r. IsCutByWrite state m ws (Some c.args.bound) left' held' new r)
          words program led (c.stride.ensures.write not_ended p);
      goes_on = goes-then first_not_ended c.strides.invariant.goes_on not_ended c.stride.ensures.goes_on;
      in_time = c.stride.ensures.in_time top le not_ended c.strides.invariant.in_time;
    }

pub returns-clause-run : goal.returns-clause-run
returns-clause-run g c =
    let state = g.M.Clocked.state in
    let m = g.M.Clocked.meaning in
    let first = c.args.self.now in
    let old = c.strides.self in
    let new = c.finish.new.self in
    let left0 = g.S.Source.left c.args.source.now in
    let held0 = g.K.Sink.held c.args.sink.now in
    let left = g.S.Source.left c.strides.source in
    let held = g.K.Sink.held c.strides.sink in
    let held' = g.K.Sink.held c.finish.new.sink in
    let Along : ℕ → MicroRun g.M.Clocked.State → Type 0 = λ n r. Unit {0} in
    λ none q. by_done c.finish.result c.finish.ensures.ok c.finish.ensures.fault
    (λ _ _ done.
    let led = IsLedTo-map state left0 held0 first left old _ _ (λ r rest at. (at.0, tt, at.1)) (c.strides.invariant.run (subst (λ (e : Option _). NoFault None e) done.0 q)) in
    IsLedTo-map state left0 held0 first left new _ _ (λ r rest at. (at.0, at.2))
    (Leads-flushed state m first.store.words (Some c.args.bound) left0 held0 first Along left held old left new led (ShowsRun state left held' new)
    refl c.finish.ensures.same.input (ap (λ (b : BoardView g.row.M.Denot). b.buses) c.finish.ensures.same.same) (done.1 left)))
    (λ _ _ failed. absurd (subst (λ (e : Option _). NoFault None e) failed.1 q))

pub returns-clause-read : goal.returns-clause-read
returns-clause-read g c =
    λ none p. by_done c.finish.result c.finish.ensures.ok c.finish.ensures.fault
    (λ _ _ done.
    let was : c.strides.self.end ≡ Some ends.ReadFault = sym done.0 ∙ p in
    let same = c.finish.ensures.empty (c.strides.invariant.goes_on.kept faults.ReadFault none tt was) in
    rw (same.1, same.2) (c.strides.invariant.read was))
    (λ _ _ failed. let e = failed.1 in absurd (cc))

pub returns-clause-write : goal.returns-clause-write
returns-clause-write g c =
    let state = g.M.Clocked.state in
    let m = g.M.Clocked.meaning in
    let first = c.args.self.now in
    let old = c.strides.self in
    let new = c.finish.new.self in
    let left0 = g.S.Source.left c.args.source.now in
    let held0 = g.K.Sink.held c.args.sink.now in
    let left = g.S.Source.left c.strides.source in
    let held = g.K.Sink.held c.strides.sink in
    let held' = g.K.Sink.held c.finish.new.sink in
    let Along : ℕ → MicroRun g.M.Clocked.State → Type 0 = λ n r. Unit {0} in
    let over : IsSome old.end = search rules in
    let view : (A : Type 0) (f : BoardView g.row.M.Denot → A) → f new ≡ f (record old { bus = new.bus; end = new.end }) = λ A f. ap f c.finish.ensures.same.same in
    λ none p. by_done c.finish.result c.finish.ensures.ok c.finish.ensures.fault
    (λ _ _ done.
    let was : old.end ≡ Some ends.WriteFault = sym done.0 ∙ p in
    let same = c.finish.ensures.empty (c.strides.invariant.goes_on.kept faults.WriteFault none tt was) in
    rw (same.1, same.2) (c.strides.invariant.write was))
    (λ x is failed.
    let kept : old.bus.console.kept ≡ [] → ⊥ = λ e. no_err c.finish.result x is (c.finish.ensures.empty e).0 in
    elim (fault_cases old.end) [
      | inl plain ↦ (
          let led = IsLedTo-map state left0 held0 first left old _ _ (λ r rest at. (at.0, tt, at.1)) (c.strides.invariant.run plain) in
          IsLedTo-map state left0 held0 first left new _ _ (λ r rest at. (at.0, at.2))
          (Leads-flushed state m first.store.words (Some c.args.bound) left0 held0 first Along left held old left new led (IsCutByWrite state m first.store.words (Some c.args.bound) left held' new)
          refl c.finish.ensures.same.input (view _ (λ b. b.buses))
          (λ r s. IsCutByWrite-lost state m first.store.words (Some c.args.bound) left left held held' old new r s over kept refl (view _ (λ b. state b.machine)) (view _ (λ b. b.counts))
          c.finish.ensures.same.memory c.finish.ensures.same.input ((if_err _ c.finish.result x is (c.finish.ensures.err None)).lost failed.0))))
      | inr fault ↦ elim fault [
        | inl read ↦ absurd (kept (c.strides.invariant.goes_on.kept faults.ReadFault none tt read))
        | inr write ↦ absurd (kept (c.strides.invariant.goes_on.kept faults.WriteFault none tt write))
      ]
    ])

pub returns-clause-goes_on : goal.returns-clause-goes_on
returns-clause-goes_on g c =
    let old = c.strides.self in
    let new = c.finish.new.self in
    let none : c.args.self.now.end ≡ None = search rules in
    let over : IsSome old.end = search rules in
    let first = c.strides.invariant.goes_on in
    GoesOn-finish _ g.S.Source.left g.S.Source.faults g.K.Sink.held g.K.Sink.passed g.K.Sink.faults c.args.source.now c.args.sink.now c.args.self.now
    c.strides.source c.strides.sink old c.finish.new.sink new none over first c.finish.ensures.same c.finish.ensures.kept c.finish.result
    c.finish.ensures.ok c.finish.ensures.fault c.finish.ensures.empty c.finish.ensures.sink c.finish.ensures.cause
