-- Turns of a run.
use Rattle.mic_clock.proofs.Common.{◌≡◌, ◌≢◌, ◌∙◌, ap, add_comm, ℕ, List, Bool, Option, Some, None, IsSome, refl, sym, subst, World, fault_of, Shows, Stands}
use Rattle.mic_clock.proofs.Common.{IsLed, IsFault, Untaken, BusFault, End}
use Rattle.console_port.specs.declared.fault.BusFault.TheVariants as faults
use Rattle.mic_clock.specs.Prelude.{Meaning, Outcome, Done, Refused, refusal_in, MicroRun, word_at, end_by, end_before, counts_after, after_step, after_end_or_step, turn, turn_by, turns, turns-stay, BoardView, ShowsRun, IsLedTo, NoFault}

-- a refusal ended the board, and no fault did
pub no_fault : (e : BusFault) → NoFault None (Some (end_by e)) → IsFault e → ⊥
no_fault faults.ReadFault q f = q
no_fault faults.WriteFault q f = q
no_fault (faults.StackLimit at) q f = f
no_fault (faults.OutOfMap at) q f = f

-- the run that a fault ended
abbrev pub ended_by : {State : Type 0} → MicroRun State → BusFault → MicroRun State
ended_by r e = record { state = r.state; world = r.world; counts = r.counts; end = Some (end_by e) }

after_step-refused : {State : Type 0} (m : Meaning State) (words : List ℕ) (r : MicroRun State) (o : Outcome State) (e : BusFault) →
    refusal_in o ≡ Some e → after_step m words r o ≡ ended_by r e
after_step-refused m words r (Done s w) e h = absurd (cc)
after_step-refused m words r (Refused x) e h =
    let is : fault_of x ≡ e = cc in
    ap (λ (y : BusFault). record { state = r.state; world = r.world; counts = r.counts; end = Some (end_by y) }) is

module _ {M State : Type 0} (state : M → State) (m : Meaning State) (left held left' held' : Option (List ℕ)) (board board' : BoardView M) (e : BusFault) where
  pub turn-refused : (r : MicroRun State) → ShowsRun state left held board r → board.end ≡ None → end_before m (state board.machine) board.counts ≡ None →
      ((w : World) → Shows left held board.bus w → refusal_in (m.step (word_at m board.store.words (state board.machine)) (state board.machine) w) ≡ Some e) →
      turn m board.store.words r ≡ ended_by r e
  turn-refused r s not_ended no_end refused =
      let words = board.store.words in
      let here : end_before m r.state r.counts ≡ None = rw (s.its_state, s.counts) no_end in
      let is : refusal_in (m.step (word_at m words r.state) r.state r.world) ≡ Some e = rw s.its_state (refused r.world s.world) in
      ap (λ (x : Option End). turn_by m words x r) (s.its_end ∙ not_ended) ∙ (ap (λ (x : Option End). after_end_or_step m words x r) here ∙ after_step-refused m words r _ e is)

  -- a refused microstep leaves the run where it was
  pub led-refused : board.end ≡ None → end_before m (state board.machine) board.counts ≡ None →
      ((w : World) → Shows left held board.bus w → refusal_in (m.step (word_at m board.store.words (state board.machine)) (state board.machine) w) ≡ Some e) →
      (IsFault e → ⊥) → Stands left held board.bus left' held' board'.bus e →
      state board'.machine ≡ state board.machine → board'.counts ≡ board.counts → board'.end ≡ Some (end_by e) →
      IsLedTo state left held board left' board' (λ r rest. ShowsRun state left' held' board' (turn m board.store.words r) × ((turn m board.store.words r).world.untaken ≡ rest))
  led-refused not_ended no_end refused other stands same_state same_counts ends rest fits = (
    rest,
    subst (λ (o : Option (List ℕ)). Untaken o board.bus.console.ended rest) stands.untaken (subst (λ (b : Bool). Untaken left' b rest) stands.ended fits),
    λ r s is_rest.
        let is = turn-refused r s not_ended no_end refused in
        let no_write : e ≢ faults.WriteFault = λ w. other (subst IsFault (sym w) tt) in (
          subst (λ (x : MicroRun State). ShowsRun state left' held' board' x) (sym is)
              (record { its_state = s.its_state ∙ sym same_state; world = stands.same no_write r.world s.world; counts = s.counts ∙ sym same_counts; its_end = sym ends }),
          ap (λ (x : MicroRun State). x.world.untaken) is ∙ is_rest,
        ),
  )

-- a microstep that is done leads the run on
pub led-done : {M State : Type 0} (state : M → State) (m : Meaning State) (left held left' held' : Option (List ℕ)) (board board' : BoardView M) →
    board.end ≡ None → end_before m (state board.machine) board.counts ≡ None →
    IsLed left held board.bus left' held' board'.bus (λ w v. m.step (word_at m board.store.words (state board.machine)) (state board.machine) w ≡ Done (state board'.machine) v) →
    board'.counts ≡ counts_after m board.counts (m.drives (word_at m board.store.words (state board.machine)) (state board.machine)).stalled (state board'.machine) →
    board'.end ≡ None →
    IsLedTo state left held board left' board' (λ r rest. ShowsRun state left' held' board' (turn m board.store.words r) × ((turn m board.store.words r).world.untaken ≡ rest))
led-done state m left held left' held' board board' not_ended no_end led counted ends rest fits =
    let l = led rest fits in (
      l.0,
      l.1,
      λ r s e.
          let to = l.2 r.world s.world e in
          let words = board.store.words in
          let here : end_before m r.state r.counts ≡ None = rw (s.its_state, s.counts) no_end in
          let steps : m.step (word_at m words r.state) r.state r.world ≡ Done (state board'.machine) to.0 = rw s.its_state to.1 in
          let is : turn m words r ≡ after_step m words r (Done (state board'.machine) to.0) =
          ap (λ (x : Option End). turn_by m words x r) (s.its_end ∙ not_ended)
          ∙ (ap (λ (x : Option End). after_end_or_step m words x r) here ∙ ap (λ (o : Outcome _). after_step m words r o) steps) in
          let counts : counts_after m r.counts (m.drives (word_at m words r.state) r.state).stalled (state board'.machine) ≡ board'.counts = rw (s.its_state, s.counts) (sym counted) in (
            subst (λ (x : MicroRun _). ShowsRun state left' held' board' x) (sym is) (record { its_state = refl; world = to.2; counts = counts; its_end = sym ends }),
            ap (λ (x : MicroRun _). x.world.untaken) is ∙ to.3,
          ),
    )

-- two ended runs from one start are the same
pub turns-one_end : {State : Type 0} (m : Meaning State) (words : List ℕ) (bound : Option ℕ) (r : MicroRun State) (n k : ℕ) →
    IsSome (turns m words bound n r).end → IsSome (turns m words bound k r).end → turns m words bound n r ≡ turns m words bound k r
turns-one_end m words bound r n k h i =
    sym (turns-stay m words bound r k n h) ∙ (ap (λ (x : ℕ). turns m words bound x r) (add_comm k n) ∙ turns-stay m words bound r n k i)
