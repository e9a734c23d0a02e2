-- How a run goes on on a board, and where a fault cuts it.
use Rattle.mic_clock.proofs.Common.{Result, Ok, Err, IsOk, OnOk, IfErr, ◌≡◌, ◌⊎◌, inl, inr, zero, suc, ℕ, List, Bool, Option, Some, None, IsSome, refl, sym}
use Rattle.mic_clock.proofs.Common.{◌∙◌, ap, subst, Untaken, End}
use Rattle.console_port.specs.declared.fault.BusFault.TheVariants as faults
use Rattle.mic_clock.specs.declared.end.End.TheVariants as ends
use Rattle.mic_clock.specs.Prelude.{Meaning, ReadsConsole, UsesConsole, BoardView, MicroRun, end_before, word_at, turn, turns, bounded, buses_of, ShowsRun, IsLedTo, IsCut, IsCutByRead, IsCutByWrite, Leads, NoFault, IsReached, IsTurned, ShowsAs, BoundIsCutByWrite, IsCutAt, TurnIsCut, RunIsCutByWrite, is_completed, front_lost, turn_by_ended, turns-suc, bounded-world, IsLedTo-map, Leads-flushed, Leads-on}

-- what is known after a call that changed neither the board nor the sink is known of both as they were
pub unstopped : {M K : Type 0} (held : K → Option (List ℕ)) (board board' : BoardView M) (sink sink' : K) → (board' ≡ board) × (sink' ≡ sink) →
    (P : BoardView M → Option (List ℕ) → Type 0) → P board' (held sink') → P board (held sink)
unstopped held board board' sink sink' same P p = subst (λ k. P board (held k)) same.1 (subst (λ b. P b (held sink')) same.0 p)

-- what holds of a step holds of the same step of a run
same_step : {State : Type 0} (m : Meaning State) (P : ℕ → State → Type 0) (words words' : List ℕ) (s s' : State) → words ≡ words' → s' ≡ s →
    P (word_at m words s) s → P (word_at m words' s') s'
same_step m P words words' s s' program same h =
    subst (λ (ws : List ℕ). P (word_at m ws s') s') program (subst (λ t. P (word_at m words t) t) (sym same) h)

pub by_done : {T E A C : Type 0} {B : E → Type 0} (result : Result T E) → OnOk result A → IfErr result B →
    ((x : T) → result ≡ Ok x → A → C) → ((e : E) → result ≡ Err e → B e → C) → C
by_done (Ok x) a b done failed = done x refl a
by_done (Err e) a b done failed = failed e refl b

pub if_err : {T E : Type 0} (B : E → Type 0) (result : Result T E) (e : E) → result ≡ Err e → IfErr result B → B e
if_err B result e is b = subst (λ r. IfErr r B) is b

pub no_err : {T E : Type 0} (result : Result T E) (e : E) → result ≡ Err e → IsOk result → ⊥
no_err result e is ok = cc

pub fault_cases : (end : Option End) → NoFault None end ⊎ ((end ≡ Some ends.ReadFault) ⊎ (end ≡ Some ends.WriteFault))
fault_cases None = inl tt
fault_cases (Some ends.ReadFault) = inr (inl refl)
fault_cases (Some ends.WriteFault) = inr (inr refl)
fault_cases (Some e) = inl tt

module _ {M State : Type 0} (state : M → State) (m : Meaning State) (words : List ℕ) (bound : Option ℕ)
    (left0 held0 : Option (List ℕ)) (board0 : BoardView M) (Along : ℕ → MicroRun State → Type 0)
    (left held : Option (List ℕ)) (board : BoardView M) (left' held' : Option (List ℕ)) (board' : BoardView M)
    (program : board.store.words ≡ words)
    (led : IsLedTo state left0 held0 board0 left board (λ r rest. (n : ℕ) × Along n r × Leads state m words bound board board0.buses rest n r (ShowsRun state left held board))) where
  -- one turn more
  pub Leads-turn :
      IsLedTo state left held board left' board' (λ r rest. ShowsRun state left' held' board' (turn m board.store.words (bounded m bound r)) × ((turn m board.store.words (bounded m bound r)).world.untaken ≡ rest)) →
      board'.buses ≡ buses_of m board.store.words (state board.machine) board.buses board'.end →
      IsLedTo state left0 held0 board0 left' board' (λ r rest. (n : ℕ) × Along n r × Leads state m words bound board' board0.buses rest (suc n) r (ShowsRun state left' held' board'))
  Leads-turn turned seen rest fits =
      let one = turned rest fits in
      let far = led one.0 one.1 in (
        far.0,
        far.1,
        λ r s e.
            let at = far.2 r s e in
            let n = at.0 in
            let is : turn m board.store.words (bounded m bound (turns m words bound n r)) ≡ turns m words bound (suc n) r =
            ap (λ (ws : List ℕ). turn m ws (bounded m bound (turns m words bound n r))) program ∙ sym (turns-suc m words bound r n) in
            let next = one.2 (turns m words bound n r) at.2.here at.2.untaken in
            let shows : ShowsRun state left' held' board' (turns m words bound (suc n) r) = subst (λ (x : MicroRun State). ShowsRun state left' held' board' x) is next.0 in (
              n,
              at.1,
              record {
                here = shows;
                untaken = sym (ap (λ (x : MicroRun State). x.world.untaken) is) ∙ next.1;
                buses = seen ∙ (λ i. buses_of m (program i) (sym at.2.here.its_state i) (at.2.buses i) (sym shows.its_end i));
              },
            ),
      )

  -- a failing source cuts the run
  pub Leads-read : board.end ≡ None → IsCut state m left held board left' held' board' faults.ReadFault →
      ((r : MicroRun State) → ShowsRun state left held board r → (bounded m bound r).end ≡ None) →
      IsLedTo state left0 held0 board0 left' board' (λ r rest. (n : ℕ) × Along n r × Leads state m words bound board' board0.buses rest n r (IsCutByRead state m words bound left' held' board'))
  Leads-read not_ended cut on =
      Leads-flushed state m words bound left0 held0 board0 Along left held board left' board' led (IsCutByRead state m words bound left' held' board') cut.world.untaken cut.world.ended cut.buses
      (λ q here. record {
        its_state = here.its_state ∙ sym cut.its_state;
        world = cut.world.same (λ e. cc) q.world here.world;
        counts = here.counts ∙ sym cut.counts;
        kept = cut.world.emptied tt;
        next = record { running = on q here; no_end = (λ i. end_before m (here.its_state i) (here.counts i)) ∙ cut.no_end };
        reads = same_step m (λ (word : ℕ) (s : State). ReadsConsole m word s q.world) board.store.words words (state board.machine) q.state program here.its_state (cut.reads refl q.world here.world);
      })

  -- a failing sink cuts the run
  pub Leads-write : board.end ≡ None → IsCut state m left held board left' held' board' faults.WriteFault →
      ((r : MicroRun State) → ShowsRun state left held board r → (bounded m bound r).end ≡ None) →
      IsLedTo state left0 held0 board0 left' board' (λ r rest. (n : ℕ) × Along n r × Leads state m words bound board' board0.buses rest n r (IsCutByWrite state m words bound left' held' board'))
  Leads-write not_ended cut on =
      Leads-flushed state m words bound left0 held0 board0 Along left held board left' board' led (IsCutByWrite state m words bound left' held' board') cut.world.untaken cut.world.ended cut.buses
      (λ q here. record {
        its_state = here.its_state ∙ sym cut.its_state;
        memory = here.world.words ∙ sym cut.world.words;
        untaken = subst (λ (o : Option (List ℕ)). Untaken o board'.bus.console.ended q.world.untaken) (sym cut.world.untaken)
            (subst (λ (b : Bool). Untaken left b q.world.untaken) (sym cut.world.ended) here.world.untaken);
        counts = here.counts ∙ sym cut.counts;
        kept = cut.world.emptied tt;
        front = front_lost held held' board.bus.console.kept board'.bus.console.kept q.world.given (cut.world.lost refl) here.world.given;
        next = inl (
          record { running = on q here; no_end = (λ i. end_before m (here.its_state i) (here.counts i)) ∙ cut.no_end },
          same_step m (λ (word : ℕ) (s : State). UsesConsole m word s q.world) board.store.words words (state board.machine) q.state program here.its_state (cut.uses refl q.world here.world),
        );
      })

pub IsReached-compose : {M State : Type 0} (state : M → State) (m : Meaning State) (left held left' held' left'' held'' : Option (List ℕ)) (bound : Option ℕ)
    (a b c : BoardView M) → b.store ≡ a.store → IsReached state m left held a left' held' b bound → IsReached state m left' held' b left'' held'' c bound →
    IsReached state m left held a left'' held'' c bound
IsReached-compose state m left held left' held' left'' held'' bound a b c same first next =
    Leads-on state m bound left held a left' held' b left'' c (λ (words : List ℕ). ShowsRun state left'' held'' c) a.store.words
    (ap (λ s. s.words) same) first next

module _ {M State : Type 0} (state : M → State) (m : Meaning State) (bound : ℕ) (left held : Option (List ℕ)) (board : BoardView M) where
  -- no turn leads where the board is
  pub Leads-start : IsLedTo state left held board left board
      (λ r rest. (n : ℕ) × Unit {0} × Leads state m board.store.words (Some bound) board board.buses rest n r (ShowsRun state left held board))
  Leads-start rest fits = (rest, fits, λ r s e. (0, tt, record { here = s; untaken = e; buses = refl }))

  untaken_same : (r : MicroRun State) (rest : List ℕ) → r.world.untaken ≡ rest → (bounded m (Some bound) r).world.untaken ≡ rest
  untaken_same r rest e = ap (λ w. w.untaken) (bounded-world m (Some bound) r) ∙ e

  -- the bound does not end a board, and a cycle follows
  pub IsTurned-bounded : (left' held' : Option (List ℕ)) (board' : BoardView M) → ShowsAs state held board held board (bounded m (Some bound)) →
      IsTurned state m left held board left' held' board' None → IsTurned state m left held board left' held' board' (Some bound)
  IsTurned-bounded left' held' board' shows turned plain rest fits =
      let far = turned plain rest fits in
      (far.0, far.1, λ r s e. far.2 (bounded m (Some bound) r) (shows left r s) (untaken_same r far.0 e))

  module _ (held' : Option (List ℕ)) (board' : BoardView M) (same_end : board'.bus.console.ended ≡ board.bus.console.ended) where
    fitting : (rest : List ℕ) → Untaken left board'.bus.console.ended rest → Untaken left board.bus.console.ended rest
    fitting rest fits = subst (λ (b : Bool). Untaken left b rest) same_end fits

    -- the flush at the bound fails
    pub bound-cut : board.end ≡ None → board'.end ≡ Some ends.WriteFault → board'.buses ≡ board.buses → BoundIsCutByWrite state m left held board left held' board' bound →
        IsLedTo state left held board left board'
        (λ r rest. (n : ℕ) × Leads state m board.store.words (Some bound) board' board.buses rest n r (IsCutAt state m board.store.words bound left held' board'))
    bound-cut not_ended failed same_buses cut rest fits = (
      rest,
      fitting rest fits,
      λ r s e.
          let words = board.store.words in
          let b = bounded m (Some bound) r in
          let c = cut not_ended failed r s in
          let still : turns m words (Some bound) (suc zero) r ≡ b = turn_by_ended m words b.end b (subst IsSome (sym c.0) refl) in
          let at_end : (turns m words (Some bound) (suc zero) r).end ≡ Some ends.Bound = ap (λ (x : MicroRun State). x.end) still ∙ c.0 in (
            suc zero,
            record {
              here = record { cut = subst (λ (x : MicroRun State). IsCutByWrite state m words (Some bound) left held' board' x) (sym still) c.1; its_end = inr (failed, ap is_completed at_end) };
              untaken = ap (λ (x : MicroRun State). x.world.untaken) still ∙ untaken_same r rest e;
              buses = same_buses ∙ sym (λ i. buses_of m words r.state board.buses (at_end i));
            },
          ),
    )

  module _ (left' held' : Option (List ℕ)) (board' : BoardView M) where
    -- a failing sink cuts the cycle that follows
    pub cycle-cut : board.end ≡ None → board'.end ≡ Some ends.WriteFault → ShowsAs state held board held board (bounded m (Some bound)) →
        IsCut state m left held board left' held' board' faults.WriteFault →
        IsLedTo state left held board left' board'
        (λ r rest. (n : ℕ) × Leads state m board.store.words (Some bound) board' board.buses rest n r (IsCutAt state m board.store.words bound left' held' board'))
    cycle-cut not_ended failed shows cut =
        let words = board.store.words in
        let Along : ℕ → MicroRun State → Type 0 = λ n r. (turns m words (Some bound) n r).end ≡ None in
        IsLedTo-map state left held board left' board' _ _
        (λ r rest at. (at.0, record { here = record { cut = at.2.here; its_end = inr (failed, ap is_completed at.1) }; untaken = at.2.untaken; buses = at.2.buses }))
        (Leads-write state m words (Some bound) left held board Along left held board left' held' board' refl
        (λ rest fits. (rest, fits, λ r s e. (0, s.its_end ∙ not_ended, record { here = s; untaken = e; buses = refl })))
        not_ended cut (λ r s. (shows left r s).its_end ∙ not_ended))

    -- a cut turn is a cut run
    pub TurnIsCut-run : TurnIsCut state m bound left held board left' held' board' → RunIsCutByWrite state m left held board left' held' board' (Some bound)
    TurnIsCut-run cut not_ended failed =
        IsLedTo-map state left held board left' board' _ _
        (λ r rest at. (at.0, record { here = at.1.here.cut; untaken = at.1.untaken; buses = at.1.buses })) (cut not_ended failed)
