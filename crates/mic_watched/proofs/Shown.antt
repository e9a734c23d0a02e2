-- The cycles between boards of a run.
use Rattle.mic_watched.proofs.Common.{◌≡◌, ◌≢◌, ◌≤◌, inl, ℕ, zero, suc, List, [], ◌∷◌, ◌++◌, Option, Some, None, IsSome, refl, sym, ◌∙◌, ap, subst, Counts, End}
use Rattle.mic_watched.proofs.Common.{Cycle, shown_where, cycle_between, shown, cycles_of, boundary_in, boundary_of, cycle_on, shown_on, LeadsOver, ShowsCycles}
use Rattle.console_port.specs.Prelude.{IsLost}
use Rattle.mic_clock.specs.declared.end.End.TheVariants as ends
use Rattle.mic_clock.specs.Prelude.{Meaning, BoardView, MicroRun, last_cycles, word_at, turn, turns, bounded, buses_of, ShowsRun, ShowsAs, IsLedTo, IsCutAt, IsCutByRead, IsCutByWrite-lost, Leads, Leads-along, Leads-flushed, NoFault, IsTurned, RunIsCutByRead, TurnIsCut, IsCountedTurn}
use Rattle.mic_watched.proofs.Turns.{cycles-plus, cycles-none, boundary-counted}

where_same : (end : Option End) (c d : Cycle) → (end ≡ None → c ≡ d) → shown_where end c ≡ shown_where end d
where_same (Some e) c d same = refl
where_same None c d same = ap (λ (x : Cycle). x ∷ []) (same refl)

module _ {M State : Type 0} (state : M → State) (m : Meaning State) (bound : ℕ) (left held : Option (List ℕ)) (board : BoardView M) where
  -- before the first turn
  pub over-start : LeadsOver state m bound left held board left held board [] (ShowsRun state left held board)
  over-start rest fits = (rest, fits, λ r s e. (zero, refl, record { here = s; untaken = e; buses = refl }))

  module _ (left' held' : Option (List ℕ)) (board' : BoardView M) where
    -- the cycle that a turn between two boards shows
    turn_shows : (mpc : ℕ) → mpc ≡ (m.registers (state board.machine)).mpc → last_cycles board.counts.boundary ≤ board.counts.cycles →
        IsCountedTurn state m board board' → board'.end ≡ None →
        cycle_between m board.store.words (state board.machine) (state board'.machine) board'.counts ≡ cycle_on state m mpc board'
    turn_shows mpc is ordered counted not_ended =
        let words = board.store.words in
        let s = state board.machine in
        let driven : board'.buses ≡ record { drive = m.drives (word_at m words s) s; computed = m.computes (word_at m words s) s } =
        counted.buses ∙ ap (λ (e : Option End). buses_of m words s board.buses e) not_ended in
        let reached : boundary_in board'.counts ≡ boundary_of m words (state board'.machine) =
        boundary-counted m board.counts board'.counts (m.drives (word_at m words s) s).stalled (state board'.machine) ordered (counted.clocked not_ended).1 in
        λ i. record {
          mpc = sym is i;
          drive = (sym driven i).drive;
          computed = (sym driven i).computed;
          counts = board'.counts;
          registers = m.registers (state board'.machine);
          boundary = sym reached i;
        }

    -- a turn without a fault
    turn_over : (mpc : ℕ) → mpc ≡ (m.registers (state board.machine)).mpc → last_cycles board.counts.boundary ≤ board.counts.cycles →
        IsCountedTurn state m board board' →
        IsLedTo state left held board left' board'
        (λ r rest. ShowsRun state left' held' board' (turn m board.store.words (bounded m (Some bound) r)) × ((turn m board.store.words (bounded m (Some bound) r)).world.untaken ≡ rest)) →
        LeadsOver state m bound left held board left' held' board' (shown_on state m mpc board') (ShowsRun state left' held' board')
    turn_over mpc is ordered counted turned rest fits =
        let words = board.store.words in
        let one = turned rest fits in (
          one.0,
          one.1,
          λ r s e.
              let at = one.2 r s e in
              let cycle = cycle_between m words (state board.machine) (state board'.machine) board'.counts in
              let by_board : shown m words r (turn m words (bounded m (Some bound) r)) ≡ shown_where board'.end cycle =
              λ i. shown_where (at.0.its_end i) (cycle_between m words (s.its_state i) (at.0.its_state i) (at.0.counts i)) in (
                suc zero,
                by_board ∙ where_same board'.end cycle (cycle_on state m mpc board') (turn_shows mpc is ordered counted),
                record {
                  here = at.0;
                  untaken = at.1;
                  buses = counted.buses ∙ (λ i. buses_of m words (sym s.its_state i) board.buses (sym at.0.its_end i));
                },
              ),
        )

    -- turns that end and clock nothing
    still_over : (H : MicroRun State → Type 0) → ((r : MicroRun State) → H r → r.counts ≡ board'.counts) → board'.counts.cycles ≡ board.counts.cycles →
        IsLedTo state left held board left' board' (λ r rest. (n : ℕ) × Leads state m board.store.words (Some bound) board' board.buses rest n r H) →
        LeadsOver state m bound left held board left' held' board' [] H
    still_over H counts same led rest fits =
        let words = board.store.words in
        let far = led rest fits in (
          far.0,
          far.1,
          λ r s e.
              let at = far.2 r s e in
              let cycles : Counts → ℕ = λ c. c.cycles in (
                at.0,
                cycles-none m words (Some bound) at.0 r (ap cycles (counts (turns m words (Some bound) at.0 r) at.1.here) ∙ (same ∙ sym (ap cycles s.counts))),
                at.1,
              ),
        )

    -- one turn, by the relations that a board keeps
    pub one-turn : (mpc : ℕ) → mpc ≡ (m.registers (state board.machine)).mpc → last_cycles board.counts.boundary ≤ board.counts.cycles → board.end ≡ None →
        IsCountedTurn state m board board' →
        IsTurned state m left held board left' held' board' (Some bound) →
        RunIsCutByRead state m left held board left' held' board' (Some bound) →
        TurnIsCut state m bound left held board left' held' board' →
        ShowsCycles state m bound left held board left' held' board' (shown_on state m mpc board') board'.end
    one-turn mpc is ordered not_ended counted turned read write =
        let words = board.store.words in
        let none : (e : End) → board'.end ≡ Some e → shown_on state m mpc board' ≡ [] = λ e p. ap (λ (x : Option End). shown_where x (cycle_on state m mpc board')) p in
        let same : (e : End) → board'.end ≡ Some e → board'.counts.cycles ≡ board.counts.cycles = λ e p. (counted.still (subst IsSome (sym p) refl)).0 in
        record {
          run = λ q. turn_over mpc is ordered counted (turned (subst (λ (e : Option End). NoFault e board'.end) (sym not_ended) q));
          read = λ p. let H = IsCutByRead state m words (Some bound) left' held' board' in
              subst (λ (cs : List Cycle). LeadsOver state m bound left held board left' held' board' cs H) (sym (none ends.ReadFault p))
              (still_over H (λ r h. h.counts) (same ends.ReadFault p) (read not_ended p));
          write = λ p. let H = IsCutAt state m words bound left' held' board' in
              subst (λ (cs : List Cycle). LeadsOver state m bound left held board left' held' board' cs H) (sym (none ends.WriteFault p))
              (still_over H (λ r h. h.cut.counts) (same ends.WriteFault p) (write not_ended p));
        }

module _ {M State : Type 0} (state : M → State) (m : Meaning State) (bound : ℕ) (left0 held0 : Option (List ℕ)) (board0 : BoardView M)
    (left held : Option (List ℕ)) (board : BoardView M) (left' held' : Option (List ℕ)) (board' : BoardView M) where
  -- turns to a board, and turns on from there
  over_then : (H : List ℕ → MicroRun State → Type 0) (cs ds : List Cycle) → board.store.words ≡ board0.store.words →
      LeadsOver state m bound left0 held0 board0 left held board cs (ShowsRun state left held board) →
      LeadsOver state m bound left held board left' held' board' ds (H board.store.words) →
      LeadsOver state m bound left0 held0 board0 left' held' board' (cs ++ ds) (H board0.store.words)
  over_then H cs ds program first next =
      let words = board0.store.words in
      Leads-along state m (Some bound) left0 held0 board0 left held board left' board' H words program
      (λ n r. cycles_of m words (Some bound) n r ≡ cs) (λ n r. cycles_of m words (Some bound) n r ≡ cs ++ ds) (λ ws n r. cycles_of m ws (Some bound) n r ≡ ds)
      (λ n k r a s b. cycles-plus m words (Some bound) n k r ∙ (λ i. a i ++ b i)) first next

  pub shows-then : (cs ds : List Cycle) → board.store.words ≡ board0.store.words → board.end ≡ None →
      ShowsCycles state m bound left0 held0 board0 left held board cs board.end →
      ShowsCycles state m bound left held board left' held' board' ds board'.end →
      ShowsCycles state m bound left0 held0 board0 left' held' board' (cs ++ ds) board'.end
  shows-then cs ds program not_ended first next =
      let led = first.run (subst (λ (e : Option End). NoFault None e) (sym not_ended) tt) in
      record {
        run = λ q. over_then (λ (ws : List ℕ) (r : MicroRun State). ShowsRun state left' held' board' r) cs ds program led (next.run q);
        read = λ p. over_then (λ (ws : List ℕ) (r : MicroRun State). IsCutByRead state m ws (Some bound) left' held' board' r) cs ds program led (next.read p);
        write = λ p. over_then (λ (ws : List ℕ) (r : MicroRun State). IsCutAt state m ws bound left' held' board' r) cs ds program led (next.write p);
      }

module _ {M State : Type 0} (state : M → State) (m : Meaning State) (bound : ℕ) (left0 held0 : Option (List ℕ)) (board0 : BoardView M)
    (left held : Option (List ℕ)) (board : BoardView M) (held' : Option (List ℕ)) (board' : BoardView M) (cs : List Cycle)
    (same : board' ≡ record board { bus = board'.bus }) (input : board'.bus.console.ended ≡ board.bus.console.ended) where
  -- a flush after the last turn leads nowhere else
  over_flush : (H : MicroRun State → Type 0) → ((r : MicroRun State) → ShowsRun state left held board r → H r) →
      LeadsOver state m bound left0 held0 board0 left held board cs (ShowsRun state left held board) → LeadsOver state m bound left0 held0 board0 left held' board' cs H
  over_flush H f led =
      Leads-flushed state m board0.store.words (Some bound) left0 held0 board0 (λ n r. cycles_of m board0.store.words (Some bound) n r ≡ cs) left held board left board' led
      H refl input (ap (λ (b : BoardView M). b.buses) same) f

  -- where the flush is done
  pub flush-done : ShowsAs state held board held' board' (λ r. r) → (kept : board.bus.console.kept ≡ [] → (board' ≡ board) × (held' ≡ held)) →
      (board.end ≡ Some ends.ReadFault → board.bus.console.kept ≡ []) → (board.end ≡ Some ends.WriteFault → board.bus.console.kept ≡ []) →
      ShowsCycles state m bound left0 held0 board0 left held board cs board.end → ShowsCycles state m bound left0 held0 board0 left held' board' cs board.end
  flush-done shows kept empty_read empty_write first =
      let unchanged : board.bus.console.kept ≡ [] → ShowsCycles state m bound left0 held0 board0 left held' board' cs board.end =
      λ none. let is = kept none in
      subst (λ (b : BoardView M). ShowsCycles state m bound left0 held0 board0 left held' b cs board.end) (sym is.0)
      (subst (λ (h : Option (List ℕ)). ShowsCycles state m bound left0 held0 board0 left h board cs board.end) (sym is.1) first) in
      record {
        run = λ q. over_flush (ShowsRun state left held' board') (λ r s. shows left r s) (first.run q);
        read = λ p. (unchanged (empty_read p)).read p;
        write = λ p. (unchanged (empty_write p)).write p;
      }

  -- where the flush fails, it cuts the ended run
  pub flush-lost : IsSome board.end → board.bus.console.kept ≢ [] → NoFault None board.end → board'.bus.words ≡ board.bus.words → IsLost held board.bus.console.kept held' board'.bus.console.kept →
      ShowsCycles state m bound left0 held0 board0 left held board cs board.end → ShowsCycles state m bound left0 held0 board0 left held' board' cs (Some ends.WriteFault)
  flush-lost over some plain memory lost first =
      let its : (A : Type 0) (f : BoardView M → A) → f board' ≡ f (record board { bus = board'.bus }) = λ A f. ap f same in
      record {
        run = λ q. absurd q;
        read = λ p. cc;
        write = λ p. over_flush (IsCutAt state m board0.store.words bound left held' board')
            (λ r s. record {
              cut = IsCutByWrite-lost state m board0.store.words (Some bound) left left held held' board board' r s over some refl (its State (λ b. state b.machine)) (its Counts (λ b. b.counts)) memory input lost;
              its_end = inl (s.its_end ∙ sym (its (Option End) (λ b. b.end)));
            }) (first.run plain);
      }
