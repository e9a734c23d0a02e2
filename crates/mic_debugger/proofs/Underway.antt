-- A clocking command under way, turn by turn.
use Rattle.mic_debugger.proofs.Common.{◌≡◌, ◌⊎◌, inl, inr, suc, ℕ, ◌+◌, ◌<◌, List, [], ◌++◌, Option, Some, None, IsSome, refl, sym, ◌∙◌, ap, subst, arith}
use Rattle.mic_debugger.proofs.Common.{Meaning, MicroRun, word_at, turn, turns, bounded, BoardView, ShowsRun, IsLedTo, IsCutByRead, Leads, turns-suc, Until}
use Rattle.std.proofs.lemmas.Bool.{cases_lt}
use Rattle.mic_clock.specs.declared.end.End.TheVariants as ends
use Rattle.mic_debugger.specs.declared.plan.Plan.TheVariants as plans
use Rattle.mic_debugger.specs.Prelude.{Book, turn_text, counted_turn, after, turn_lines, passed, printed, IsDone, IsGoing, text_between, IsUnderway, IsStopped}

module _ {M State : Type 0} (state : M → State) (m : Meaning State) (book : Book) (words breaks : List ℕ) (bound : ℕ) (u : Until) (times : ℕ) where
  -- one more turn
  pub going_more : (n : ℕ) (r : MicroRun State) → IsGoing m book words breaks bound u times n r →
      (after m book words breaks bound u n r).end ≡ None → passed m book words breaks bound u n r < times → IsGoing m book words breaks bound u times (suc n) r
  going_more n r going live less =
      record {
        running = λ k lt. elim (cases_lt k n) [
          | inl below ↦ going.running k below
          | inr above ↦ (let e : n ≡ k = omega arith in subst (λ (j : ℕ). (after m book words breaks bound u j r).end ≡ None) e live)
        ];
        waiting = λ k lt. elim (cases_lt k n) [
          | inl below ↦ going.waiting k below
          | inr above ↦ (let e : n ≡ k = omega arith in subst (λ (j : ℕ). passed m book words breaks bound u j r < times) e less)
        ];
      }

  -- before the first turn
  pub underway_start : (left held : Option (List ℕ)) (board : BoardView M) →
      IsLedTo state left held board left board (λ r rest. (n : ℕ) × IsUnderway state m book words breaks bound u times left held board rest [] times n r)
  underway_start left held board rest fits = (
    rest,
    fits,
    λ r s e. (
      0,
      record {
        here = s;
        untaken = e;
        going = record { running = λ k lt. absurd (omega arith); waiting = λ k lt. absurd (omega arith) };
        count = omega arith;
        lines = refl;
      },
    ),
  )

  module _ (left0 held0 : Option (List ℕ)) (board0 : BoardView M) (left held : Option (List ℕ)) (board : BoardView M) (left' held' : Option (List ℕ)) (board' : BoardView M)
      (text : List ℕ) (w : ℕ) (program : board.store.words ≡ words) (live : board.end ≡ None) (some : 0 < w)
      (led : IsLedTo state left0 held0 board0 left board (λ r rest. (n : ℕ) × IsUnderway state m book words breaks bound u times left held board rest text w n r)) where
    pub underway_more : (w' : ℕ) → counted_turn breaks u board'.counts board'.bus.words board'.end + w' ≡ w →
        IsLedTo state left held board left' board'
        (λ r rest. ShowsRun state left' held' board' (turn m board.store.words (bounded m (Some bound) r)) × ((turn m board.store.words (bounded m (Some bound) r)).world.untaken ≡ rest)) →
        IsLedTo state left0 held0 board0 left' board'
        (λ r rest. (n : ℕ) × IsUnderway state m book words breaks bound u times left' held' board' rest (text ++ text_between state m book breaks u board board') w' n r)
    underway_more w' count turned rest fits =
        let one = turned rest fits in
        let far = led one.0 one.1 in (
          far.0,
          far.1,
          λ r s e.
              let at = far.2 r s e in
              let n = at.0 in
              let before = after m book words breaks bound u n r in
              let following = after m book words breaks bound u (suc n) r in
              let here = at.1.here in
              let next = one.2 before here at.1.untaken in
              let is : turn m board.store.words (bounded m (Some bound) before) ≡ following =
              ap (λ (ws : List ℕ). turn m ws (bounded m (Some bound) before)) program ∙ sym (turns-suc m words (Some bound) r n) in
              let shows : ShowsRun state left' held' board' following = subst (λ (x : MicroRun State). ShowsRun state left' held' board' x) is next.0 in
              let same_lines : turn_lines m book words breaks bound u before following ≡ text_between state m book breaks u board board' =
              λ i. turn_text book breaks u (m.registers (here.its_state i)).mpc (m.drives (word_at m (sym program i) (here.its_state i)) (here.its_state i)).stalled (shows.counts i) (m.registers (shows.its_state i)) (shows.world.words i) (shows.its_end i) in
              let same_count : counted_turn breaks u following.counts following.world.words following.end ≡ counted_turn breaks u board'.counts board'.bus.words board'.end =
              λ i. counted_turn breaks u (shows.counts i) (shows.world.words i) (shows.its_end i) in
              let so_far : passed m book words breaks bound u n r + w ≡ times = at.1.count in (
                suc n,
                record {
                  here = shows;
                  untaken = sym (ap (λ (x : MicroRun State). x.world.untaken) is) ∙ next.1;
                  going = going_more n r at.1.going (here.its_end ∙ live) (omega arith);
                  count = omega arith;
                  lines = λ i. at.1.lines i ++ sym same_lines i;
                },
              ),
        )

    -- a failing source stops it in one more turn
    pub underway_stopped : board'.end ≡ Some ends.ReadFault →
        IsLedTo state left held board left' board'
        (λ r rest. (k : ℕ) × Leads state m board.store.words (Some bound) board' board.buses rest k r (IsCutByRead state m board.store.words (Some bound) left' held' board')) →
        IsLedTo state left0 held0 board0 left' board'
        (λ r rest. (u' : Until) × (times' : ℕ) × (plans.Clock u times ≡ plans.Clock u' times') × (n : ℕ) × (k : ℕ)
        × IsStopped state m book words breaks bound u' times' left' held' board' rest (text ++ text_between state m book breaks u board board') n k r)
    underway_stopped ended cut rest fits =
        let one = cut rest fits in
        let far = led one.0 one.1 in (
          far.0,
          far.1,
          λ r s e.
              let at = far.2 r s e in
              let n = at.0 in
              let before = after m book words breaks bound u n r in
              let next = one.2 before at.1.here at.1.untaken in
              let k = next.0 in
              let so_far : passed m book words breaks bound u n r + w ≡ times = at.1.count in (
                u,
                times,
                refl,
                n,
                k,
                record {
                  cut = subst (λ (ws : List ℕ). IsCutByRead state m ws (Some bound) left' held' board' (turns m ws (Some bound) k before)) program next.1.here;
                  untaken = subst (λ (ws : List ℕ). (turns m ws (Some bound) k before).world.untaken ≡ rest) program next.1.untaken;
                  going = at.1.going;
                  waiting = omega arith;
                  lines = λ i. at.1.lines i ++ turn_text book breaks u (m.registers (state board.machine)).mpc (m.drives (word_at m board.store.words (state board.machine)) (state board.machine)).stalled board'.counts (m.registers (state board'.machine)) board'.bus.words (ended i);
                },
              ),
        )

  -- the command is done where the board has ended or nothing more is waited for
  pub clocked_of : (left0 held0 : Option (List ℕ)) (board0 : BoardView M) (left held : Option (List ℕ)) (board : BoardView M) (text : List ℕ) (w : ℕ) →
      IsSome board.end ⊎ (w ≡ 0) →
      IsLedTo state left0 held0 board0 left board (λ r rest. (n : ℕ) × IsUnderway state m book words breaks bound u times left held board rest text w n r) →
      IsLedTo state left0 held0 board0 left board
      (λ r rest. (run : MicroRun State) × ((n : ℕ) × IsDone m book words breaks bound u times n r × (run ≡ after m book words breaks bound u n r) × (text ≡ printed m book words breaks bound u n r))
      × ShowsRun state left held board run × (run.world.untaken ≡ rest))
  clocked_of left0 held0 board0 left held board text w over led rest fits =
      let far = led rest fits in (
        far.0,
        far.1,
        λ r s e.
            let at = far.2 r s e in
            let so_far : passed m book words breaks bound u at.0 r + w ≡ times = at.1.count in (
              after m book words breaks bound u at.0 r,
              (
                at.0,
                record {
                  going = at.1.going;
                  over = elim over [
                    | inl ended ↦ inl (subst IsSome (sym at.1.here.its_end) ended)
                    | inr none ↦ inr (omega arith)
                  ];
                },
                refl,
                at.1.lines,
              ),
              at.1.here,
              at.1.untaken,
            ),
      )
