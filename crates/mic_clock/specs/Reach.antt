-- Lemmas on runs that a call leads from one board to another.
use Rattle.std.proofs.Common.{◌≡◌, ◌≢◌, inr, ℕ, ◌+◌, List, [], Bool, Option, IsSome, sym, ◌∙◌, ap, subst}
use Rattle.console_port.specs.Prelude.{IsLost, Untaken}
use Rattle.mic_clock.specs.Board.{ShowsRun, IsLedTo, IsCutByWrite, Leads}
use Rattle.mic_clock.specs.Going.{front_lost, last_lost}
use Rattle.mic_clock.specs.Meaning.{Meaning}
use Rattle.mic_clock.specs.Run.{MicroRun, Buses, turns, buses}
use Rattle.mic_clock.specs.Turns.{turns-plus, buses-plus}
use Rattle.mic_clock.specs.View.{BoardView}

module _ {M State : Type 0} (state : M → State) (left0 held0 : Option (List ℕ)) (board0 : BoardView M) where
  -- what is known of each run that a board leads to may be replaced by what follows from it
  pub IsLedTo-map : (left : Option (List ℕ)) (board : BoardView M) (P Q : MicroRun State → List ℕ → Type 0) →
      ((r : MicroRun State) (rest : List ℕ) → P r rest → Q r rest) → IsLedTo state left0 held0 board0 left board P → IsLedTo state left0 held0 board0 left board Q
  IsLedTo-map left board P Q f led rest fits = let far = led rest fits in (far.0, far.1, λ r s e. f r rest (far.2 r s e))

  -- a call that takes no input may follow
  pub IsLedTo-stays : (left left' : Option (List ℕ)) (board board' : BoardView M) (P : MicroRun State → List ℕ → Type 0) →
      left' ≡ left → board'.bus.console.ended ≡ board.bus.console.ended →
      IsLedTo state left0 held0 board0 left board P → IsLedTo state left0 held0 board0 left' board' P
  IsLedTo-stays left left' board board' P same_left same_end led rest fits =
      led rest (subst (λ (o : Option (List ℕ)). Untaken o board.bus.console.ended rest) same_left (subst (λ (b : Bool). Untaken left' b rest) same_end fits))

pub IsCutByWrite-lost : {M State : Type 0} (state : M → State) (m : Meaning State) (words : List ℕ) (bound : Option ℕ)
    (left left' held held' : Option (List ℕ)) (board board' : BoardView M) (r : MicroRun State) →
    ShowsRun state left held board r → IsSome board.end → board.bus.console.kept ≢ [] → left' ≡ left → state board'.machine ≡ state board.machine → board'.counts ≡ board.counts →
    board'.bus.words ≡ board.bus.words → board'.bus.console.ended ≡ board.bus.console.ended →
    IsLost held board.bus.console.kept held' board'.bus.console.kept → IsCutByWrite state m words bound left' held' board' r
IsCutByWrite-lost state m words bound left left' held held' board board' r s over some same_left same_state same_counts same_words same_ended lost =
    record {
      its_state = s.its_state ∙ sym same_state;
      memory = s.world.words ∙ sym same_words;
      untaken = subst (λ (o : Option (List ℕ)). Untaken o board'.bus.console.ended r.world.untaken) (sym same_left)
          (subst (λ (b : Bool). Untaken left b r.world.untaken) (sym same_ended) s.world.untaken);
      counts = s.counts ∙ sym same_counts;
      kept = lost.emptied;
      front = front_lost held held' board.bus.console.kept board'.bus.console.kept r.world.given lost s.world.given;
      next = inr (subst IsSome (sym s.its_end) over, last_lost held held' board.bus.console.kept board'.bus.console.kept r.world.given some lost s.world.given);
    }

module _ {M State : Type 0} (state : M → State) (m : Meaning State) (words : List ℕ) (bound : Option ℕ)
    (left0 held0 : Option (List ℕ)) (board0 : BoardView M) (Along : ℕ → MicroRun State → Type 0)
    (left held : Option (List ℕ)) (board : BoardView M) (left' : Option (List ℕ)) (board' : BoardView M)
    (led : IsLedTo state left0 held0 board0 left board (λ r rest. (n : ℕ) × Along n r × Leads state m words bound board board0.buses rest n r (ShowsRun state left held board))) where
  -- a flush leaves the run, or cuts it where it failed
  pub Leads-flushed : (H : MicroRun State → Type 0) → left' ≡ left → board'.bus.console.ended ≡ board.bus.console.ended → board'.buses ≡ board.buses →
      ((r : MicroRun State) → ShowsRun state left held board r → H r) →
      IsLedTo state left0 held0 board0 left' board' (λ r rest. (n : ℕ) × Along n r × Leads state m words bound board' board0.buses rest n r H)
  Leads-flushed H same_left same_ended same_buses shows =
      IsLedTo-stays state left0 held0 board0 left left' board board' _ same_left same_ended
      (IsLedTo-map state left0 held0 board0 left board _ _
      (λ r rest at. (at.0, at.1, record { here = shows (turns m words bound at.0 r) at.2.here; untaken = at.2.untaken; buses = same_buses ∙ at.2.buses }))
      led)

module _ {M State : Type 0} (state : M → State) (m : Meaning State) (bound : Option ℕ) (left0 held0 : Option (List ℕ)) (board0 : BoardView M)
    (left held : Option (List ℕ)) (board : BoardView M) (left' : Option (List ℕ)) (board' : BoardView M)
    (H : List ℕ → MicroRun State → Type 0) (words : List ℕ) (program : board.store.words ≡ words) where
  -- turns that lead to a board, and turns on from there, with what is known along them
  pub Leads-along : (A C : ℕ → MicroRun State → Type 0) (B : List ℕ → ℕ → MicroRun State → Type 0) →
      ((n k : ℕ) (r : MicroRun State) → A n r → ShowsRun state left held board (turns m words bound n r) → B words k (turns m words bound n r) → C (n + k) r) →
      IsLedTo state left0 held0 board0 left board (λ r rest. (n : ℕ) × A n r × Leads state m words bound board board0.buses rest n r (ShowsRun state left held board)) →
      IsLedTo state left held board left' board' (λ r rest. (n : ℕ) × B board.store.words n r × Leads state m board.store.words bound board' board.buses rest n r (H board.store.words)) →
      IsLedTo state left0 held0 board0 left' board' (λ r rest. (n : ℕ) × C n r × Leads state m words bound board' board0.buses rest n r (H words))
  Leads-along A C B join first next rest fits =
      let next' = subst
      (λ (ws : List ℕ). IsLedTo state left held board left' board' (λ r rest. (n : ℕ) × B ws n r × Leads state m ws bound board' board.buses rest n r (H ws)))
      program next in
      let there = next' rest fits in
      let far = first there.0 there.1 in (
        far.0,
        far.1,
        λ r s e.
            let at = far.2 r s e in
            let on = there.2 (turns m words bound at.0 r) at.2.here at.2.untaken in
            let is : turns m words bound (at.0 + on.0) r ≡ turns m words bound on.0 (turns m words bound at.0 r) = turns-plus m words bound at.0 on.0 r in (
              at.0 + on.0,
              join at.0 on.0 r at.1 at.2.here on.1,
              record {
                here = subst (H words) (sym is) on.2.here;
                untaken = ap (λ (x : MicroRun State). x.world.untaken) is ∙ on.2.untaken;
                buses = on.2.buses ∙ (ap (λ (b : Buses). buses m words bound on.0 (turns m words bound at.0 r) b) at.2.buses ∙ sym (buses-plus m words bound at.0 on.0 r board0.buses));
              },
            ),
      )

  pub Leads-on :
      IsLedTo state left0 held0 board0 left board (λ r rest. (n : ℕ) × Leads state m words bound board board0.buses rest n r (ShowsRun state left held board)) →
      IsLedTo state left held board left' board' (λ r rest. (n : ℕ) × Leads state m board.store.words bound board' board.buses rest n r (H board.store.words)) →
      IsLedTo state left0 held0 board0 left' board' (λ r rest. (n : ℕ) × Leads state m words bound board' board0.buses rest n r (H words))
  Leads-on first next =
      IsLedTo-map state left0 held0 board0 left' board' _ _ (λ r rest at. (at.0, at.2))
      (Leads-along (λ n r. Unit {0}) (λ n r. Unit {0}) (λ ws n r. Unit {0}) (λ n k r a s b. tt)
      (IsLedTo-map state left0 held0 board0 left board _ _ (λ r rest at. (at.0, tt, at.1)) first)
      (IsLedTo-map state left held board left' board' _ _ (λ r rest at. (at.0, tt, at.1)) next))
