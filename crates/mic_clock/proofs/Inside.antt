-- Turns that need neither a source nor a sink, one after the other.
use Rattle.mic_clock.proofs.Common.{nat_le, ◌≡◌, ◌≤◌, ◌<◌, max, suc, ℕ, ◌+◌, ◌-◌, List, Bool, true, false, if◌then◌else◌, Option, Some, None, refl, sym, ◌∙◌}
use Rattle.mic_clock.proofs.Common.{ap, subst, arith, nat_tests, ControlStore, Counts, End}
use Rattle.mic_clock.specs.declared.end.End.TheVariants as ends
use Rattle.mic_clock.specs.Prelude.{Meaning, BoardView, MicroRun, word_at, bounded, bounded_by, ShowsRun, ShowsAs, IsReached, InTime, IsTurnedInside, IsRunInside, IsStill, NoFault, IsLedTo-map}
use Rattle.mic_clock.proofs.InTime.{InTime-step}
use Rattle.mic_clock.proofs.Rules.{counts_after-rule}
use Rattle.mic_clock.proofs.Reach.{Leads-turn, IsTurned-bounded}

-- below the bound nothing ends by it
bounded-below : {State : Type 0} (m : Meaning State) (bound : ℕ) (r : MicroRun State) → r.counts.cycles < bound → bounded m (Some bound) r ≡ r
bounded-below {State} m bound r lt = by_end r.end
  where
    no : nat_le bound r.counts.cycles ≡ false
    no = grind (lt, arith, nat_tests)

    by_boundary : (b : Bool) → (if b then (if nat_le bound r.counts.cycles then record { state = r.state; world = r.world; counts = r.counts; end = Some ends.Bound } else r) else r) ≡ r
    by_boundary true = ap (λ (t : Bool). if t then record { state = r.state; world = r.world; counts = r.counts; end = Some ends.Bound } else r) no
    by_boundary false = refl

    by_end : (e : Option End) → bounded_by m e bound r ≡ r
    by_end (Some e) = refl
    by_end None = by_boundary (m.is_boundary r.state)

module _ {M State : Type 0} (state : M → State) (m : Meaning State) where
  -- a turn counts one cycle
  pub turned_later : (board board' : BoardView M) → IsTurnedInside state m board board' → board'.counts.cycles ≡ board.counts.cycles + 1
  turned_later board board' turned =
      ap (λ (c : Counts). c.cycles) (turned.counted.clocked turned.running).1 ∙ (counts_after-rule m board.counts _ (state board'.machine)).cycles

-- fewer cycles stay below the bound after a turn, and none where nothing was done
pub fewer_left : (goes_on done : Bool) (bound cycles cycles' : ℕ) → goes_on ≡ true → cycles < bound → (done ≡ true → cycles' ≡ cycles + 1) →
    (if done then bound - cycles' else 0) < (if goes_on then bound - cycles else 0)
fewer_left true true bound cycles cycles' on lt more = omega (arith, lt, more refl)
fewer_left true false bound cycles cycles' on lt more = omega (arith, lt)
fewer_left false done bound cycles cycles' on lt more = absurd (cc)

module _ {M State : Type 0} (state : M → State) (m : Meaning State) (bound : ℕ) where
  -- before the first turn
  pub IsRunInside-start : (board : BoardView M) → IsRunInside state m board board bound
  IsRunInside-start board =
      record {
        reached = λ left held rest fits. (rest, fits, λ r s e. (0, record { here = s; untaken = e; buses = refl }));
        in_time = λ top le none t. t;
        later = omega arith;
        within = omega arith;
        running = refl;
        input = refl;
        store = refl;
      }

  module _ (first board board' : BoardView M) (so_far : IsRunInside state m first board bound) where
    -- a turn more
    pub IsRunInside-turn : board.end ≡ None → board.counts.cycles < bound → IsTurnedInside state m board board' → IsRunInside state m first board' bound
    IsRunInside-turn not_ended lt turned =
        let words = first.store.words in
        let Along : ℕ → MicroRun State → Type 0 = λ n r. Unit {0} in
        let program : board.store.words ≡ words = ap (λ (s : ControlStore). s.words) so_far.store in
        let more = turned_later state m board board' turned in
        let later : first.counts.cycles ≤ board'.counts.cycles = omega (arith, so_far.later, more) in
        let within : board'.counts.cycles ≤ max bound first.counts.cycles = omega (arith, more, lt) in
        let one_more : (left held : Option (List ℕ)) → IsReached state m left held first left held board' (Some bound) = λ left held.
        let shows : ShowsAs state held board held board (bounded m (Some bound)) = λ other r s.
        let below : r.counts.cycles < bound = rw s.counts lt in
        subst (λ (x : MicroRun State). ShowsRun state other held board x) (sym (bounded-below m bound r below)) s in
        let led = IsLedTo-map state left held first left board _ _ (λ r rest at. (at.0, tt, at.1)) (so_far.reached left held) in
        let plain : NoFault board.end board'.end = rw (not_ended, turned.running) tt in
        IsLedTo-map state left held first left board' _ _ (λ r rest at. (suc at.0, at.2))
        (Leads-turn state m words (Some bound) left held first Along left held board left held board' program led
        (IsTurned-bounded state m bound left held board left held board' shows (turned.turned left held) plain) turned.counted.buses) in
        record {
          reached = one_more;
          in_time = λ top le none t.
              InTime-step m top bound board.counts board'.counts (m.is_boundary (state board.machine))
              (m.drives (word_at m board.store.words (state board.machine)) (state board.machine)).stalled (state board'.machine) board.end board'.end not_ended le
              (so_far.in_time top le none t) turned.counted.still turned.counted.room (λ q. (turned.counted.clocked q).1) (λ _ _. lt);
          later = later;
          within = within;
          running = turned.running ∙ (sym not_ended ∙ so_far.running);
          input = turned.input ∙ so_far.input;
          store = turned.store ∙ so_far.store;
        }

    -- where nothing was done
    pub IsRunInside-still : IsStill state board board' → IsRunInside state m first board' bound
    IsRunInside-still still =
        let here : BoardView M = record board { machine = board'.machine } in
        subst (λ (b : BoardView M). IsRunInside state m first b bound) (sym still.same)
        (record {
          reached = λ left held. IsLedTo-map state left held first left here _ _
              (λ r rest there. (
                there.0,
                record {
                  here = record { its_state = there.1.here.its_state ∙ sym still.its_state; world = there.1.here.world; counts = there.1.here.counts; its_end = there.1.here.its_end };
                  untaken = there.1.untaken;
                  buses = there.1.buses;
                },
              ))
              (so_far.reached left held);
          in_time = λ top le none t.
              subst (λ s. InTime top board.counts (m.is_boundary s) board.end) (sym still.its_state) (so_far.in_time top le none t);
          later = so_far.later;
          within = so_far.within;
          running = so_far.running;
          input = so_far.input;
          store = so_far.store;
        })

    -- a turn was done, or nothing was
    pub IsRunInside-step : (done : Bool) → board.end ≡ None → board.counts.cycles < bound → (done ≡ true → IsTurnedInside state m board board') → (done ≡ false → IsStill state board board') →
        IsRunInside state m first board' bound × (board'.end ≡ None)
    IsRunInside-step true not_ended lt turned still = (IsRunInside-turn not_ended lt (turned refl), (turned refl).running)
    IsRunInside-step false not_ended lt turned still =
        (IsRunInside-still (still refl), ap (λ (b : BoardView M). b.end) (still refl).same ∙ not_ended)
