-- The cycles that a run from its reset shows.
use Rattle.cli_clocked.proofs.Common.{◌≡◌, ◌∙◌, ℕ, zero, suc, ◌+◌, ◌-◌, Bool, true, false, if◌then◌else◌, List, [], ◌∷◌, ◌++◌, length, Option, Some, None, refl}
use Rattle.cli_clocked.proofs.Common.{sym, ap, subst, arith, nat_le, length-append, Given, Untaken, World, Counts, End, Meaning, Outcome, Done, Refused}
use Rattle.cli_clocked.proofs.Common.{BoardView, start_run, MicroRun, after_end_or_step, after_step, bounded, counts_at, counts_between, end_before, turn, turns}
use Rattle.cli_clocked.proofs.Common.{word_at, Cycle, cycle_between, cycles_of, shown, shown_where, LeadsOver, ShowsCycles, FRAME, VerifiedView, MalView, Loaded}
use Rattle.cli_clocked.proofs.Common.{OutsideView, IsAtReset, RunsThrough, AreClockedAfter, IsClockedAfter}
use Rattle.mic_clock.specs.declared.end.End.TheVariants as ends

-- ---- cycles after cycles

clocked_then : (k : ℕ) (xs ys : List Cycle) → AreClockedAfter k xs → AreClockedAfter (k + length xs) ys → AreClockedAfter k (xs ++ ys)
clocked_then k [] ys one other = let none : k + 0 ≡ k = omega arith in subst (λ (n : ℕ). AreClockedAfter n ys) none other
clocked_then k (x ∷ xs) ys one other =
    let same : k + suc (length xs) ≡ k + 1 + length xs = omega arith in
    (one.0, clocked_then (k + 1) xs ys one.1 (subst (λ (n : ℕ). AreClockedAfter n ys) same other))

-- ---- one turn

module _ {State : Type 0} (m : Meaning State) (words : List ℕ) (bound : ℕ) where
  abbrev run : State → World → Counts → Option End → MicroRun State
  run s w c e = record { state = s; world = w; counts = c; end = e }

  -- what a turn from here to there shows is clocked
  pub record IsShown (s : State) (c : Counts) (q : MicroRun State) : Type 0 where
    pub are : AreClockedAfter c.cycles (shown_where q.end (cycle_between m words s q.state q.counts))
    pub long : c.cycles + length (shown_where q.end (cycle_between m words s q.state q.counts)) ≡ q.counts.cycles

  -- a cycle that comes to a boundary, or to none
  abbrev cycle_by : State → State → Counts → Bool → Bool → Cycle
  cycle_by s s' c stalled b =
      record {
        mpc = (m.registers s).mpc;
        drive = m.drives (word_at m words s) s;
        computed = m.computes (word_at m words s) s;
        counts = if b then counts_at c stalled (m.address s') (m.registers s') else counts_between c stalled;
        registers = m.registers s';
        boundary = if b then Some (m.address s') else None;
      }

  clocked_by : (s s' : State) (c : Counts) (stalled b : Bool) → IsClockedAfter c.cycles (cycle_by s s' c stalled b)
  clocked_by s s' c stalled true =
      record {
        count = refl;
        reached = λ at is. (record { cycles = c.cycles + 1; at = m.address s'; sp = (m.registers s').sp; lv = (m.registers s').lv }, refl, (let e : Some (m.address s') ≡ Some at = is in cc), refl);
      }
  clocked_by s s' c stalled false = record { count = refl; reached = λ at is. absurd (let e : None ≡ Some at = is in cc) }

  counted_by : (s' : State) (c : Counts) (stalled b : Bool) → c.cycles + 1 ≡ (if b then counts_at c stalled (m.address s') (m.registers s') else counts_between c stalled).cycles
  counted_by s' c stalled true = refl
  counted_by s' c stalled false = refl

  nothing_shown : (s : State) (c : Counts) (q : MicroRun State) (e : End) → q.end ≡ Some e → q.counts.cycles ≡ c.cycles → IsShown s c q
  nothing_shown s c q e ended same =
      let cycle : Cycle = cycle_between m words s q.state q.counts in
      let none : shown_where q.end cycle ≡ [] = ap (λ (o : Option End). shown_where o cycle) ended in
      let sum : c.cycles + 0 ≡ c.cycles = omega arith in
      record {
        are = subst (λ (cs : List Cycle). AreClockedAfter c.cycles cs) (sym none) tt;
        long = ap (λ (cs : List Cycle). c.cycles + length cs) none ∙ sum ∙ sym same;
      }

  stepped : (s : State) (w : World) (c : Counts) (o : Outcome State) → IsShown s c (after_step m words (run s w c None) o)
  stepped s w c (Done s' w') =
      let stalled : Bool = (m.drives (word_at m words s) s).stalled in
      record { are = (clocked_by s s' c stalled (m.is_boundary s'), tt); long = counted_by s' c stalled (m.is_boundary s') }
  stepped s w c (Refused refusal) = nothing_shown s c (after_step m words (run s w c None) (Refused refusal)) _ refl refl

  gone_on : (s : State) (w : World) (c : Counts) (e : Option End) → IsShown s c (after_end_or_step m words e (run s w c None))
  gone_on s w c (Some e) = nothing_shown s c (after_end_or_step m words (Some e) (run s w c None)) e refl refl
  gone_on s w c None = stepped s w c (m.step (word_at m words s) s w)

  at_bound : (s : State) (w : World) (c : Counts) (b over : Bool) →
      IsShown s c (turn m words (if b then (if over then run s w c (Some ends.Bound) else run s w c None) else run s w c None))
  at_bound s w c true true = nothing_shown s c (run s w c (Some ends.Bound)) ends.Bound refl refl
  at_bound s w c true false = gone_on s w c (end_before m s c)
  at_bound s w c false over = gone_on s w c (end_before m s c)

  turned : (s : State) (w : World) (c : Counts) (e : Option End) → IsShown s c (turn m words (bounded m (Some bound) (run s w c e)))
  turned s w c (Some e) = nothing_shown s c (run s w c (Some e)) e refl refl
  turned s w c None = at_bound s w c (m.is_boundary s) (nat_le bound c.cycles)

  -- ---- turns

  turns-suc : (n : ℕ) (r : MicroRun State) → turns m words (Some bound) (suc n) r ≡ turn m words (bounded m (Some bound) (turns m words (Some bound) n r))
  turns-suc zero r = refl
  turns-suc (suc n) r = turns-suc n (turn m words (bounded m (Some bound) r))

  all_clocked : (n : ℕ) (r : MicroRun State) → AreClockedAfter r.counts.cycles (cycles_of m words (Some bound) n r)
      × (r.counts.cycles + length (cycles_of m words (Some bound) n r) ≡ (turns m words (Some bound) n r).counts.cycles)
  all_clocked zero r = (tt, omega arith)
  all_clocked (suc n) r =
      let before = all_clocked n r in
      let p : MicroRun State = turns m words (Some bound) n r in
      let q : MicroRun State = turns m words (Some bound) (suc n) r in
      let cs : List Cycle = cycles_of m words (Some bound) n r in
      let one : IsShown p.state p.counts q = subst (λ (x : MicroRun State). IsShown p.state p.counts x) (sym (turns-suc n r)) (turned p.state p.world p.counts p.end) in
      let far : length (cs ++ shown m words p q) ≡ length cs + length (shown m words p q) = length-append cs (shown m words p q) in
      let sofar = before.1 in
      let long = one.long in (
        clocked_then r.counts.cycles cs (shown m words p q) before.0 (subst (λ (k : ℕ). AreClockedAfter k (shown m words p q)) (sym sofar) one.are),
        omega (arith, far, sofar, long),
      )

-- ---- what a board may show

some_untaken : (left : Option (List ℕ)) (ended : Bool) → (rest : List ℕ) × Untaken left ended rest
some_untaken left true = ([], refl)
some_untaken None false = ([], tt)
some_untaken (Some l) false = (l, refl)

some_given : (held : Option (List ℕ)) (kept : List ℕ) → (given : List ℕ) × Given held kept given
some_given None kept = ([], tt)
some_given (Some h) kept = (h ++ kept, refl)

module _ {M State : Type 0} (state : M → State) (m : Meaning State) (bound entry : ℕ) (program : VerifiedView) (first last : BoardView M) (left held left' held' : Option (List ℕ))
    (reset : IsAtReset state m entry program first) (cycles : List Cycle) where
  abbrev Counted : Type 0
  Counted = AreClockedAfter 0 cycles × (length cycles ≡ last.counts.cycles)

  led_clocked : (IsHere : MicroRun State → Type 0) → LeadsOver state m bound left held first left' held' last cycles IsHere → ((r : MicroRun State) → IsHere r → r.counts ≡ last.counts) → Counted
  led_clocked IsHere led counts =
      let rest = some_untaken left' last.bus.console.ended in
      let from = led rest.0 rest.1 in
      let given = some_given held first.bus.console.kept in
      let w : World = record { words = first.bus.words; untaken = from.0; given = given.0 } in
      let r : MicroRun State = start_run m entry (FRAME + program.main_locals - 1) w in
      let at = from.2 r (reset.shows left held w (record { words = refl; untaken = from.1; given = given.1 })) refl in
      let all = all_clocked m first.store.words bound at.0 r in
      let number : length cycles ≡ 0 + length cycles = omega arith in (
        subst (λ (cs : List Cycle). AreClockedAfter 0 cs) at.1 all.0,
        number ∙ ap (λ (cs : List Cycle). 0 + length cs) (sym at.1) ∙ all.1 ∙ ap (λ (c : Counts). c.cycles) (counts (turns m first.store.words (Some bound) at.0 r) at.2.here),
      )

  clocked_to : (end : Option End) → ShowsCycles state m bound left held first left' held' last cycles end → Counted
  clocked_to None shows = led_clocked _ (shows.run tt) (λ r here. here.counts)
  clocked_to (Some ends.ReadFault) shows = led_clocked _ (shows.read refl) (λ r here. here.counts)
  clocked_to (Some ends.WriteFault) shows = led_clocked _ (shows.write refl) (λ r here. here.cut.counts)
  clocked_to (Some ends.Halt) shows = led_clocked _ (shows.run tt) (λ r here. here.counts)
  clocked_to (Some ends.Err) shows = led_clocked _ (shows.run tt) (λ r here. here.counts)
  clocked_to (Some ends.Bound) shows = led_clocked _ (shows.run tt) (λ r here. here.counts)
  clocked_to (Some ends.StackLimit) shows = led_clocked _ (shows.run tt) (λ r here. here.counts)
  clocked_to (Some (ends.OutOfMap at)) shows = led_clocked _ (shows.run tt) (λ r here. here.counts)
  clocked_to (Some ends.Adrift) shows = led_clocked _ (shows.run tt) (λ r here. here.counts)

pub clocked_through : {M State : Type 0} (state : M → State) (m : Meaning State) (bound : ℕ) (micro : MalView) (l : Loaded) (program : VerifiedView) (cycles : List Cycle) (last : BoardView M)
    (end : Option End) (old new : OutsideView) → RunsThrough state m bound micro l program cycles last end old new → AreClockedAfter 0 cycles × (length cycles ≡ last.counts.cycles)
clocked_through state m bound micro l program cycles last end old new through =
    clocked_to state m bound l.entry program through.first last old.console.left old.out.held new.console.left new.out.held through.begins.reset cycles end through.shows
