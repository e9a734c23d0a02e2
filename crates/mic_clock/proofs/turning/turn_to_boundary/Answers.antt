use Rattle.mic_clock.proofs.Common.{◌≡◌, ◌≤◌, ◌+◌, ℕ, suc, Option, None, false, inl, refl, sym, ◌∙◌, ap, subst, rules, arith, ControlStore, Running}
use Rattle.console_port.specs.declared.fault.BusFault.TheVariants as faults
use Rattle.mic_clock.specs.Prelude.{MicroRun, IsLeg, word_at, last_cycles, BoardView, NoFault, IsTurned, IsCutByFault, GoesOn, InTime, board_of, ChangesByTurn, IsLedTo-map, goes-then}
use Rattle.mic_clock.proofs.InTime.{InTime-step, InLeg-step}
use Rattle.mic_clock.proofs.Legs.{leg-start, leg-inside}
use Rattle.mic_clock.proofs.Reach.{Leads-turn, Leads-read, Leads-write}
use Rattle.mic_clock.proofs.turning.turn_to_boundary.Goals as goal

pub inside-init : goal.inside-init
inside-init g c =
    let state = g.M.Clocked.state in
    let m = g.M.Clocked.meaning in
    let first = board_of g.M.Clocked.seen c.args.machine.now c.args.store.now c.args.bus.now c.args.running.now c.args.tally.now in
    let new = board_of g.M.Clocked.seen c.turn_once.new.machine c.args.store.now c.turn_once.new.bus c.turn_once.new.running c.turn_once.new.tally in
    let words = first.store.words in
    let left0 = g.S.Source.left c.args.source.now in
    let held0 = g.K.Sink.held c.args.sink.now in
    let left' = g.S.Source.left c.turn_once.new.source in
    let held' = g.K.Sink.held c.turn_once.new.sink in
    let Along : ℕ → MicroRun g.M.Clocked.State → Type 0 = λ n r. IsLeg m words (suc n) r in
    let not_ended : first.end ≡ None = search rules in
    let cycles = c.args.running.now.cycles in
    let at : (P : Running → Type 0) → P (record { cycles = cycles; end = None }) → P c.args.running.now =
    λ P p. subst P (λ i. record { cycles = cycles; end = sym not_ended i }) p in
    let from : Running → BoardView g.row.M.Denot = λ r. board_of g.M.Clocked.seen c.args.machine.now c.args.store.now c.args.bus.now r c.args.tally.now in
    let turned = at (λ r. IsTurned state m left0 held0 (from r) left' held' new None) c.turn_once.ensures.turn in
    let cut = at (λ r. IsCutByFault state m left0 held0 (from r) left' held' new) c.turn_once.ensures.cut in
    let changes = at (λ r. ChangesByTurn state m (from r) new) c.turn_once.ensures.changes in
    let goes_on = at (λ r. GoesOn g.S.Source.left g.S.Source.faults g.K.Sink.held g.K.Sink.passed g.K.Sink.faults c.args.source.now c.args.sink.now (from r)
    c.turn_once.new.source c.turn_once.new.sink new) c.turn_once.ensures.goes_on in
    let top : ℕ = first.counts.cycles in
    let ordered : last_cycles first.counts.boundary ≤ first.counts.cycles = search rules in
    let near : first.counts.cycles ≤ top + 1024 = omega arith in
    let after : last_cycles first.counts.boundary ≤ top = omega arith in
    let in_time : InTime top first.counts false first.end =
    record { cycles = near; ordered = ordered; near = c.requires.parts.counts.since; last = λ _. inl after } in
    let led = leg-start state m words left0 held0 first in
    record {
      parts = search rules;
      run = λ q. IsLedTo-map state left0 held0 first left' new _ _ (λ r rest at. (suc at.0, at.1, at.2))
          (Leads-turn state m words None left0 held0 first Along left0 held0 first left' held' new refl led
          (turned (subst (λ (e : Option _). NoFault e new.end) (sym not_ended) q)) changes.counted.buses);
      read = λ p. Leads-read state m words None left0 held0 first Along left0 held0 first left' held' new refl led
          not_ended (cut faults.ReadFault not_ended tt p) (λ r s. s.its_end ∙ not_ended);
      write = λ p. Leads-write state m words None left0 held0 first Along left0 held0 first left' held' new refl led
          not_ended (cut faults.WriteFault not_ended tt p) (λ r s. s.its_end ∙ not_ended);
      goes_on = goes_on;
      in_leg = InLeg-step m first.counts first.counts new.counts (m.drives (word_at m words (state first.machine)) (state first.machine)).stalled (state new.machine) new.end (search rules) refl (omega arith)
          changes.counted.still changes.counted.room (λ q. (changes.counted.clocked q).1);
      in_time = InTime-step m top top first.counts new.counts false (m.drives (word_at m words (state first.machine)) (state first.machine)).stalled (state new.machine) first.end new.end not_ended (omega arith) in_time
          changes.counted.still changes.counted.room (λ q. (changes.counted.clocked q).1) (λ _ here. absurd (cc));
    }

pub inside-preserved : goal.inside-preserved
inside-preserved g c =
    let state = g.M.Clocked.state in
    let m = g.M.Clocked.meaning in
    let first = board_of g.M.Clocked.seen c.args.machine.now c.args.store.now c.args.bus.now c.args.running.now c.args.tally.now in
    let old = board_of g.M.Clocked.seen c.inside.machine c.args.store.now c.inside.bus c.inside.here c.inside.tally in
    let new = board_of g.M.Clocked.seen c.turn_once-in-inside.new.machine c.args.store.now c.turn_once-in-inside.new.bus c.turn_once-in-inside.new.running c.turn_once-in-inside.new.tally in
    let words = first.store.words in
    let left0 = g.S.Source.left c.args.source.now in
    let held0 = g.K.Sink.held c.args.sink.now in
    let left = g.S.Source.left c.inside.source in
    let held = g.K.Sink.held c.inside.sink in
    let left' = g.S.Source.left c.turn_once-in-inside.new.source in
    let held' = g.K.Sink.held c.turn_once-in-inside.new.sink in
    let Along : ℕ → MicroRun g.M.Clocked.State → Type 0 = λ n r. IsLeg m words (suc n) r in
    let first_not_ended : first.end ≡ None = search rules in
    let not_ended : old.end ≡ None = search rules in
    let no_boundary : m.is_boundary (state old.machine) ≡ false = search rules in
    let program : old.store.words ≡ words = ap (λ (s : ControlStore). s.words) c.inside.invariant.goes_on.store in
    let top : ℕ = first.counts.cycles in
    let past = c.inside.invariant.in_leg.onward not_ended in
    let later : first.counts.cycles ≤ old.counts.cycles = omega arith in
    let led = leg-inside state m words left0 held0 first left held old not_ended no_boundary (c.inside.invariant.run (subst (λ (e : Option _). NoFault None e) (sym not_ended) tt)) in
    record {
      parts = search rules;
      run = λ q. IsLedTo-map state left0 held0 first left' new _ _ (λ r rest at. (suc at.0, at.1, at.2))
          (Leads-turn state m words None left0 held0 first Along left held old left' held' new program led
          (c.turn_once-in-inside.ensures.turn (subst (λ (e : Option _). NoFault e new.end) (sym not_ended) q)) c.turn_once-in-inside.ensures.changes.counted.buses);
      read = λ p. Leads-read state m words None left0 held0 first Along left held old left' held' new program led
          not_ended (c.turn_once-in-inside.ensures.cut faults.ReadFault not_ended tt p) (λ r s. s.its_end ∙ not_ended);
      write = λ p. Leads-write state m words None left0 held0 first Along left held old left' held' new program led
          not_ended (c.turn_once-in-inside.ensures.cut faults.WriteFault not_ended tt p) (λ r s. s.its_end ∙ not_ended);
      goes_on = goes-then first_not_ended c.inside.invariant.goes_on not_ended c.turn_once-in-inside.ensures.goes_on;
      in_leg = InLeg-step m first.counts old.counts new.counts (m.drives (word_at m old.store.words (state old.machine)) (state old.machine)).stalled (state new.machine) new.end
          c.inside.invariant.in_leg.within (c.inside.invariant.in_leg.same not_ended no_boundary) later
          c.turn_once-in-inside.ensures.changes.counted.still c.turn_once-in-inside.ensures.changes.counted.room (λ q. (c.turn_once-in-inside.ensures.changes.counted.clocked q).1);
      in_time = InTime-step m top top old.counts new.counts (m.is_boundary (state old.machine)) (m.drives (word_at m old.store.words (state old.machine)) (state old.machine)).stalled (state new.machine) old.end new.end not_ended (omega arith) c.inside.invariant.in_time
          c.turn_once-in-inside.ensures.changes.counted.still c.turn_once-in-inside.ensures.changes.counted.room (λ q. (c.turn_once-in-inside.ensures.changes.counted.clocked q).1) (λ _ here. absurd (cc));
    }
