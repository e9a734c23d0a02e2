use Rattle.mic_clock.proofs.Common.{◌≡◌, ℕ, None, Some, IsSome, Option, List, ◌∙◌, ap, sym, subst, refl, rules, End}
use Rattle.console_port.specs.declared.fault.BusFault.TheVariants as faults
use Rattle.mic_clock.specs.Prelude.{BoardView, MicroRun, bounded, word_at, ShowsAs, IsTurned, IsCutByFault, NoFault, IsCountedTurn, InTime, IsLedTo-map, board_of}
use Rattle.mic_clock.proofs.InTime.{InTime-step}
use Rattle.mic_clock.proofs.Reach.{Leads-start, Leads-read, bound-cut, cycle-cut, IsTurned-bounded, unstopped}
use Rattle.mic_clock.proofs.board.Board.turn_by.Given.{Over}
use Rattle.mic_clock.proofs.board.Board.turn_by.Goals as goal
use Rattle.mic_clock.proofs.board.Board.turn_by.Goals.{After-turn_once}

pub returns-in-Some-clause-write : goal.returns-in-Some-clause-write
returns-in-Some-clause-write g c = λ not_ended p.
    bound-cut g.M.Clocked.state g.M.Clocked.meaning c.args.bound _ _ c.args.self.now _ c.stop_at.new.self c.stop_at.ensures.same.input not_ended p
    (ap (λ (b : BoardView g.row.M.Denot). b.buses) c.stop_at.ensures.same.same) (c.stop_at.ensures.write _)

pub returns-in-Some-clause-in_time : goal.returns-in-Some-clause-in_time
returns-in-Some-clause-in_time g c = λ top le not_ended t.
    let new = c.stop_at.new.self in
    let over : IsSome new.end = search rules in
    let same = ap (λ (b : BoardView g.row.M.Denot). b.counts) c.stop_at.ensures.same.same in
    subst (λ x. InTime top x (g.M.Clocked.meaning.is_boundary (g.M.Clocked.state new.machine)) new.end) (sym same)
    (record { cycles = t.cycles; ordered = t.ordered; near = t.near; last = λ q. absurd (let still = subst IsSome q over in cc) })

-- The bound does not end the board, which is then as it was, with the sink.
here : (g : Over) → (c : goal.After-turn_once g) → (P : BoardView g.row.M.Denot → Option (List ℕ) → Type 0) →
    P c.stop_at.new.self (g.K.Sink.held c.stop_at.new.sink) → P c.args.self.now (g.K.Sink.held c.args.sink.now)
here g c = let none : c.stop_at.result ≡ None = search rules in unstopped g.K.Sink.held _ _ _ _ (c.stop_at.ensures.stays.0 none)

shows : (g : Over) → (c : goal.After-turn_once g) →
    ShowsAs g.M.Clocked.state (g.K.Sink.held c.args.sink.now) c.args.self.now (g.K.Sink.held c.args.sink.now) c.args.self.now
    (bounded g.M.Clocked.meaning (Some c.args.bound))
shows g c =
    let board = c.args.self.now in
    let held = g.K.Sink.held c.args.sink.now in
    let none : c.stop_at.result ≡ None = search rules in
    let same_end = ap (λ (b : BoardView g.row.M.Denot). b.end) (c.stop_at.ensures.stays.0 none).0 in
    let not_ended : board.end ≡ None = sym same_end ∙ (sym c.stop_at.ensures.value ∙ none) in
    here g c (λ b h. NoFault board.end b.end → ShowsAs g.M.Clocked.state held board h b (bounded g.M.Clocked.meaning (Some c.args.bound)))
    c.stop_at.ensures.run (subst (λ (e : Option End). NoFault e e) (sym not_ended) tt)

-- What is known of the parts of the board before its turn is known of it and of the sink before the test of the bound.
cycled : (g : Over) → (c : goal.After-turn_once g) → (P : BoardView g.row.M.Denot → Option (List ℕ) → Type 0) →
    P (board_of g.M.Clocked.seen c.self.inside.machine c.self.inside.store c.self.inside.bus c.self.inside.running c.self.inside.tally) (g.K.Sink.held c.stop_at.new.sink) →
    P c.args.self.now (g.K.Sink.held c.args.sink.now)
cycled g c P p = here g c P (subst (λ (b : BoardView g.row.M.Denot). P b (g.K.Sink.held c.stop_at.new.sink)) c.self.view_is p)

abbrev after : (g : Over) → goal.After-turn_once g → BoardView g.row.M.Denot
after g c = board_of g.M.Clocked.seen c.turn_once.new.machine c.self.inside.store c.turn_once.new.bus c.turn_once.new.running c.turn_once.new.tally

pub returns-clause-turn : goal.returns-clause-turn
returns-clause-turn g c =
    let once = (goal.at.returns-clause-turn g c).After-turn_once in
    let state = g.M.Clocked.state in
    let m = g.M.Clocked.meaning in
    let left = g.S.Source.left c.args.source.now in
    let left' = g.S.Source.left c.turn_once.new.source in
    let held' = g.K.Sink.held c.turn_once.new.sink in
    let new = after g once in
    IsTurned-bounded state m c.args.bound left _ c.args.self.now left' held' new (shows g once)
    (cycled g once (λ b h. IsTurned state m left h b left' held' new None) c.turn_once.ensures.turn)

pub returns-clause-read : goal.returns-clause-read
returns-clause-read g c = λ not_ended p.
    let once = (goal.at.returns-clause-read g c).After-turn_once in
    let state = g.M.Clocked.state in
    let m = g.M.Clocked.meaning in
    let board = c.args.self.now in
    let left = g.S.Source.left c.args.source.now in
    let held = g.K.Sink.held c.args.sink.now in
    let left' = g.S.Source.left c.turn_once.new.source in
    let held' = g.K.Sink.held c.turn_once.new.sink in
    let new = after g once in
    let cut = cycled g once (λ b h. IsCutByFault state m left h b left' held' new) c.turn_once.ensures.cut faults.ReadFault not_ended tt p in
    let Along : ℕ → MicroRun g.M.Clocked.State → Type 0 = λ n r. Unit {0} in
    IsLedTo-map state left held board left' new _ _ (λ r rest at. (at.0, at.2))
    (Leads-read state m board.store.words (Some c.args.bound) left held board Along left held board left' held' new refl (Leads-start state m c.args.bound left held board)
    not_ended cut (λ r s. (shows g once left r s).its_end ∙ not_ended))

pub returns-clause-write : goal.returns-clause-write
returns-clause-write g c = λ not_ended p.
    let once = (goal.at.returns-clause-write g c).After-turn_once in
    let state = g.M.Clocked.state in
    let m = g.M.Clocked.meaning in
    let left = g.S.Source.left c.args.source.now in
    let left' = g.S.Source.left c.turn_once.new.source in
    let held' = g.K.Sink.held c.turn_once.new.sink in
    let new = after g once in
    let cut = cycled g once (λ b h. IsCutByFault state m left h b left' held' new) c.turn_once.ensures.cut faults.WriteFault not_ended tt p in
    cycle-cut state m c.args.bound left _ c.args.self.now left' held' new not_ended p (shows g once) cut

pub returns-clause-in_time : goal.returns-clause-in_time
returns-clause-in_time g c = λ top le not_ended t.
    let once = (goal.at.returns-clause-in_time g c).After-turn_once in
    let state = g.M.Clocked.state in
    let m = g.M.Clocked.meaning in
    let board = c.args.self.now in
    let new = after g once in
    let none : c.stop_at.result ≡ None = search rules in
    let counted : IsCountedTurn state m board new = cycled g once (λ b h. IsCountedTurn state m b new) c.turn_once.ensures.changes.counted in
    InTime-step m top c.args.bound board.counts new.counts (m.is_boundary (state board.machine))
    (m.drives (word_at m board.store.words (state board.machine)) (state board.machine)).stalled (state new.machine) board.end new.end not_ended le t
    counted.still counted.room (λ q. (counted.clocked q).1) (λ _. c.stop_at.ensures.in_time.0 none)
