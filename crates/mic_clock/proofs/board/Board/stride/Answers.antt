use Rattle.mic_clock.proofs.Common.{◌≡◌, ℕ, None, Some, Option, suc, sym, ◌∙◌, ap, subst, ControlStore, End}
use Rattle.mic_clock.specs.Prelude.{MicroRun, NoFault, IsCutByRead, IsCutByWrite, IsLedTo-map, Leads-on}
use Rattle.mic_clock.proofs.Reach.{Leads-turn, TurnIsCut-run}
use Rattle.mic_clock.proofs.board.Board.stride.Given.{Over}
use Rattle.mic_clock.proofs.board.Board.stride.Goals as goal
use Rattle.mic_clock.proofs.board.Board.stride.Goals.{After-turn_by}

-- the turns inside end nothing
on : (g : Over) → (c : goal.After-turn_by g) → c.run_inside.new.self.end ≡ None
on g c = c.run_inside.ensures.running ∙ c.requires.running

program : (g : Over) → (c : goal.After-turn_by g) → c.run_inside.new.self.store.words ≡ c.args.self.now.store.words
program g c = ap (λ (s : ControlStore). s.words) c.run_inside.ensures.store

pub returns-clause-run : goal.returns-clause-run
returns-clause-run g c = λ plain.
    let state = g.M.Clocked.state in
    let m = g.M.Clocked.meaning in
    let first = c.args.self.now in
    let old = c.run_inside.new.self in
    let new = c.turn_by.new.self in
    let left = g.S.Source.left c.args.source.now in
    let held = g.K.Sink.held c.args.sink.now in
    let left' = g.S.Source.left c.turn_by.new.source in
    let held' = g.K.Sink.held c.turn_by.new.sink in
    let Along : ℕ → MicroRun g.M.Clocked.State → Type 0 = λ n r. Unit {0} in
    let led = IsLedTo-map state left held first left old _ _ (λ r rest at. (at.0, tt, at.1)) (c.run_inside.ensures.reached left held) in
    let turned = c.turn_by.ensures.turn (subst (λ (e : Option End). NoFault e new.end) (sym (on g c)) plain) in
    IsLedTo-map state left held first left' new _ _ (λ r rest at. (suc at.0, at.2))
    (Leads-turn state m first.store.words (Some c.args.bound) left held first Along left held old left' held' new (program g c) led turned c.turn_by.ensures.counted.buses)

pub returns-clause-read : goal.returns-clause-read
returns-clause-read g c = λ not_ended p.
    let state = g.M.Clocked.state in
    let m = g.M.Clocked.meaning in
    let first = c.args.self.now in
    let new = c.turn_by.new.self in
    let left = g.S.Source.left c.args.source.now in
    let held = g.K.Sink.held c.args.sink.now in
    let left' = g.S.Source.left c.turn_by.new.source in
    let held' = g.K.Sink.held c.turn_by.new.sink in
    Leads-on state m (Some c.args.bound) left held first left held c.run_inside.new.self left' new
    (λ words r. IsCutByRead state m words (Some c.args.bound) left' held' new r) first.store.words (program g c)
    (c.run_inside.ensures.reached left held) (c.turn_by.ensures.read (on g c) p)

pub returns-clause-write : goal.returns-clause-write
returns-clause-write g c = λ not_ended p.
    let state = g.M.Clocked.state in
    let m = g.M.Clocked.meaning in
    let first = c.args.self.now in
    let old = c.run_inside.new.self in
    let new = c.turn_by.new.self in
    let left = g.S.Source.left c.args.source.now in
    let held = g.K.Sink.held c.args.sink.now in
    let left' = g.S.Source.left c.turn_by.new.source in
    let held' = g.K.Sink.held c.turn_by.new.sink in
    Leads-on state m (Some c.args.bound) left held first left held old left' new
    (λ words r. IsCutByWrite state m words (Some c.args.bound) left' held' new r) first.store.words (program g c)
    (c.run_inside.ensures.reached left held) (TurnIsCut-run state m c.args.bound left held old left' held' new c.turn_by.ensures.write (on g c) p)

pub returns-clause-in_time : goal.returns-clause-in_time
returns-clause-in_time g c = λ top le not_ended t. c.turn_by.ensures.in_time top le (on g c) (c.run_inside.ensures.in_time top le not_ended t)
