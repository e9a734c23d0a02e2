use Rattle.mic_clock.proofs.Common.{◌≡◌, ◌<◌, None, refl, sym, ◌∙◌, subst, rules, arith, Running}
use Rattle.mic_clock.specs.Prelude.{BoardView, IsRunInside, AreParts, board_of}
use Rattle.mic_clock.proofs.Inside.{IsRunInside-start, IsRunInside-step, fewer_left, turned_later}
use Rattle.mic_clock.proofs.turning.turns_inside.Goals as goal

pub turns-init : goal.turns-init
turns-init g c =
    let state = g.M.Clocked.state in
    let m = g.M.Clocked.meaning in
    let from : Running → BoardView g.row.M.Denot = λ r. board_of g.M.Clocked.seen c.args.machine.now c.args.store.now c.args.bus.now r c.args.tally.now in
    let here : Running = record { cycles = c.args.running.now.cycles; end = None } in
    let is : here ≡ c.args.running.now = λ i. record { cycles = c.args.running.now.cycles; end = sym c.requires.running i } in
    record {
      parts = subst (λ (r : Running). AreParts m c.args.store.now r c.args.tally.now) (sym is) c.requires.parts;
      run = subst (λ (r : Running). IsRunInside state m (from r) (from here) c.args.bound) is (IsRunInside-start state m c.args.bound (from here));
      running = refl {a = None};
    }

pub turn_inside-goes_on-requires-clause-parts : goal.turn_inside-goes_on-requires-clause-parts
turn_inside-goes_on-requires-clause-parts g c = c.turns.invariant.parts

pub turn_inside-goes_on-requires-clause-running : goal.turn_inside-goes_on-requires-clause-running
turn_inside-goes_on-requires-clause-running g c =
    (c.turns.invariant.running, let within = c.turns.invariant.run.within in let lt = c.requires.cycles.0 in let le = c.requires.cycles.1 in omega (arith, within, lt, le))

pub turns-smaller : goal.turns-smaller
turns-smaller g c =
    let m = g.M.Clocked.meaning in
    let old = board_of g.M.Clocked.seen c.turns.machine c.args.store.now c.turns.bus c.turns.here c.turns.tally in
    let new = board_of g.M.Clocked.seen c.turn_inside-goes_on.new.machine c.args.store.now c.turn_inside-goes_on.new.bus c.turn_inside-goes_on.new.running c.turn_inside-goes_on.new.tally in
    let lt : c.turns.here.cycles < c.args.bound = search rules in
    fewer_left c.turns.goes_on c.turn_inside-goes_on.result c.args.bound c.turns.here.cycles c.turn_inside-goes_on.new.running.cycles (search rules) lt
    (λ done. turned_later g.M.Clocked.state m old new (c.turn_inside-goes_on.ensures.turned done))

pub turns-preserved : goal.turns-preserved
turns-preserved g c =
    let state = g.M.Clocked.state in
    let m = g.M.Clocked.meaning in
    let first = board_of g.M.Clocked.seen c.args.machine.now c.args.store.now c.args.bus.now c.args.running.now c.args.tally.now in
    let old = board_of g.M.Clocked.seen c.turns.machine c.args.store.now c.turns.bus c.turns.here c.turns.tally in
    let new = board_of g.M.Clocked.seen c.turn_inside-goes_on.new.machine c.args.store.now c.turn_inside-goes_on.new.bus c.turn_inside-goes_on.new.running c.turn_inside-goes_on.new.tally in
    let lt : c.turns.here.cycles < c.args.bound = search rules in
    let next = IsRunInside-step state m c.args.bound first old new c.turns.invariant.run c.turn_inside-goes_on.result c.turns.invariant.running lt
    c.turn_inside-goes_on.ensures.turned c.turn_inside-goes_on.ensures.still in
    record { parts = c.turn_inside-goes_on.ensures.parts; run = next.0; running = next.1 }

pub returns-clause-parts : goal.returns-clause-parts
returns-clause-parts g c =
    subst (λ (r : Running). AreParts g.M.Clocked.meaning c.args.store.now r c.turns.tally)
    (λ i. record { cycles = c.turns.here.cycles; end = (c.turns.invariant.running ∙ sym c.requires.running) i }) c.turns.invariant.parts

pub returns-clause-run : goal.returns-clause-run
returns-clause-run g c =
    let first = board_of g.M.Clocked.seen c.args.machine.now c.args.store.now c.args.bus.now c.args.running.now c.args.tally.now in
    subst
    (λ (r : Running).
    IsRunInside g.M.Clocked.state g.M.Clocked.meaning first (board_of g.M.Clocked.seen c.turns.machine c.args.store.now c.turns.bus r c.turns.tally) c.args.bound)
    (λ i. record { cycles = c.turns.here.cycles; end = (c.turns.invariant.running ∙ sym c.requires.running) i }) c.turns.invariant.run
