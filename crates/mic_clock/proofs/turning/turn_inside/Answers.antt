use Rattle.std.proofs.Common.{◌≡◌, Bool, None, sym, ap, ◌∙◌, rules}
use Rattle.mic_clock.specs.Prelude.{end_before, counts_after, EndsBefore, board_of}
use Rattle.mic_clock.proofs.Rules.{ends_as_ruled, counted_as_ruled}
use Rattle.mic_clock.proofs.Turns.{led-done}
use Rattle.mic_clock.proofs.turning.turn_inside.Goals as goal

pub returns-in-Some-clause-turned : goal.returns-in-Some-clause-turned
returns-in-Some-clause-turned g c = λ _.
    let state = g.M.Clocked.state in
    let m = g.M.Clocked.meaning in
    let board = board_of g.M.Clocked.seen c.args.machine.now c.args.store.now c.args.bus.now c.args.running.now c.args.tally.now in
    let none : c.end_before.result ≡ None = search rules in
    let rule : EndsBefore (m.registers (state board.machine)).mpc board.counts None = search rules in
    let no_end : end_before m (state board.machine) board.counts ≡ None = sym (ends_as_ruled m _ _ _ rule) in
    let not_ended : board.end ≡ None = search rules in
    let running : c.count.new.running.end ≡ None = search rules in
    let counted = counted_as_ruled m _ _ _ _ c.count.ensures.counts
    ∙ ap (λ (b : Bool). counts_after m board.counts b (state c.clock_inside.new.machine)) c.in-Some.ensures.stalled in
    record {
      turned = λ left held q. led-done state m left held left held _ _ not_ended no_end (c.in-Some.ensures.edge left held).ok counted running;
      counted = record {
        clocked = λ q. (no_end, counted);
        room = search rules;
        still = λ q. search rules;
        buses = search rules;
      };
      running = running;
      input = search rules;
      store = search rules;
    }
