use Rattle.mic_clock.proofs.Common.{◌≡◌, Bool, None, Some, Option, sym, ap, ◌∙◌, subst, rules, World, Shows, End}
use Rattle.mic_clock.specs.Prelude.{refusal_in, end_before, counts_after, word_at, EndsBefore, NoFault, tick_of, board_of, counts_of}
use Rattle.mic_clock.proofs.Rules.{ends_as_ruled, ended_as_ruled, counted_as_ruled, tick_counted}
use Rattle.mic_clock.proofs.Turns.{led-refused, led-done, no_fault}
use Rattle.mic_clock.proofs.turning.turn_once.Goals as goal

pub returns-in-Some-end_before-clause-turn : goal.returns-in-Some-end_before-clause-turn
returns-in-Some-end_before-clause-turn g c =
    let state = g.M.Clocked.state in
    let m = g.M.Clocked.meaning in
    let board = board_of g.M.Clocked.seen c.args.machine.now c.args.store.now c.args.bus.now c.args.running.now c.args.tally.now in
    let rule : EndsBefore (m.registers (state board.machine)).mpc board.counts (Some c.in-Some-end_before.end) = search rules in
    let ends : Some c.in-Some-end_before.end ≡ end_before m (state board.machine) board.counts = ends_as_ruled m _ _ _ rule in
    let counts = ended_as_ruled _ _ _ c.end_here.ensures.counts in
    λ q rest u. (rest, search rules, λ r s e. search rules)

pub returns-in-Err-clause-turn : goal.returns-in-Err-clause-turn
returns-in-Err-clause-turn g c =
    let edge = c.in-Err.ensures.edge.edge in
    let state = g.M.Clocked.state in
    let m = g.M.Clocked.meaning in
    let board = board_of g.M.Clocked.seen c.args.machine.now c.args.store.now c.args.bus.now c.args.running.now c.args.tally.now in
    let not_ended : board.end ≡ None = search rules in
    let no_end : end_before m (state board.machine) board.counts ≡ None = search rules in
    λ q.
    let plain : NoFault None (Some c.fault_end-end.result) = subst (λ (x : Option End). NoFault x (Some c.fault_end-end.result)) not_ended q in
    let other = no_fault c.in-Err.fault (subst (λ (x : End). NoFault None (Some x)) c.fault_end-end.ensures plain) in
    let refused : (w : World) → Shows (g.S.Source.left c.args.source.now) (g.K.Sink.held c.args.sink.now) board.bus w →
    refusal_in (m.step (word_at m board.store.words (state board.machine)) (state board.machine) w) ≡ Some c.in-Err.fault = search rules in
    led-refused state m _ _ _ (g.K.Sink.held c.clock.new.sink) board _ c.in-Err.fault not_ended no_end refused other (search rules) (search rules) (search rules) (search rules)

pub returns-in-Ok-clause-turn : goal.returns-in-Ok-clause-turn
returns-in-Ok-clause-turn g c =
    let state = g.M.Clocked.state in
    let m = g.M.Clocked.meaning in
    let board = board_of g.M.Clocked.seen c.args.machine.now c.args.store.now c.args.bus.now c.args.running.now c.args.tally.now in
    let rule : EndsBefore (m.registers (state board.machine)).mpc board.counts None = search rules in
    let no_end : end_before m (state board.machine) board.counts ≡ None = sym (ends_as_ruled m _ _ _ rule) in
    let not_ended : board.end ≡ None = search rules in
    let counted = counted_as_ruled m _ _ _ _ c.count.ensures.counts in
    (λ q. led-done state m _ _ _ _ _ _ not_ended no_end c.in-Ok.ensures.edge.edge.ok
    (counted ∙ ap (λ (b : Bool). counts_after m board.counts b (state c.clock.new.machine)) c.in-Ok.ensures.stalled) (search rules))

pub returns-in-Ok-clause-tick : goal.returns-in-Ok-clause-tick
returns-in-Ok-clause-tick g c =
    let old = counts_of c.args.running.now c.args.tally.now in
    let new = counts_of c.count.new.running c.count.new.tally in
    let none : c.count.new.running.end ≡ None = search rules in
    c.ticked.ensures ∙ (sym (tick_counted old new _ c.count.ensures.counts.stalls) ∙ ap (λ (e : Option End). tick_of old new e) (sym none))
