use Rattle.std.proofs.Common.{◌≡◌, ◌<◌, ◌∙◌, refl, sym, ap, subst, List, [], length, arith, Option, None, slice_get, rules}
use Rattle.mic_rewind.proofs.Common.{BusView, goes-nowhere, tick_of, End, Moment, Snapshot, HistoryView, appended, HasAddress, HaveAddresses, moment_of}
use Rattle.mic_rewind.proofs.Common.{state_of, newest}
use Rattle.mic_rewind.proofs.Keeping.{addresses_kept, emptied, forth_keeps, grown_by, left_by, live, newest_here}
use Rattle.mic_rewind.proofs.rewind.Rewind.forward.Given.{Over}
use Rattle.mic_rewind.proofs.rewind.Rewind.forward.Goals as goal

pub append-requires-clause-tick : goal.append-requires-clause-tick
append-requires-clause-tick g c =
    let m = g.M.Clocked.meaning in
    let state = g.M.Clocked.state in
    let h = c.self.inside.history in
    let new = c.cycle-tick.new.self in
    let none : new.end ≡ None = search rules in
    let was : c.self.inside.board.end ≡ None = live c.self.inside.board new (λ e is. (c.cycle-tick.ensures.goes_on.ended e is).0) none in
    let nothing : h.after ≡ [] = let b = c.behind.ensures.is in let f = c.if-behind-gt0.false in emptied h.after (omega arith) in
    let here : h.here.moment ≡ moment_of state m c.self.inside.board = ap (λ (s : Snapshot). s.moment) (sym (newest_here h nothing)) ∙ c.self.invariant.moment was in
    c.cycle-tick.ensures.tick
    ∙ (ap (λ (e : Option End). tick_of c.self.inside.board.counts new.counts e) none
    ∙ (ap (λ (x : Moment). tick_of x.counts new.counts None) (sym here)
    ∙ ap (λ (x : Moment). tick_of h.here.moment.counts x.counts None) (sym c.moment_of-after.ensures.value)))

-- the history goes on to where the board stands now
goes_on_to : (g : Over) → (c : goal.After-append g) → c.append.new.self ≡ appended c.self.inside.history (state_of g.M.Clocked.state g.M.Clocked.meaning c.cycle-tick.new.self)
goes_on_to g c =
    let m = g.M.Clocked.meaning in
    let state = g.M.Clocked.state in
    let h = c.self.inside.history in
    let new = c.cycle-tick.new.self in
    let none : new.end ≡ None = search rules in
    let nothing : h.after ≡ [] = let b = c.behind.ensures.is in let f = c.if-behind-gt0.false in emptied h.after (omega arith) in
    let words : h.here.words ≡ c.self.inside.board.bus.words = ap (λ (s : Snapshot). s.words) (sym (newest_here h nothing)) ∙ c.self.invariant.words in
    let word : c.peek-word.result ≡ slice_get new.bus.words c.moment_of-after.result.registers.mar =
    c.peek-word.ensures ∙ ap (λ (b : BusView). slice_get b.words c.moment_of-after.result.registers.mar) c.bus.ensures in
    let left = left_by state m c.self.inside.board new h.here.words c.moment_of-after.result c.peek-word.result c.moment_of-after.ensures.value word words (c.cycle-tick.ensures.writes.0 none) in
    c.append.ensures ∙ ap (λ (s : Snapshot). appended h s) left

pub invariant_of-self-then-is_none : goal.invariant_of-self-then-is_none
invariant_of-self-then-is_none g c =
    let m = g.M.Clocked.meaning in
    let state = g.M.Clocked.state in
    let h = c.self.inside.history in
    let new = c.cycle-tick.new.self in
    let is = goes_on_to g c in
    let small = subst (λ (x : Moment). x.registers.mpc < 512) c.moment_of-after.ensures.value c.moment_of-after.ensures.mpc in
    let kept = addresses_kept h (state_of state m new) c.self.invariant.before c.self.invariant.here in
    record {
      words = ap (λ (v : HistoryView). (newest v).words) is;
      moment = λ e. ap (λ (v : HistoryView). (newest v).moment) is;
      before = subst (λ (v : HistoryView). HaveAddresses v.before) (sym is) kept;
      here = subst (λ (v : HistoryView). HasAddress v.here) (sym is) small;
      after = subst (λ (v : HistoryView). HaveAddresses v.after) (sym is) tt;
    }

pub returns-then-is_none-clause-clocks : goal.returns-then-is_none-clause-clocks
returns-then-is_none-clause-clocks g c =
    rw (← c.self.view_is)
    (λ after. record {
      turn = c.cycle-tick.ensures.turn;
      cut = c.cycle-tick.ensures.cut;
      tick = c.cycle-tick.ensures.tick;
      keeps = record { clocked = λ none. goes_on_to g c; ended = λ some. absurd (search rules) };
    })

pub returns-else-is_none-clause-clocks : goal.returns-else-is_none-clause-clocks
returns-else-is_none-clause-clocks g c =
    rw (← c.self.view_is)
    (λ after. record {
      turn = c.cycle-tick.ensures.turn;
      cut = c.cycle-tick.ensures.cut;
      tick = c.cycle-tick.ensures.tick;
      keeps = record { clocked = λ n. absurd (search rules); ended = λ some. refl };
    })

pub returns-then-is_none-clause-growth : goal.returns-then-is_none-clause-growth
returns-then-is_none-clause-growth g c =
    rw (← c.self.view_is) (grown_by g.M.Clocked.state g.M.Clocked.meaning c.self.inside.board c.cycle-tick.new.self c.cycle-tick.ensures.counted.clocked c.cycle-tick.ensures.counted.still)

pub returns-else-is_none-clause-growth : goal.returns-else-is_none-clause-growth
returns-else-is_none-clause-growth g c =
    rw (← c.self.view_is) (grown_by g.M.Clocked.state g.M.Clocked.meaning c.self.inside.board c.cycle-tick.new.self c.cycle-tick.ensures.counted.clocked c.cycle-tick.ensures.counted.still)

pub invariant_of-self : goal.invariant_of-self
invariant_of-self g c =
    forth_keeps g.M.Clocked.state g.M.Clocked.meaning c.self.inside.board c.self.inside.history c.forward.new.self c.forward.ensures.went c.self.invariant

pub returns-then-behind-gt0-clause-moves : goal.returns-then-behind-gt0-clause-moves
returns-then-behind-gt0-clause-moves g c =
    rw (← c.self.view_is)
    (λ some. record { went = c.forward.ensures.went; tick = c.forward.ensures.tick; board = refl; source_same = refl; sink_same = refl })

pub returns-then-behind-gt0-clause-clocks : goal.returns-then-behind-gt0-clause-clocks
returns-then-behind-gt0-clause-clocks g c =
    rw (← c.self.view_is)
    (λ none.
    let b = c.behind.ensures.is in
    let more = c.if-behind-gt0.true in
    let is : length c.self.inside.history.after ≡ 0 = ap (λ (ss : List Snapshot). length ss) none in
    absurd (omega (arith, b, more, is)))

pub returns-then-behind-gt0-clause-goes_on : goal.returns-then-behind-gt0-clause-goes_on
returns-then-behind-gt0-clause-goes_on g c =
    rw (← c.self.view_is) goes-nowhere
