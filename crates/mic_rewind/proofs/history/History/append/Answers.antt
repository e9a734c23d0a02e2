use Rattle.std.proofs.Common.{◌≡◌, ◌∙◌, sym, ap, subst, refl, ℕ, ◌<◌, ◌-◌, List, [], ◌∷◌, ◌++◌, length, arith, None}
use Rattle.mic_rewind.proofs.Common.{Buffer, buffer, tick_of, KeptCycle, Moment, Fits, begun, stored, AreKept, HistoryView, appended, begun_at, first_in}
use Rattle.mic_rewind.proofs.Common.{kept_in, moment_at, view_from}
use Rattle.mic_rewind.proofs.Zipping.{behind-length}
use Rattle.mic_rewind.proofs.Placed.{placed_ahead, goes_ahead}
use Rattle.mic_rewind.proofs.Spare.{rolled, rolled_first, rolled_kept}
use Rattle.mic_rewind.proofs.history.History.append.Goals as goal
use Rattle.mic_rewind.proofs.history.History.append.Goals.{After-push_back}

-- the cycle that is kept
abbrev cycle : After-push_back → KeptCycle
cycle c = record { after = c.args.after; tick = c.args.tick; written = c.take_over-written.result }

-- the cycles that can be gone back over, and where they begin
abbrev cycles : After-push_back → Buffer KeptCycle
cycles c = kept_in c.self.inside.cycles

abbrev first : After-push_back → Moment
first c = first_in c.self.inside.first c.self.inside.cycles

-- the buffer with the cycle in it, and where its cycles begin
abbrev grown : After-push_back → Buffer KeptCycle
grown c = rolled c.self.inside.first c.self.inside.cycles (cycle c) c.self.invariant.some

abbrev first_grown : After-push_back → Moment
first_grown c = first_in c.self.inside.first (grown c)

-- the cursor is at the newest state
none : (c : After-push_back) → c.self.inside.behind ≡ 0
none c =
    let h = c.self.inside in
    let no : length (view_from (first c) (cycles c) h.behind h.memory.items).after ≡ 0 =
    ap (λ (v : HistoryView). length v.after) c.self.view_is ∙ ap length c.requires.newest in
    let l = behind-length (begun_at (first c) (cycles c)) h.behind h.memory.items c.self.invariant.cursor in
    omega arith

is : (c : After-push_back) → AreKept (first c) (cycles c) 0 c.self.inside.memory.items
is c = subst (λ (n : ℕ). AreKept (first c) (cycles c) n c.self.inside.memory.items) (none c) c.self.invariant

-- the cycle leads on from there
abbrev newest : After-push_back → Moment
newest c = moment_at (first c) (cycles c).items 0

fits : (c : After-push_back) → Fits (begun (newest c) (cycle c)) (newest c) c.args.after c.self.inside.memory.items c.take_over-written.new.memory.items
fits c =
    record {
      before_is = refl;
      after_is = refl;
      undoes = c.take_over-written.ensures.undoes;
      redoes = c.take_over-written.ensures.redoes;
      tick = subst (λ (n : ℕ). c.args.tick ≡ tick_of (moment_at (first c) (cycles c).items n).counts c.args.after.counts None) (none c)
          (c.requires.tick ∙ ap (λ (v : HistoryView). tick_of v.here.moment.counts c.args.after.counts None) (sym c.self.view_is));
    }

pub invariant_of-self : goal.invariant_of-self
invariant_of-self c =
    let made = (goal.at.invariant_of-self c).After-push_back in
    let h = c.self.inside in
    let words = c.take_over-written.new.memory.items in
    let some = c.self.invariant.some in
    let ahead = placed_ahead (first made) (cycles made) h.memory.items words (cycle made) (is made) (fits made)
    (first_grown made) (rolled_first h.first h.cycles (cycle made) some) in
    subst (λ (b : Buffer KeptCycle). AreKept (first_in h.first b) (kept_in b) h.behind words) (sym c.push_back.ensures.items)
    (subst (λ (n : ℕ). AreKept (first_grown made) (kept_in (grown made)) n words) (sym (none made))
    (subst (λ (b : Buffer KeptCycle). AreKept (first_grown made) b 0 words) (sym (rolled_kept h.first h.cycles (cycle made) some)) ahead))

pub returns : goal.returns
returns c =
    let made = (goal.at.returns c).After-push_back in
    let h = c.self.inside in
    let words = c.take_over-written.new.memory.items in
    let some = c.self.invariant.some in
    let ahead = goes_ahead (first made) (cycles made) h.memory.items words (cycle made) (is made) (fits made)
    (first_grown made) (rolled_first h.first h.cycles (cycle made) some) in
    let stored_is : words ≡ stored c.args.after.registers.mar c.args.word c.args.self.now.here.words =
    c.take_over-written.ensures.words ∙ ap (λ (v : HistoryView). stored c.args.after.registers.mar c.args.word v.here.words) c.self.view_is in
    ap (λ (b : Buffer KeptCycle). view_from (first_in h.first b) (kept_in b) h.behind words) c.push_back.ensures.items
    ∙ (ap (λ (n : ℕ). view_from (first_grown made) (kept_in (grown made)) n words) (none made)
    ∙ (ap (λ (b : Buffer KeptCycle). view_from (first_grown made) b 0 words) (rolled_kept h.first h.cycles (cycle made) some)
    ∙ (ahead
    ∙ (ap (λ (v : HistoryView). appended v (record { moment = c.args.after; words = words }))
    (ap (λ (n : ℕ). view_from (first made) (cycles made) n h.memory.items) (sym (none made)) ∙ c.self.view_is)
    ∙ ap (λ (ws : List ℕ). appended c.args.self.now (record { moment = c.args.after; words = ws })) stored_is))))
