use Rattle.std.proofs.Common.{◌≡◌, ◌∙◌, sym, ap, subst, ℕ, ◌-◌, ◌<◌, ◌≤◌, List, length, arith, Option, Some, None, option_copied, slice_get, rules}
use Rattle.mic_rewind.proofs.Common.{IsSome, KeptCycle, tick_of, AreKept, GoesBack, HistoryView, begun_at, first_in, kept_in, moment_at, view_from}
use Rattle.mic_rewind.proofs.Begun.{begun-length}
use Rattle.mic_rewind.proofs.Zipping.{behind-length, is_there}
use Rattle.mic_rewind.proofs.Placed.{placed_on, goes_on, tick_on}
use Rattle.mic_rewind.proofs.Spare.{got_after, kept_in-length}
use Rattle.mic_rewind.proofs.history.History.forward.Goals as goal
use Rattle.mic_rewind.proofs.history.History.forward.Goals.{After-redo}

pub overflow_sub-len : goal.overflow_sub-len
overflow_sub-len c =
    let h = c.self.inside in
    let n = begun-length (first_in h.first h.cycles) (kept_in h.cycles).items in
    let l = kept_in-length h.cycles in
    omega (arith, n, l, c.len.ensures.len, c.self.invariant.cursor)

pub unwrap-cycle-requires : goal.unwrap-cycle-requires
unwrap-cycle-requires c =
    let h = c.self.inside in
    let b = begun_at (first_in h.first h.cycles) (kept_in h.cycles) in
    let was : 0 < length (view_from (first_in h.first h.cycles) (kept_in h.cycles) h.behind h.memory.items).after = subst (λ (v : HistoryView). 0 < length v.after) (sym c.self.view_is) c.requires in
    let l = behind-length b h.behind h.memory.items c.self.invariant.cursor in
    let n = begun-length (first_in h.first h.cycles) (kept_in h.cycles).items in
    let k = kept_in-length h.cycles in
    let len = c.len.ensures.len in
    let cursor = c.self.invariant.cursor in
    let some : 0 < h.behind = omega arith in
    let inside : c.len.result - h.behind < length h.cycles.items = omega arith in
    let there = is_there h.cycles.items (c.len.result - h.behind) inside in
    let copied : IsSome (option_copied c.get.result) = subst (λ (o : Option KeptCycle). IsSome o) (sym c.get.ensures) there in
    search rules

-- the kept cycle after the cursor
got : (c : After-redo) →
    slice_get (kept_in c.self.inside.cycles).items (length (kept_in c.self.inside.cycles).items - c.self.inside.behind) ≡ Some c.unwrap-cycle.result.now
got c =
    let h = c.self.inside in
    let n = begun-length (first_in h.first h.cycles) (kept_in h.cycles).items in
    got_after h.cycles h.behind c.unwrap-cycle.result.now (omega (arith, n, c.self.invariant.cursor))
    (subst (λ (n : ℕ). slice_get h.cycles.items (n - h.behind) ≡ Some c.unwrap-cycle.result.now) c.len.ensures.len
    (sym c.get.ensures ∙ ap option_copied c.unwrap-cycle.ensures))

some : (c : After-redo) → 0 < c.self.inside.behind
some c =
    let h = c.self.inside in
    let was : 0 < length (view_from (first_in h.first h.cycles) (kept_in h.cycles) h.behind h.memory.items).after = subst (λ (v : HistoryView). 0 < length v.after) (sym c.self.view_is) c.requires in
    let l = behind-length (begun_at (first_in h.first h.cycles) (kept_in h.cycles)) h.behind h.memory.items c.self.invariant.cursor in
    omega arith

pub invariant_of-self : goal.invariant_of-self
invariant_of-self c =
    let made = (goal.at.invariant_of-self c).After-redo in
    let h = c.self.inside in
    let first = first_in h.first h.cycles in
    let cycles = kept_in h.cycles in
    subst (λ (ws : List ℕ). AreKept first cycles (h.behind - 1) ws) (sym c.redo.ensures)
    (placed_on first cycles h.behind h.memory.items c.unwrap-cycle.result.now c.self.invariant (some made) (got made))

pub returns-clause-went : goal.returns-clause-went
returns-clause-went c =
    let made = (goal.at.returns-clause-went c).After-redo in
    let h = c.self.inside in
    let first = first_in h.first h.cycles in
    let cycles = kept_in h.cycles in
    let went = goes_on first cycles h.behind h.memory.items c.unwrap-cycle.result.now c.self.invariant (some made) (got made) in
    subst (λ (v : HistoryView). GoesBack (view_from first cycles (h.behind - 1) c.redo.new.memory.items) v) c.self.view_is
    (subst (λ (ws : List ℕ). GoesBack (view_from first cycles (h.behind - 1) ws) (view_from first cycles h.behind h.memory.items)) (sym c.redo.ensures) went)

pub returns-clause-tick : goal.returns-clause-tick
returns-clause-tick c =
    let made = (goal.at.returns-clause-tick c).After-redo in
    let h = c.self.inside in
    let first = first_in h.first h.cycles in
    let cycles = kept_in h.cycles in
    tick_on first cycles h.behind h.memory.items c.unwrap-cycle.result.now c.self.invariant (some made) (got made)
    ∙ ap (λ (v : HistoryView). tick_of v.here.moment.counts (moment_at first cycles.items (h.behind - 1)).counts None) c.self.view_is
