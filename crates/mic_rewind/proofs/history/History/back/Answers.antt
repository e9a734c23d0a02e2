use Rattle.std.proofs.Common.{◌≡◌, ◌∙◌, sym, ap, subst, refl, ℕ, ◌+◌, ◌-◌, ◌<◌, ◌≤◌, List, [], length, arith, Some, Option, option_copied, slice_get, rules}
use Rattle.mic_rewind.proofs.Common.{IsSome, KeptCycle, AreKept, GoesBack, HistoryView, first_in, kept_in, view_from}
use Rattle.mic_rewind.proofs.Begun.{begun-length}
use Rattle.mic_rewind.proofs.Zipping.{is_there}
use Rattle.mic_rewind.proofs.Keeping.{emptied}
use Rattle.mic_rewind.proofs.Placed.{placed_back, goes_back}
use Rattle.mic_rewind.proofs.Spare.{got_before, kept_in-length, some_before}
use Rattle.mic_rewind.proofs.history.History.back.Goals as goal
use Rattle.mic_rewind.proofs.history.History.back.Goals.{After-undo}

pub overflow_sub-place : goal.overflow_sub-place
overflow_sub-place c =
    let h = c.self.inside in
    let n = begun-length (first_in h.first h.cycles) (kept_in h.cycles).items in
    let l = kept_in-length h.cycles in
    omega (arith, n, l, c.len.ensures.len, c.self.invariant.cursor)

pub returns-then-kept-eq0-clause-stayed : goal.returns-then-kept-eq0-clause-stayed
returns-then-kept-eq0-clause-stayed c =
    let is = c.kept.ensures.is in
    let none = c.if-kept-eq0.true in
    λ _. (emptied c.args.self.now.before (omega arith), refl)

pub overflow_sub-place-2 : goal.overflow_sub-place-2
overflow_sub-place-2 c =
    let h = c.self.inside in
    let len = c.len.ensures.len in
    let is = c.kept.ensures.is in
    let not_none = c.if-kept-eq0.false in
    let before : 0 < length (view_from (first_in h.first h.cycles) (kept_in h.cycles) h.behind h.memory.items).before =
    subst (λ (v : HistoryView). 0 < length v.before) (sym c.self.view_is) (omega arith) in
    let some = some_before h.first h.cycles h.behind h.memory.items before in
    let l = kept_in-length h.cycles in
    omega arith

pub unwrap-cycle-requires : goal.unwrap-cycle-requires
unwrap-cycle-requires c =
    let h = c.self.inside in
    let len = c.len.ensures.len in
    let is = c.kept.ensures.is in
    let not_none = c.if-kept-eq0.false in
    let before : 0 < length (view_from (first_in h.first h.cycles) (kept_in h.cycles) h.behind h.memory.items).before =
    subst (λ (v : HistoryView). 0 < length v.before) (sym c.self.view_is) (omega arith) in
    let some = some_before h.first h.cycles h.behind h.memory.items before in
    let l = kept_in-length h.cycles in
    let inside : c.len.result - h.behind - 1 < length h.cycles.items = omega arith in
    let there = is_there h.cycles.items (c.len.result - h.behind - 1) inside in
    let copied : IsSome (option_copied c.get.result) = subst (λ (o : Option KeptCycle). IsSome o) (sym c.get.ensures) there in
    search rules

-- a cycle can be gone back over
some : (c : After-undo) → 0 < length (kept_in c.self.inside.cycles).items - c.self.inside.behind
some c =
    let h = c.self.inside in
    let is = c.kept.ensures.is in
    let not_none = c.if-kept-eq0.false in
    some_before h.first h.cycles h.behind h.memory.items (subst (λ (v : HistoryView). 0 < length v.before) (sym c.self.view_is) (omega arith))

-- the kept cycle before the cursor
got : (c : After-undo) →
    slice_get (kept_in c.self.inside.cycles).items (length (kept_in c.self.inside.cycles).items - c.self.inside.behind - 1) ≡ Some c.unwrap-cycle.result.now
got c =
    let h = c.self.inside in
    got_before h.cycles h.behind c.unwrap-cycle.result.now (some c)
    (subst (λ (n : ℕ). slice_get h.cycles.items (n - h.behind - 1) ≡ Some c.unwrap-cycle.result.now) c.len.ensures.len
    (sym c.get.ensures ∙ ap option_copied c.unwrap-cycle.ensures))

pub invariant_of-self : goal.invariant_of-self
invariant_of-self c =
    let made = (goal.at.invariant_of-self c).After-undo in
    let h = c.self.inside in
    let first = first_in h.first h.cycles in
    let cycles = kept_in h.cycles in
    subst (λ (ws : List ℕ). AreKept first cycles (h.behind + 1) ws) (sym c.undo.ensures)
    (placed_back first cycles h.behind h.memory.items c.unwrap-cycle.result.now c.self.invariant (some made) (got made))

pub returns-clause-went : goal.returns-clause-went
returns-clause-went c =
    let made = (goal.at.returns-clause-went c).After-undo in
    let h = c.self.inside in
    let first = first_in h.first h.cycles in
    let cycles = kept_in h.cycles in
    let went = goes_back first cycles h.behind h.memory.items c.unwrap-cycle.result.now c.self.invariant (some made) (got made) in
    λ e.
    subst (λ (v : HistoryView). GoesBack v (view_from first cycles (h.behind + 1) c.undo.new.memory.items)) c.self.view_is
    (subst (λ (ws : List ℕ). GoesBack (view_from first cycles h.behind h.memory.items) (view_from first cycles (h.behind + 1) ws)) (sym c.undo.ensures) went)
