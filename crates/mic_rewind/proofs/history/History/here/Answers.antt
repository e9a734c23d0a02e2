use Rattle.std.proofs.Common.{rules, ◌≡◌, ◌∙◌, sym, ap, subst, ℕ, suc, ◌-◌, ◌<◌, ◌≤◌, length, arith, Option, Some, option_copied, slice_get}
use Rattle.mic_rewind.proofs.Common.{IsSome, KeptCycle, led_from, HistoryView, first_in, kept_in}
use Rattle.std.specs.Prelude.{take}
use Rattle.mic_rewind.proofs.Begun.{begun-length, led-get}
use Rattle.mic_rewind.proofs.Spare.{kept_in-length, moment_in}
use Rattle.mic_rewind.proofs.Zipping.{is_there}
use Rattle.mic_rewind.proofs.history.History.here.Goals as goal

pub overflow_sub-place : goal.overflow_sub-place
overflow_sub-place c =
    let h = c.self.inside in
    let n = begun-length (first_in h.first h.cycles) (kept_in h.cycles).items in
    let l = kept_in-length h.cycles in
    omega (arith, n, l, c.len.ensures.len, c.self.invariant.cursor)

pub returns-then-place-eq0 : goal.returns-then-place-eq0
returns-then-place-eq0 c =
    let h = c.self.inside in
    let n = begun-length (first_in h.first h.cycles) (kept_in h.cycles).items in
    let cursor : h.behind ≤ length (kept_in h.cycles).items = omega (arith, n, c.self.invariant.cursor) in
    let len = c.len.ensures.len in
    let none = c.if-place-eq0.true in
    let k : length h.cycles.items - h.behind ≡ 0 = omega arith in
    sym (ap (λ (n : ℕ). led_from h.first (take n h.cycles.items)) k)
    ∙ (sym (moment_in h.first h.cycles h.behind cursor) ∙ ap (λ (v : HistoryView). v.here.moment) c.self.view_is)

pub unwrap-requires : goal.unwrap-requires
unwrap-requires c =
    let h = c.self.inside in
    let len = c.len.ensures.len in
    let some : 0 < c.len.result - h.behind = omega arith in
    let inside : c.len.result - h.behind - 1 < length h.cycles.items = omega arith in
    let there = is_there h.cycles.items (c.len.result - h.behind - 1) inside in
    let copied : IsSome (option_copied c.get.result) = subst (λ (o : Option KeptCycle). IsSome o) (sym c.get.ensures) there in
    search rules

pub returns : goal.returns
returns c =
    let h = c.self.inside in
    let cycle = c.unwrap.result.now in
    let len = c.len.ensures.len in
    let n = begun-length (first_in h.first h.cycles) (kept_in h.cycles).items in
    let cursor : h.behind ≤ length (kept_in h.cycles).items = omega (arith, n, c.self.invariant.cursor) in
    let got : slice_get h.cycles.items (length h.cycles.items - h.behind - 1) ≡ Some cycle =
    subst (λ (n : ℕ). slice_get h.cycles.items (n - h.behind - 1) ≡ Some cycle) len (sym c.get.ensures ∙ ap option_copied c.unwrap.ensures) in
    let some : 0 < c.len.result - h.behind = omega arith in
    let k : suc (length h.cycles.items - h.behind - 1) ≡ length h.cycles.items - h.behind = omega arith in
    sym (led-get h.first h.cycles.items (length h.cycles.items - h.behind - 1) cycle got)
    ∙ (ap (λ (n : ℕ). led_from h.first (take n h.cycles.items)) k
    ∙ (sym (moment_in h.first h.cycles h.behind cursor) ∙ ap (λ (v : HistoryView). v.here.moment) c.self.view_is))
