use Rattle.std.proofs.Common.{◌∙◌, sym, ap, arith, length, ℕ, ◌-◌}
use Rattle.mic_rewind.specs.Prelude.{HistoryView, begun_at, first_in, kept_in}
use Rattle.mic_rewind.proofs.Begun.{begun-length}
use Rattle.mic_rewind.proofs.Zipping.{kept-length}
use Rattle.mic_rewind.proofs.history.History.kept.Goals as goal

pub overflow_sub-result : goal.overflow_sub-result
overflow_sub-result c =
    let h = c.self.inside in
    let n = begun-length (first_in h.first h.cycles) (kept_in h.cycles).items in
    omega (arith, n, c.count_in.ensures, c.self.invariant.cursor)

pub returns : goal.returns
returns c =
    let h = c.self.inside in
    let i = c.self.invariant in
    let n = begun-length (first_in h.first h.cycles) (kept_in h.cycles).items in
    record {
      is = ap (λ (n : ℕ). n - h.behind) (c.count_in.ensures ∙ sym n)
          ∙ (sym (kept-length (begun_at (first_in h.first h.cycles) (kept_in h.cycles)) h.behind h.memory.items) ∙ ap (λ (v : HistoryView). length v.before) c.self.view_is);
      most = omega (arith, c.count_in.ensures, n, i.within, i.few);
    }
