use Rattle.std.proofs.Common.{◌∙◌, sym, ap, arith, length}
use Rattle.mic_rewind.specs.Prelude.{HistoryView, begun_at, first_in, kept_in}
use Rattle.mic_rewind.proofs.Zipping.{behind-length}
use Rattle.mic_rewind.proofs.history.History.behind.Goals as goal

pub returns : goal.returns
returns c =
    let h = c.self.inside in
    let i = c.self.invariant in
    record {
      is = sym (behind-length (begun_at (first_in h.first h.cycles) (kept_in h.cycles)) h.behind h.memory.items i.cursor) ∙ ap (λ (v : HistoryView). length v.after) c.self.view_is;
      most = omega (arith, i.cursor, i.within, i.few);
    }
