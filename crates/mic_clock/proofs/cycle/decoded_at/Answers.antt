use Rattle.mic_clock.proofs.Common.{ℕ, subst, sym, AreLines, fields_of}
use Rattle.mic_clock.proofs.cycle.decoded_at.Goals as goal

pub returns-clause-decoded : goal.returns-clause-decoded
returns-clause-decoded c =
    let machine = c.args.store.now.machine in
    record {
      canonical = c.word.ensures.canonical;
      decoded = subst (λ (w : ℕ). AreLines machine (fields_of machine w) c.lines_at.result.now) (sym c.word.ensures.value) c.lines_at.ensures;
    }
