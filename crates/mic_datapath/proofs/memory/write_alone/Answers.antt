use Rattle.mic_datapath.proofs.Common.{Bool, length, refl, subst, sym, Untaken, after_write}
use Rattle.mic_datapath.proofs.memory.write_alone.Goals as goal

pub returns-clause-access : goal.returns-clause-access
returns-clause-access c =
    let n = length c.args.bus.now.words in
    let does = c.write_here.ensures in
    λ done p mar mdr left held rest fits. (
      rest,
      subst (λ (ended : Bool). Untaken left ended rest) does.others.1 fits,
      λ w shows same. (
        after_write n w c.args.mar c.args.mdr,
        record { its_word = refl; its_byte = refl; after = λ i. after_write n w (sym mar i) (sym mdr i) },
        does.shows done left held w shows,
        same,
      ),
    )
