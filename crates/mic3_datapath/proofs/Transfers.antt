-- An access of a word that retires, without a fetch.
use Rattle.mic3_datapath.proofs.Common.{◌≡◌, ◌∙◌, ℕ, false, List, Option, refl, ap, IsLed, BusView, World, Mem, IsAccess, IsTransfer, sampled, written, Ports}
use Rattle.micro_word.specs.declared.statement.Mem.TheVariants as mems

words_stay : (n : ℕ) (mem : Mem) (p : Ports) (w : World) → (sampled n mem p w).words ≡ w.words
words_stay n mems.Read p w = refl
words_stay n mems.Write p w = refl
words_stay n mems.None p w = refl

-- accesses without a fetch are a write or a read
pub led_alone : (left held : Option (List ℕ)) (bus : BusView) (left' held' : Option (List ℕ)) (bus' : BusView) (n : ℕ) (mem : Mem) (p : Ports) (word byte : Option ℕ) →
    IsLed left held bus left' held' bus' (λ w v. IsAccess n mem false p w word byte v) → IsLed left held bus left' held' bus' (λ w v. IsTransfer n mem p w word v)
led_alone left held bus left' held' bus' n mem p word byte led rest fits =
    let l = led rest fits in (
      l.0,
      l.1,
      λ w shows same.
          let to = l.2 w shows same in (
            to.0,
            record {
              its_word = to.1.its_word;
              after = to.1.after;
              words = ap (λ (v : World). v.words) to.1.after ∙ words_stay n mem p (written n mem p w);
            },
            to.2,
            to.3,
          ),
    )
