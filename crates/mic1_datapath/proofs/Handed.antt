-- What a cycle has driven and computed before its edge, as the parts of a word say it.
use Rattle.mic1_datapath.proofs.Common.{◌≡◌, ℕ, ap, sym, ◌∙◌, shifted, statement_of, Computed, Drive, HasComputed, Micro, computed, driven, source}
use Rattle.mic_words.specs.declared.machine.Machine.TheVariants as machines

pub drove_b : (word : ℕ) (m : Micro) (d : Drive) → d ≡ driven word m → d.b ≡ source (statement_of machines.Mic1 word).part.b m
unfolding driven
drove_b word m d is = ap (λ (x : Drive). x.b) is

pub has_computed : (word : ℕ) (m : Micro) (v : Computed) → v ≡ computed word m → HasComputed word m v.alu.value v.c
unfolding computed
has_computed word m v is =
    record {
      value_is = ap (λ (x : Computed). x.alu.value) is;
      c_is = ap (λ (x : Computed). x.c) is ∙ sym (ap (λ (x : Computed). shifted (statement_of machines.Mic1 word).part.shift x.alu.value) is);
    }
