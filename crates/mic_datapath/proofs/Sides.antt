-- An operation that does not use side B finds 0 there.
use Rattle.mic_datapath.proofs.Common.{◌≡◌, ℕ, ◌/◌, ◌%◌, ◌==◌, Bool, true, false, IsTrue, Option, Some, None, refl, sym, ap, ◌∙◌, fits_side, row, AluOp}
use Rattle.mic_datapath.proofs.Common.{BusSource, enabled}
use Rattle.micro_word.specs.declared.statement.AluOp.TheVariants as ops

-- ENB is on for the operations that use side B
enb : (op : AluOp) → ((row op).gates / 4 % 2 == 1) ≡ (row op).uses_b
enb ops.A = refl
enb _ = refl

by_use : (used : Bool) (may : BusSource → Bool) (b : Option BusSource) (x : ℕ) → IsTrue (fits_side used may b) → (b ≡ None → x ≡ 0) → enabled used x ≡ x
by_use true may b x h zero = refl
by_use false may None x h zero = sym (zero refl)
by_use false may (Some s) x h zero = absurd (cc)

pub side_passes : (op : AluOp) (may : BusSource → Bool) (b : Option BusSource) (x : ℕ) →
    IsTrue (fits_side (row op).uses_b may b) → (b ≡ None → x ≡ 0) → enabled ((row op).gates / 4 % 2 == 1) x ≡ x
side_passes op may b x h zero = ap (λ (on : Bool). enabled on x) (enb op) ∙ by_use (row op).uses_b may b x h zero
