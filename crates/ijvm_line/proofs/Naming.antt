-- A text is read as the word that it spells, in letters of any case.
use Rattle.ijvm_line.proofs.Common.{◌≡◌, ℕ, List, Option, Some, Bool, true, false, refl, sym, ap, ◌∙◌, inl, inr, codes, if◌then◌else◌, find, option_and_then}
use Rattle.ijvm_line.proofs.Common.{bytes_eq, str_eq_ignore_ascii_case, str_to_ascii_lowercase, bytes_eq-Decides, option_and_then_some, chosen, find_passes}
use Rattle.ijvm_line.proofs.Common.{Instr, INSTRUCTIONS, mnemonic_of, Kind}
use Rattle.ijvm_instr.specs.declared.instr.Instr.TheVariants as instrs
use Rattle.ijvm_line.specs.declared.mnemonic.Kind.TheVariants as kinds
use Rattle.ijvm_line.specs.Prelude.{find_kind, IsOfKind, IsSpelled, kind_of, spelled_in}

-- the kind of a text in lower case
by_lower : List ℕ → Option Kind
by_lower lower =
    if bytes_eq (str_to_ascii_lowercase (codes "WIDE")) lower then Some kinds.Wide
    else option_and_then kind_of (find (λ i. bytes_eq (str_to_ascii_lowercase (mnemonic_of i)) lower) INSTRUCTIONS)

again : (i : Instr) → by_lower (str_to_ascii_lowercase (mnemonic_of i)) ≡ kind_of i
unfolding by_lower
again instrs.Nop = refl
again _ = refl

pub kind_again : (text : List ℕ) (kind : Kind) → IsOfKind text kind → find_kind text ≡ Some kind
unfolding by_lower
kind_again text kind (inl (spelled, e)) = ap by_lower (sym spelled) ∙ ap Some (sym e)
kind_again text kind (inr (i, spelled, e)) = ap by_lower (sym spelled) ∙ (again i ∙ e)

spelled_by : (word text : List ℕ) → str_eq_ignore_ascii_case word text ≡ true → IsSpelled word text
spelled_by word text h = (bytes_eq-Decides (str_to_ascii_lowercase word) (str_to_ascii_lowercase text)).0 h

pub kind_is : (text : List ℕ) (kind : Kind) → find_kind text ≡ Some kind → IsOfKind text kind
kind_is text kind h =
    elim (chosen (str_eq_ignore_ascii_case (codes "WIDE") text) (Some kinds.Wide) (option_and_then kind_of (spelled_in INSTRUCTIONS text)) (Some kind) h) [
      | inl w ↦ inl (spelled_by (codes "WIDE") text w.0, let e = w.1 in cc)
      | inr w ↦
          option_and_then_some kind_of (spelled_in INSTRUCTIONS text) kind w.1
          (λ i at is. inr (i, spelled_by (mnemonic_of i) text (find_passes (λ i. str_eq_ignore_ascii_case (mnemonic_of i) text) INSTRUCTIONS i at), is))
    ]

-- the kind of a word that is not WIDE
pub kind_else : (wide : Bool) (named : Option Instr) → wide ≡ false → option_and_then kind_of named ≡ (if wide then Some kinds.Wide else option_and_then kind_of named)
kind_else true named h = absurd (cc)
kind_else false named h = refl
