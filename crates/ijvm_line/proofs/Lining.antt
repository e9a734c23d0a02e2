-- A line is read as what it spells at its place, and refused by the first refusal that it has.
use Rattle.ijvm_line.proofs.Common.{◌≡◌, List, Option, Some, None, refl, ap, subst, ◌∙◌, Result, Ok, Err, Token, Place, Form, Content, LineFault}
use Rattle.ijvm_line.specs.declared.line.LineFault.TheVariants as faults
use Rattle.ijvm_line.specs.Prelude.{IsForm, form_of, line_from, said_by, IsRefused, content_of, SpellsLine}
use Rattle.ijvm_line.proofs.Forming.{form_again, form_is}
use Rattle.ijvm_line.proofs.Ranging.{no_bad_line}

-- what the outcome says
Says : Place → List Token → Result Content LineFault → Type 0
Says p ts (Ok l) = SpellsLine p ts l
Says p ts (Err e) = IsRefused p ts e

line_says : (p : Place) (ts : List Token) → Says p ts (line_from p ts)
unfolding Says line_from
line_says p ts = by_form (form_of p ts) refl
  where
    by_content : (f : Form) (r : Result Content LineFault) → IsForm p ts f → content_of f ≡ r → Says p ts r
    by_content f (Ok l) is e = record { form = f; has = is; says = e }
    by_content f (Err faults.BadLine) is e = absurd (no_bad_line f e)
    by_content f (Err faults.BadNumber) is e = (f, is, e)
    by_content f (Err faults.OutOfRange) is e = (f, is, e)

    by_form : (o : Option Form) → form_of p ts ≡ o → Says p ts (said_by o)
    by_form None e = λ f is. absurd (let k = form_again p ts f is in cc)
    by_form (Some f) e = by_content f (content_of f) (form_is p ts f e) refl

pub line_spells : (p : Place) (ts : List Token) (l : Content) → line_from p ts ≡ Ok l → SpellsLine p ts l
unfolding Says
line_spells p ts l h = subst (Says p ts) h (line_says p ts)

pub line_refused : (p : Place) (ts : List Token) (e : LineFault) → line_from p ts ≡ Err e → IsRefused p ts e
unfolding Says
line_refused p ts e h = subst (Says p ts) h (line_says p ts)

pub spells_line : (p : Place) (ts : List Token) (l : Content) → SpellsLine p ts l → line_from p ts ≡ Ok l
unfolding line_from
spells_line p ts l s = ap said_by (form_again p ts s.form s.has) ∙ s.says

pub refused_line : (p : Place) (ts : List Token) (e : LineFault) → IsRefused p ts e → line_from p ts ≡ Err e
unfolding line_from
refused_line p ts faults.BadLine r = by_form (form_of p ts) refl
  where
    by_form : (o : Option Form) → form_of p ts ≡ o → said_by o ≡ Err faults.BadLine
    by_form None e = refl
    by_form (Some f) e = absurd (r f (form_is p ts f e))
refused_line p ts faults.BadNumber (f, is, e) = ap said_by (form_again p ts f is) ∙ e
refused_line p ts faults.OutOfRange (f, is, e) = ap said_by (form_again p ts f is) ∙ e
