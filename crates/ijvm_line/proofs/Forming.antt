-- A line is read as the form that its tokens have at its place.
use Rattle.ijvm_line.proofs.Common.{◌≡◌, ℕ, List, [], ◌∷◌, true, Option, Some, None, refl, ap, subst, ◌∙◌, inl, inr, ◌&&◌, option_map, and_parts, chosen}
use Rattle.ijvm_line.proofs.Common.{mapped, Sign, Token, Place, Mark, Statement, Form}
use Rattle.ijvm_tokens.specs.declared.sign.Sign.TheVariants as signs
use Rattle.ijvm_tokens.specs.declared.token.Token.TheVariants as tokens
use Rattle.ijvm_line.specs.declared.place.Place.TheVariants as places
use Rattle.ijvm_line.specs.declared.place.Mark.TheVariants as marks
use Rattle.ijvm_line.specs.declared.form.Form.TheVariants as forms
use Rattle.ijvm_line.specs.Prelude.{method_tokens, code, constant_of, form_of, is_list, is_open, labelled, local_of, mark_at, mark_of, method_of, named, signed, statement_of, unlabelled, with_label, mark_place, mark_sign, IsCode, IsForm}
use Rattle.ijvm_line.proofs.Listing.{list_again, list_is}
use Rattle.ijvm_line.proofs.Stating.{no_sign, statement_again, statement_is}

-- ---- what is read has the form

mark_is : (p : Place) (s : Sign) (m : Mark) → mark_of p s ≡ Some m → (p ≡ mark_place m) × (tokens.Sign s ∷ [] ≡ tokens.Sign (mark_sign m) ∷ [])
mark_is places.Outside signs.Constant m h = let k : marks.BeginConstants ≡ m = cc in subst (λ m. (places.Outside ≡ mark_place m) × (tokens.Sign signs.Constant ∷ [] ≡ tokens.Sign (mark_sign m) ∷ [])) k (refl, refl)
mark_is places.Outside signs.Main m h = let k : marks.BeginMain ≡ m = cc in subst (λ m. (places.Outside ≡ mark_place m) × (tokens.Sign signs.Main ∷ [] ≡ tokens.Sign (mark_sign m) ∷ [])) k (refl, refl)
mark_is places.Constants signs.EndConstant m h = let k : marks.EndConstants ≡ m = cc in subst (λ m. (places.Constants ≡ mark_place m) × (tokens.Sign signs.EndConstant ∷ [] ≡ tokens.Sign (mark_sign m) ∷ [])) k (refl, refl)
mark_is places.Locals signs.EndVar m h = let k : marks.EndLocals ≡ m = cc in subst (λ m. (places.Locals ≡ mark_place m) × (tokens.Sign signs.EndVar ∷ [] ≡ tokens.Sign (mark_sign m) ∷ [])) k (refl, refl)
mark_is places.Code signs.EndMain m h = let k : marks.EndMain ≡ m = cc in subst (λ m. (places.Code ≡ mark_place m) × (tokens.Sign signs.EndMain ∷ [] ≡ tokens.Sign (mark_sign m) ∷ [])) k (refl, refl)
mark_is places.Code signs.EndMethod m h = let k : marks.EndMethod ≡ m = cc in subst (λ m. (places.Code ≡ mark_place m) × (tokens.Sign signs.EndMethod ∷ [] ≡ tokens.Sign (mark_sign m) ∷ [])) k (refl, refl)
mark_is places.Code signs.Var m h = let k : marks.BeginLocals ≡ m = cc in subst (λ m. (places.Code ≡ mark_place m) × (tokens.Sign signs.Var ∷ [] ≡ tokens.Sign (mark_sign m) ∷ [])) k (refl, refl)
mark_is _ _ m h = absurd (cc)

mark_form : (p : Place) (s : Sign) (rest : List Token) (f : Form) → mark_at p s rest ≡ Some f → IsForm p (tokens.Sign s ∷ rest) f
mark_form p s [] f h =
    let m = mapped (λ mark. forms.Mark mark) (mark_of p s) f h in
    subst (IsForm p (tokens.Sign s ∷ [])) m.2 (mark_is p s m.0 m.1)
mark_form p s (t ∷ more) f h = absurd (cc)

open_is : (t : Token) → is_open t ≡ true → t ≡ tokens.Sign signs.Open
open_is (tokens.Sign signs.Open) h = refl
open_is _ h = absurd (cc)

method_form : (rest : List Token) (f : Form) → method_of rest ≡ Some f → IsForm places.Outside (tokens.Sign signs.Method ∷ rest) f
method_form (tokens.Name n ∷ t ∷ list) f h = elim (chosen (is_open t && is_list list) (Some (forms.Method n)) None (Some f) h) [
  | inl w ↦
      let p = and_parts (is_open t) (is_list list) w.0 in
      let ps = list_is list p.1 in
      let z = w.1 in
      let k : forms.Method n ≡ f = cc in
      subst (IsForm places.Outside (tokens.Sign signs.Method ∷ tokens.Name n ∷ t ∷ list)) k
      (refl, (ps.0, ap (λ t. tokens.Sign signs.Method ∷ tokens.Name n ∷ t ∷ list) (open_is t p.0) ∙ ap (λ r. tokens.Sign signs.Method ∷ tokens.Name n ∷ tokens.Sign signs.Open ∷ r) ps.1))
  | inr w ↦ absurd (let z = w.1 in cc)
]
method_form _ f h = absurd (cc)

sign_form : (p : Place) (s : Sign) (rest : List Token) (f : Form) → signed p s rest ≡ Some f → IsForm p (tokens.Sign s ∷ rest) f
sign_form places.Outside signs.Method rest f h = method_form rest f h
sign_form p s rest f h = mark_form p s rest f h

constant_form : (n : List ℕ) (rest : List Token) (f : Form) → constant_of n rest ≡ Some f → IsForm places.Constants (tokens.Name n ∷ rest) f
constant_form n (tokens.Number v ∷ []) f h = let k : forms.Constant n v ≡ f = cc in subst (IsForm places.Constants (tokens.Name n ∷ tokens.Number v ∷ [])) k (refl, refl)
constant_form n _ f h = absurd (cc)

local_form : (n : List ℕ) (rest : List Token) (f : Form) → local_of n rest ≡ Some f → IsForm places.Locals (tokens.Name n ∷ rest) f
local_form n [] f h = let k : forms.Local n ≡ f = cc in subst (IsForm places.Locals (tokens.Name n ∷ [])) k (refl, refl)
local_form n (t ∷ more) f h = absurd (cc)

label_form : (n : List ℕ) (rest : List Token) (f : Form) → labelled n rest ≡ Some f → IsForm places.Code (tokens.Name n ∷ tokens.Sign signs.Colon ∷ rest) f
label_form n [] f h = let k : forms.Code (Some n) None ≡ f = cc in subst (IsForm places.Code (tokens.Name n ∷ tokens.Sign signs.Colon ∷ [])) k (refl, refl)
label_form n (t ∷ more) f h =
    let p = mapped (λ s. forms.Code (Some n) (Some s)) (statement_of (t ∷ more)) f h in
    subst (IsForm places.Code (tokens.Name n ∷ tokens.Sign signs.Colon ∷ t ∷ more)) p.2 (refl, (t ∷ more, refl, statement_is (t ∷ more) p.0 p.1))

plain_form : (ts : List Token) (f : Form) → unlabelled ts ≡ Some f → IsForm places.Code ts f
plain_form ts f h =
    let p = mapped (λ s. forms.Code None (Some s)) (statement_of ts) f h in
    subst (IsForm places.Code ts) p.2 (refl, statement_is ts p.0 p.1)

code_form : (n : List ℕ) (rest : List Token) (f : Form) → code n (tokens.Name n ∷ rest) ≡ Some f → IsForm places.Code (tokens.Name n ∷ rest) f
code_form n (tokens.Sign signs.Colon ∷ rest) f h = label_form n rest f h
code_form n rest f h = plain_form (tokens.Name n ∷ rest) f h

name_form : (p : Place) (n : List ℕ) (rest : List Token) (f : Form) → named p n (tokens.Name n ∷ rest) rest ≡ Some f → IsForm p (tokens.Name n ∷ rest) f
name_form places.Outside n rest f h = absurd (cc)
name_form places.Constants n rest f h = constant_form n rest f h
name_form places.Locals n rest f h = local_form n rest f h
name_form places.Code n rest f h = code_form n rest f h

pub form_is : (p : Place) (ts : List Token) (f : Form) → form_of p ts ≡ Some f → IsForm p ts f
form_is p [] f h = let k : forms.Nothing ≡ f = cc in subst (IsForm p []) k refl
form_is p (tokens.Sign s ∷ rest) f h = sign_form p s rest f h
form_is p (tokens.Name n ∷ rest) f h = name_form p n rest f h
form_is p (tokens.Number v ∷ rest) f h = absurd (cc)

-- ---- what has the form is read

mark_again : (m : Mark) → form_of (mark_place m) (tokens.Sign (mark_sign m) ∷ []) ≡ Some (forms.Mark m)
mark_again m = elim m as (λ m. form_of (mark_place m) (tokens.Sign (mark_sign m) ∷ []) ≡ Some (forms.Mark m)) [
  | marks.BeginConstants ↦ refl
  | _ ↦ refl
]

method_again : (n : List ℕ) (ps : List (List ℕ)) → form_of places.Outside (method_tokens n ps) ≡ Some (forms.Method n)
method_again n ps = rw (list_again ps) refl

plain_again : (ts : List Token) (st : Statement) → statement_of ts ≡ Some st → form_of places.Code ts ≡ Some (forms.Code None (Some st))
plain_again [] st h = absurd (cc)
plain_again (tokens.Sign s ∷ rest) st h = absurd (cc)
plain_again (tokens.Number v ∷ rest) st h = absurd (cc)
plain_again (tokens.Name n ∷ tokens.Sign signs.Colon ∷ more) st h = absurd (let k = no_sign n signs.Colon more in cc)
plain_again (tokens.Name n ∷ rest) st h = ap (option_map (λ s. forms.Code None (Some s))) h

labelled_again : (n : List ℕ) (rest : List Token) (st : Statement) → statement_of rest ≡ Some st → labelled n rest ≡ Some (forms.Code (Some n) (Some st))
labelled_again n [] st h = absurd (cc)
labelled_again n (t ∷ more) st h = ap (with_label n) h

code_again : (ts : List Token) (label : Option (List ℕ)) (st : Option Statement) → IsCode ts label st → form_of places.Code ts ≡ Some (forms.Code label st)
code_again ts None None is = absurd is
code_again ts None (Some st) is = plain_again ts st (statement_again ts st is)
code_again ts (Some l) None e = ap (form_of places.Code) e
code_again ts (Some l) (Some st) (rest, e, is) = ap (form_of places.Code) e ∙ labelled_again l rest st (statement_again rest st is)

pub form_again : (p : Place) (ts : List Token) (f : Form) → IsForm p ts f → form_of p ts ≡ Some f
form_again p ts forms.Nothing e = ap (form_of p) e
form_again p ts (forms.Mark m) (at, e) = ap (λ p. form_of p ts) at ∙ (ap (form_of (mark_place m)) e ∙ mark_again m)
form_again p ts (forms.Method n) (at, (ps, e)) = ap (λ p. form_of p ts) at ∙ (ap (form_of places.Outside) e ∙ method_again n ps)
form_again p ts (forms.Constant n v) (at, e) = ap (λ p. form_of p ts) at ∙ ap (form_of places.Constants) e
form_again p ts (forms.Local n) (at, e) = ap (λ p. form_of p ts) at ∙ ap (form_of places.Locals) e
form_again p ts (forms.Code label st) (at, is) = ap (λ p. form_of p ts) at ∙ code_again ts label st is
