-- A line is refused exactly where it does not fit after the lines before it, for the reason that it has.
use Rattle.ijvm_asm.proofs.Common.{◌≡◌, ℕ, ◌+◌, Bool, true, false, List, [], ◌∷◌, ◌++◌, Option, Some, None, length, refl, ap, sym, subst, ◌∙◌, inl, inr, cond}
use Rattle.ijvm_asm.proofs.Common.{◌||◌, not, Result, Ok, Err, is_some, IsSome, nat_le, nat_lt, most_names, Mark, Instruction, AsmError}
use Rattle.ijvm_line.specs.declared.place.Mark.TheVariants as marks
use Rattle.ijvm_line.specs.declared.place.Place.TheVariants as places
use Rattle.source_text.specs.Places as names
use Rattle.ijvm_asm.specs.declared.error.AsmError.TheVariants as errors
use Rattle.ijvm_asm.specs.Prelude.{BlankAt, Codes, Declares, Defines, Dotted, Heads, place_of, Said, DraftView, empty, Source, add_line, add_mark, gather, is_declared, method_by, with_unit, IsMisfit, IsReason, names_following, open_names}
use Rattle.ijvm_asm.proofs.Building.{Build}
use Rattle.ijvm_asm.proofs.Conditions.{if_ok, ok, ok_if}
use Rattle.ijvm_asm.proofs.Fronts.{fits, fitting, stands_at}
use Rattle.ijvm_asm.proofs.Mains.{main_ended, main_opened}
use Rattle.ijvm_asm.proofs.Methods.{begins, ended, gathered, gathers, opened}
use Rattle.ijvm_asm.proofs.Units.{after, line_made, with_both, with_local}

-- ---- the names of the open unit

names_after : (k : ℕ) (s : Source) (l : Option (List ℕ)) (i : Option Instruction) → (after k s l i).unit.names ≡ s.unit.names
names_after k s None None = refl
names_after k s None (Some i) = refl
names_after k s (Some l) None = refl
names_after k s (Some l) (Some i) = refl

names_of : (w u : Source) (ns : List (List ℕ)) → ok w ≡ ok u → w.unit.names ≡ ns → u.unit.names ≡ ns
names_of w u ns e h = let q : w ≡ u = cc in ap (λ x. x.unit.names) (sym q) ∙ h

mark_names : (k : ℕ) (s u : Source) (m : Mark) → add_mark k s m ≡ Ok u → u.unit.names ≡ names_following s.unit.names (Dotted m)
mark_names k s u marks.BeginConstants h =
    names_of (record s { place = places.Constants; section = k; seen_constants = true }) u s.unit.names
    (if_ok s.seen_constants (errors.BadLine k) (ok (record s { place = places.Constants; section = k; seen_constants = true })) u h).1 refl
mark_names k s u marks.EndConstants h = names_of (record s { place = places.Outside }) u s.unit.names h refl
mark_names k s u marks.BeginMain h = names_of (main_opened k s) u [] (if_ok s.seen_main (errors.BadLine k) (ok (main_opened k s)) u h).1 refl
mark_names k s u marks.EndMain h = names_of (main_ended s) u [] (if_ok (is_some s.unit.name || s.unit.pending) (errors.BadLine k) (ok (main_ended s)) u h).1 refl
mark_names k s u marks.EndMethod h = names_of (ended s) u [] (if_ok (not (is_some s.unit.name) || s.unit.pending) (errors.BadLine k) (ok (ended s)) u h).1 refl
mark_names k s u marks.BeginLocals h =
    names_of (record s { place = places.Locals; inner = k; may_declare = false }) u s.unit.names
    (if_ok (not s.may_declare) (errors.BadLine k) (ok (record s { place = places.Locals; inner = k; may_declare = false })) u h).1 refl
mark_names k s u marks.EndLocals h = names_of (record s { place = places.Code }) u s.unit.names h refl

line_names : (k : ℕ) (s u : Source) (x : Said) → add_line k s x ≡ Ok u → u.unit.names ≡ names_following s.unit.names x
line_names k s u (BlankAt p) h = names_of s u s.unit.names h refl
line_names k s u (Dotted m) h = mark_names k s u m h
line_names k s u (Heads n ps) h =
    let i = if_ok (is_declared s n) (errors.DuplicateName k) (method_by k s n (gather [] ps)) u h in
    names_of (opened k s n ps) u ps (begins k s u n ps (gather [] ps) refl i.1).2 refl
line_names k s u (Defines n v) h =
    names_of (record s { constants = s.constants ++ n ∷ []; values = s.values ++ v ∷ [] }) u s.unit.names
    (if_ok (is_declared s n) (errors.DuplicateName k) (ok (record s { constants = s.constants ++ n ∷ []; values = s.values ++ v ∷ [] })) u h).1 refl
line_names k s u (Declares n) h =
    let b = with_both (λ w. record s { unit = w }) (is_some (names.place_of_name s.unit.names n)) (nat_le most_names (length s.unit.names)) (record s.unit { names = s.unit.names ++ n ∷ [] }) (errors.DuplicateName k) (errors.TooManyNames k) u h in
    names_of (with_local s n) u (s.unit.names ++ n ∷ []) b.2 refl
line_names k s u (Codes l i) h = names_of (after k s l i) u s.unit.names (line_made k s u l i h).1 (names_after k s l i)

names_are : (xs : List Said) (k : ℕ) (s t : Source) → Build k s xs t → t.unit.names ≡ open_names s.unit.names xs
names_are [] k s t e = ap (λ w. w.unit.names) (sym e)
names_are (x ∷ xs) k s t (u, p, h, more) = names_are xs (k + 1) u t more ∙ ap (λ ns. open_names ns xs) (line_names k s u x h)

-- ---- reasons

if_err : {A : Type 0} (b : Bool) (f e : AsmError) (a : A) → cond b (Err f) (ok a) ≡ Err e → e ≡ f
if_err true f e a h = cc
if_err false f e a h = absurd (cc)

mark_reason : (k : ℕ) (s : Source) (m : Mark) (e : AsmError) → add_mark k s m ≡ Err e → e ≡ errors.BadLine k
mark_reason k s marks.BeginConstants e h = if_err s.seen_constants (errors.BadLine k) e _ h
mark_reason k s marks.EndConstants e h = absurd (cc)
mark_reason k s marks.BeginMain e h = if_err s.seen_main (errors.BadLine k) e _ h
mark_reason k s marks.EndMain e h = if_err (is_some s.unit.name || s.unit.pending) (errors.BadLine k) e _ h
mark_reason k s marks.EndMethod e h = if_err (not (is_some s.unit.name) || s.unit.pending) (errors.BadLine k) e _ h
mark_reason k s marks.BeginLocals e h = if_err (not s.may_declare) (errors.BadLine k) e _ h
mark_reason k s marks.EndLocals e h = absurd (cc)

with_err : (f : DraftView → Source) (b : Bool) (g e : AsmError) (v : DraftView) → with_unit f (cond b (Err g) (Ok v)) ≡ Err e → e ≡ g
with_err f true g e v h = cc
with_err f false g e v h = absurd (cc)

code_reason : (k : ℕ) (s : Source) (l : Option (List ℕ)) (i : Option Instruction) (e : AsmError) → add_line k s (Codes l i) ≡ Err e → e ≡ errors.DuplicateName k
code_reason k s None i e h = absurd (cc)
code_reason k s (Some l) i e h = with_err _ (is_some (names.place_of_name s.unit.labels l)) (errors.DuplicateName k) e _ h

module _ (xs : List Said) (s : Source) (b : Build 1 empty xs s) where
  abbrev k : ℕ
  k = 1 + length xs

  local_reason : (n : List ℕ) (e : AsmError) → add_line k s (Declares n) ≡ Err e → IsReason k xs (Declares n) e
  local_reason n e h = go (names.place_of_name s.unit.names n) (nat_le most_names (length s.unit.names)) refl h
    where
      same : s.unit.names ≡ open_names [] xs
      same = names_are xs 1 empty s b

      go : (o : Option ℕ) (w : Bool) → names.place_of_name s.unit.names n ≡ o
          → with_unit (λ u. record s { unit = u }) (cond (is_some o) (Err (errors.DuplicateName k)) (cond w (Err (errors.TooManyNames k)) (Ok (record s.unit { names = s.unit.names ++ n ∷ [] })))) ≡ Err e
          → IsReason k xs (Declares n) e
      go (Some i) w f h = inl (cc, subst (λ ns. IsSome (names.place_of_name ns n)) same (subst IsSome (sym f) refl))
      go None true f h = inr (cc, subst (λ ns. names.place_of_name ns n ≡ None) same f)
      go None false f h = absurd (cc)

  method_reason : (n : List ℕ) (ps : List (List ℕ)) (e : AsmError) → s.place ≡ places.Outside → add_line k s (Heads n ps) ≡ Err e → IsReason k xs (Heads n ps) e
  method_reason n ps e at h = go (is_declared s n) refl h
    where
      by_list : (o : Option (List (List ℕ))) → is_declared s n ≡ false → gather [] ps ≡ o → method_by k s n o ≡ Err e → IsReason k xs (Heads n ps) e
      by_list None new f h = inl (cc, inr (λ a. absurd (let g = gathers ps [] a in cc)))
      by_list (Some qs) new f h = inr (
        if_err (nat_lt most_names (length qs)) (errors.TooManyNames k) e (opened k s n qs) h,
        fits xs s b (Heads n []) (opened k s n []) at (ok_if (is_declared s n) (errors.DuplicateName k) (ok (opened k s n [])) new),
        (gathered ps [] qs f).0,
      )

      go : (d : Bool) → is_declared s n ≡ d → cond d (Err (errors.DuplicateName k)) (method_by k s n (gather [] ps)) ≡ Err e → IsReason k xs (Heads n ps) e
      go true f h = inl (cc, inl (λ w. let g = fitting xs s b (Heads n []) w in let i = if_ok (is_declared s n) (errors.DuplicateName k) (ok (opened k s n [])) g.0 g.2 in absurd (let z = i.0 in cc)))
      go false f h = by_list (gather [] ps) f refl h

  reason_is : (x : Said) (e : AsmError) → s.place ≡ place_of x → add_line k s x ≡ Err e → IsReason k xs x e
  reason_is (BlankAt p) e at h = absurd (cc)
  reason_is (Dotted m) e at h = mark_reason k s m e h
  reason_is (Heads n ps) e at h = method_reason n ps e at h
  reason_is (Defines n v) e at h = if_err (is_declared s n) (errors.DuplicateName k) e _ h
  reason_is (Declares n) e at h = local_reason n e h
  reason_is (Codes l i) e at h = code_reason k s l i e h

  reason_same : (x : Said) (e f : AsmError) → IsReason k xs x e → IsReason k xs x f → e ≡ f
  reason_same (BlankAt p) e f v w = absurd v
  reason_same (Dotted m) e f v w = v ∙ sym w
  reason_same (Heads n ps) e f (inl v) (inl w) = v.0 ∙ sym w.0
  reason_same (Heads n ps) e f (inr v) (inr w) = v.0 ∙ sym w.0
  reason_same (Heads n ps) e f (inl (q, inl none)) (inr w) = absurd (none w.1)
  reason_same (Heads n ps) e f (inl (q, inr twice)) (inr w) = absurd (twice w.2)
  reason_same (Heads n ps) e f (inr w) (inl (q, inl none)) = absurd (none w.1)
  reason_same (Heads n ps) e f (inr w) (inl (q, inr twice)) = absurd (twice w.2)
  reason_same (Defines n v) e f a c = a ∙ sym c
  reason_same (Declares n) e f (inl v) (inl w) = v.0 ∙ sym w.0
  reason_same (Declares n) e f (inr v) (inr w) = v.0 ∙ sym w.0
  reason_same (Declares n) e f (inl v) (inr w) = absurd (let z = subst IsSome w.1 v.1 in cc)
  reason_same (Declares n) e f (inr v) (inl w) = absurd (let z = subst IsSome v.1 w.1 in cc)
  reason_same (Codes l i) e f v w = v ∙ sym w

  pub misfit_is : (x : Said) (e : AsmError) → s.place ≡ place_of x → add_line k s x ≡ Err e → IsMisfit k xs x e
  misfit_is x e at h = record { stands = stands_at xs s b (place_of x) at; misfit = λ f. let g = fitting xs s b x f in absurd (let z = g.2 in cc); reason = reason_is x e at h }

  pub misfit_again : (x : Said) (e : AsmError) → s.place ≡ place_of x → IsMisfit k xs x e → add_line k s x ≡ Err e
  misfit_again x e at m = go (add_line k s x) refl
    where
      go : (r : Result Source AsmError) → add_line k s x ≡ r → r ≡ Err e
      go (Ok u) h = absurd (m.misfit (fits xs s b x u at h))
      go (Err f) h = ap Err (reason_same x f e (reason_is x f at h) m.reason)
