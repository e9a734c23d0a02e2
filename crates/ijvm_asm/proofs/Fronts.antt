-- Lines are the first of some sections exactly where they make something, one by one: what is open can always be ended.
use Rattle.ijvm_asm.proofs.Common.{◌≡◌, ℕ, ◌+◌, Bool, true, false, List, [], ◌∷◌, ◌++◌, Option, Some, None, length, refl, ap, sym, subst, ◌∙◌, ◌||◌, not, Ok}
use Rattle.ijvm_asm.proofs.Common.{is_some, or_from, not_from_true, Place, Instruction}
use Rattle.ijvm_instr.specs.declared.instr.Instr.TheVariants as instrs
use Rattle.ijvm_line.specs.declared.place.Place.TheVariants as places
use Rattle.ijvm_line.specs.declared.place.Mark.TheVariants as marks
use Rattle.ijvm_line.specs.declared.instruction.Instruction.TheVariants as instructions
use Rattle.ijvm_asm.specs.declared.error.AsmError.TheVariants as errors
use Rattle.ijvm_asm.specs.Prelude.{BlankAt, Codes, Dotted, place_of, Said, lines_of, Section, declarations_of, empty, Source, add_instruction, add_line, IsFront, StandsAt}
use Rattle.ijvm_asm.proofs.Building.{Build, join, split}
use Rattle.ijvm_asm.proofs.Conditions.{ok, ok_if}
use Rattle.ijvm_asm.proofs.Declaring.{declared_make, sections_declare}
use Rattle.ijvm_asm.proofs.InOrder.{from_order, in_order}
use Rattle.ijvm_asm.proofs.Mains.{main_ended}
use Rattle.ijvm_asm.proofs.Methods.{ended}
use Rattle.ijvm_asm.proofs.Sectioning.{left_of}

-- ---- what is open can be ended

abbrev EndsAt : ℕ → Source → Type 0
EndsAt k t = (ys : List Said) × (u : Source) × Build k t ys u × (u.place ≡ places.Outside)

unit_ends : (k : ℕ) (t : Source) → t.place ≡ places.Code → t.unit.pending ≡ false → EndsAt k t
unit_ends k t e p = go t.unit.name refl
  where
    go : (o : Option (List ℕ)) → t.unit.name ≡ o → EndsAt k t
    go None f = (
      Dotted marks.EndMain ∷ [],
      main_ended t,
      (main_ended t, e, ok_if (is_some t.unit.name || t.unit.pending) (errors.BadLine k) (ok (main_ended t)) (or_from (is_some t.unit.name) t.unit.pending (ap is_some f) p), refl),
      refl,
    )
    go (Some n) f = (
      Dotted marks.EndMethod ∷ [],
      ended t,
      (ended t, e, ok_if (not (is_some t.unit.name) || t.unit.pending) (errors.BadLine k) (ok (ended t)) (or_from (not (is_some t.unit.name)) t.unit.pending (not_from_true (is_some t.unit.name) (ap is_some f)) p), refl),
      refl,
    )

abbrev nop : Instruction
nop = instructions.Plain instrs.Nop

abbrev with_nop : ℕ → Source → Source
with_nop k t = record t { unit = add_instruction k t.unit (Some nop); may_declare = false }

code_ends : (k : ℕ) (t : Source) → t.place ≡ places.Code → EndsAt k t
code_ends k t e = go t.unit.pending refl
  where
    go : (b : Bool) → t.unit.pending ≡ b → EndsAt k t
    go false p = unit_ends k t e p
    go true p =
        let r = unit_ends (k + 1) (with_nop k t) e refl in
        (Codes None (Some nop) ∷ r.0, r.1, (with_nop k t, e, refl, r.2), r.3)

ends : (k : ℕ) (t : Source) → EndsAt k t
ends k t = go t.place refl
  where
    go : (p : Place) → t.place ≡ p → EndsAt k t
    go places.Outside e = ([], t, refl, e)
    go places.Constants e = (Dotted marks.EndConstants ∷ [], record t { place = places.Outside }, (record t { place = places.Outside }, e, refl, refl), refl)
    go places.Locals e =
        let r = code_ends (k + 1) (record t { place = places.Code }) refl in
        (Dotted marks.EndLocals ∷ r.0, r.1, (record t { place = places.Code }, e, refl, r.2), r.3)
    go places.Code e = code_ends k t e

-- ---- fronts

pub front_of : (xs : List Said) (t : Source) → Build 1 empty xs t → IsFront xs
front_of xs t b =
    let r = ends (1 + length xs) t in
    let all : Build 1 empty (xs ++ r.0) r.1 = join xs r.0 1 empty t r.1 b r.2 in
    let left : (rest : List Section) × (xs ++ r.0 ≡ lines_of rest) = left_of (xs ++ r.0) 1 empty r.1 r.3 all in
    record {
      others = r.0;
      sections = left.0;
      declares = declarations_of r.1;
      split = left.1;
      made = sections_declare left.0 1 empty r.1 refl (in_order left.0 1 empty r.1 refl (subst (λ ws. Build 1 empty ws r.1) left.1 all));
    }

pub of_front : (xs : List Said) → IsFront xs → (t : Source) × Build 1 empty xs t
of_front xs f =
    let m = declared_make f.sections 1 empty f.declares refl f.made in
    let b = subst (λ ws. Build 1 empty ws m.0) (sym f.split) (from_order f.sections 1 empty m.0 refl m.1) in
    let r = split xs f.others 1 empty m.0 b in
    (r.0, r.1)

-- ---- one line more

pub same_end : (xs : List Said) (k : ℕ) (s t u : Source) → Build k s xs t → Build k s xs u → t ≡ u
same_end [] k s t u a b = sym a ∙ b
same_end (x ∷ xs) k s t u (v, p, h, more) (w, q, g, rest) =
    let e : v ≡ w = cc in
    same_end xs (k + 1) w t u (subst (λ z. Build (k + 1) z xs t) e more) rest

module _ (xs : List Said) (s : Source) (b : Build 1 empty xs s) where
  pub fits : (x : Said) (u : Source) → s.place ≡ place_of x → add_line (1 + length xs) s x ≡ Ok u → IsFront (xs ++ x ∷ [])
  fits x u e h = front_of (xs ++ x ∷ []) u (join xs (x ∷ []) 1 empty s u b (u, e, h, refl))

  pub fitting : (x : Said) → IsFront (xs ++ x ∷ []) → (u : Source) × (s.place ≡ place_of x) × (add_line (1 + length xs) s x ≡ Ok u)
  fitting x f =
      let r = of_front (xs ++ x ∷ []) f in
      let q = split xs (x ∷ []) 1 empty r.0 r.1 in
      let e : s ≡ q.0 = same_end xs 1 empty s q.0 b q.1 in
      let one = q.2 in
      (one.0, ap (λ w. w.place) e ∙ one.1, ap (λ w. add_line (1 + length xs) w x) e ∙ one.2)

  pub stands : (p : Place) → StandsAt xs p → s.place ≡ p
  stands p f = (fitting (BlankAt p) f).1

  pub stands_at : (p : Place) → s.place ≡ p → StandsAt xs p
  stands_at p e = fits (BlankAt p) s e refl
