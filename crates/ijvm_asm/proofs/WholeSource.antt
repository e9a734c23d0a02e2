-- The whole source is read as the program that it is, or as its late refusal.
use Rattle.ijvm_asm.proofs.Common.{◌≡◌, ℕ, List, [], ◌∷◌, Option, Some, None, refl, ap, sym, subst, ◌∙◌, inl, inr, Ok, Err, IsSome, IsSomeAnd, CodeLine}
use Rattle.ijvm_asm.proofs.Common.{UnitView, ProgramView, Place, DraftLine, AsmError}
use Rattle.ijvm_line.specs.declared.place.Place.TheVariants as places
use Rattle.ijvm_asm.specs.declared.error.AsmError.TheVariants as errors
use Rattle.ijvm_asm.specs.Prelude.{DraftView, RefusesBy, declarations_of, Source, all_units, constants_of, IsLineOf, IsLowest, IsProgramOf, IsUnitOf, IsUnknownAt, IsUnknownIn, NamesUnknown, Pairwise, by_main, by_missing, by_unknown, missing, missing_at, or_no_main, whole_program, program_with, unit_of, units_from, unknown}
use Rattle.ijvm_asm.proofs.Known.{main_known, units_known}
use Rattle.ijvm_asm.proofs.Standing.{all_units_are, unit_again, unit_is, units_again}
use Rattle.ijvm_asm.proofs.Unknowns.{all_known, is_unknown, none_unknown, unknown_is}

-- ---- no name of a program is unknown

module _ (constants methods : List (List ℕ)) where
  lines_none : (u : DraftView) (ds : List DraftLine) (ls : List CodeLine) → Pairwise (IsLineOf constants methods u) ds ls → (k : ℕ) → IsUnknownIn constants methods u ds k → ⊥
  lines_none u [] ls w k q = q
  lines_none u (d ∷ ds) [] w k q = absurd w
  lines_none u (d ∷ ds) (l ∷ ls) (w, more) k (inl q) = q.1 l.operation w.operation
  lines_none u (d ∷ ds) (l ∷ ls) (w, more) k (inr q) = lines_none u ds ls more k q

  units_none : (us : List DraftView) (vs : List UnitView) → Pairwise (IsUnitOf constants methods) us vs → (k : ℕ) → IsUnknownAt constants methods us k → ⊥
  units_none [] vs w k q = q
  units_none (u ∷ us) [] w k q = absurd w
  units_none (u ∷ us) (v ∷ vs) (w, more) k (inl q) = lines_none u u.lines v.lines w.lines k q
  units_none (u ∷ us) (v ∷ vs) (w, more) k (inr q) = units_none us vs more k q

  all_none : (m : Option DraftView) (us : List DraftView) (v : UnitView) (vs : List UnitView) → IsSomeAnd m (λ u. IsUnitOf constants methods u v) → Pairwise (IsUnitOf constants methods) us vs
      → (k : ℕ) → IsUnknownAt constants methods (all_units m us) k → ⊥
  all_none None us v vs a w k q = absurd a
  all_none (Some u) us v vs a w k (inl q) = lines_none u u.lines v.lines a.lines k q
  all_none (Some u) us v vs a w k (inr q) = units_none us vs w k q

-- ---- programs

pub ends_outside : (s : Source) → missing s ≡ None → s.place ≡ places.Outside
ends_outside s h = go s.place h
  where
    go : (q : Place) → missing_at q s ≡ None → q ≡ places.Outside
    go places.Outside h = refl
    go _ h = absurd (cc)

module _ (s : Source) where
  pub is_program_of : (p : ProgramView) (u : DraftView) (v : UnitView) (vs : List UnitView) → s.main ≡ Some u → unit_of s.constants s.methods u ≡ Some v
      → units_from s.constants s.methods [] s.units ≡ Some vs → p ≡ record { constants = constants_of (declarations_of s); main = v; methods = vs } → IsProgramOf (declarations_of s) p
  is_program_of p u v vs at e f q = subst (IsProgramOf (declarations_of s)) (sym q) (record {
    constants = refl;
    main = subst (λ m. IsSomeAnd m (λ u. IsUnitOf s.constants s.methods u v)) (sym at) (unit_is s.constants s.methods u v e);
    methods = all_units_are s.constants s.methods s.units vs f;
  })

  pub whole_is : (p : ProgramView) → whole_program s ≡ Ok p → (s.place ≡ places.Outside) × IsProgramOf (declarations_of s) p
  unfolding whole_program
  whole_is p h = at_place s.place refl h
    where
      parts : (u : DraftView) (v : Option UnitView) (vs : Option (List UnitView)) → s.main ≡ Some u → unit_of s.constants s.methods u ≡ v → units_from s.constants s.methods [] s.units ≡ vs
          → or_no_main (program_with (constants_of (declarations_of s)) v vs) ≡ Ok p → IsProgramOf (declarations_of s) p
      parts u (Some v) (Some vs) at e f h = is_program_of p u v vs at e f (cc)
      parts u (Some v) None at e f h = absurd (cc)
      parts u None vs at e f h = absurd (cc)

      with_main : (m : Option DraftView) → s.main ≡ m → by_main s m ≡ Ok p → IsProgramOf (declarations_of s) p
      with_main None at h = absurd (cc)
      with_main (Some u) at h = parts u (unit_of s.constants s.methods u) (units_from s.constants s.methods [] s.units) at refl refl h

      by_line : (o : Option ℕ) → by_unknown s o ≡ Ok p → IsProgramOf (declarations_of s) p
      by_line None h = with_main s.main refl h
      by_line (Some k) h = absurd (cc)

      at_place : (q : Place) → s.place ≡ q → by_missing s (missing_at q s) ≡ Ok p → (s.place ≡ places.Outside) × IsProgramOf (declarations_of s) p
      at_place places.Outside e h = (e, by_line (unknown s) h)
      at_place _ e h = absurd (cc)

  outside : s.place ≡ places.Outside → whole_program s ≡ by_unknown s (unknown s)
  unfolding whole_program
  outside e = ap (λ q. by_missing s (missing_at q s)) e

  pub whole_again : (p : ProgramView) → s.place ≡ places.Outside → IsProgramOf (declarations_of s) p → whole_program s ≡ Ok p
  whole_again p e w =
      outside e ∙ (ap (by_unknown s) (none_unknown s (all_none s.constants s.methods s.main s.units p.main p.methods w.main w.methods)) ∙ with_main s.main w.main)
    where
      with_main : (m : Option DraftView) → IsSomeAnd m (λ u. IsUnitOf s.constants s.methods u p.main) → by_main s m ≡ Ok p
      with_main None a = absurd a
      with_main (Some u) a =
          ap (λ v. or_no_main (program_with (constants_of (declarations_of s)) v (units_from s.constants s.methods [] s.units))) (unit_again s.constants s.methods u p.main a)
          ∙ (ap (λ vs. or_no_main (program_with (constants_of (declarations_of s)) (Some p.main) vs)) (units_again s.constants s.methods s.units [] p.methods w.methods)
          ∙ ap (λ c. or_no_main (program_with c (Some p.main) (Some p.methods))) (sym w.constants))

  -- ---- refusals

  abbrev pub IsLate : AsmError → Type 0
  IsLate (errors.MissingEnd k) = missing s ≡ Some k
  IsLate (errors.UnknownName k) = (s.place ≡ places.Outside) × IsLowest (NamesUnknown (declarations_of s)) k
  IsLate errors.NoMain = (s.place ≡ places.Outside) × ((k : ℕ) → NamesUnknown (declarations_of s) k → ⊥) × (s.main ≡ None)
  IsLate _ = ⊥

  pub refused_is : (e : AsmError) → whole_program s ≡ Err e → IsLate e
  unfolding whole_program
  refused_is e h = at_place s.place refl h
    where
      parts : (v : Option UnitView) (vs : Option (List UnitView)) → IsSome v → IsSome vs → or_no_main (program_with (constants_of (declarations_of s)) v vs) ≡ Err e → IsLate e
      parts (Some v) (Some vs) a b h = absurd (cc)
      parts (Some v) None a b h = absurd (cc)
      parts None vs a b h = absurd (cc)

      with_main : (m : Option DraftView) → s.place ≡ places.Outside → unknown s ≡ None → s.main ≡ m → by_main s m ≡ Err e → IsLate e
      with_main None out known at h = let q : errors.NoMain ≡ e = cc in subst IsLate q (out, all_known s known, at)
      with_main (Some u) out known at h = parts (unit_of s.constants s.methods u) (units_from s.constants s.methods [] s.units) (main_known s u known at) (units_known s known) h

      by_line : (o : Option ℕ) → s.place ≡ places.Outside → unknown s ≡ o → by_unknown s o ≡ Err e → IsLate e
      by_line None out known h = with_main s.main out known refl h
      by_line (Some k) out f h = let q : errors.UnknownName k ≡ e = cc in subst IsLate q (out, unknown_is s k f)

      at_place : (q : Place) → s.place ≡ q → by_missing s (missing_at q s) ≡ Err e → IsLate e
      at_place places.Outside f h = by_line (unknown s) f refl h
      at_place places.Constants f h = let q : errors.MissingEnd s.section ≡ e = cc in subst IsLate q (ap (λ q. missing_at q s) f)
      at_place places.Locals f h = let q : errors.MissingEnd s.inner ≡ e = cc in subst IsLate q (ap (λ q. missing_at q s) f)
      at_place places.Code f h = let q : errors.MissingEnd s.section ≡ e = cc in subst IsLate q (ap (λ q. missing_at q s) f)

  missed : (k : ℕ) → missing s ≡ Some k → whole_program s ≡ Err (errors.MissingEnd k)
  unfolding whole_program
  missed k w = ap (by_missing s) w

  pub refused_again : (e : AsmError) → IsLate e → whole_program s ≡ Err e
  refused_again (errors.MissingEnd k) w = missed k w
  refused_again (errors.UnknownName k) (out, w) = outside out ∙ ap (by_unknown s) (is_unknown s k w)
  refused_again errors.NoMain (out, known, at) = outside out ∙ (ap (by_unknown s) (none_unknown s known) ∙ ap (by_main s) at)
  refused_again _ w = absurd w

-- where the source has a program, only memory may run out
pub memory_only : (s : Source) (u : DraftView) → missing s ≡ None → unknown s ≡ None → s.main ≡ Some u → RefusesBy errors.OutOfMemory (whole_program s)
unfolding whole_program
memory_only s u none known at =
    subst (RefusesBy errors.OutOfMemory) (sym (ap (by_missing s) none ∙ (ap (by_unknown s) known ∙ ap (by_main s) at)))
    (go (unit_of s.constants s.methods u) (units_from s.constants s.methods [] s.units) (main_known s u known at) (units_known s known))
  where
    go : (v : Option UnitView) (vs : Option (List UnitView)) → IsSome v → IsSome vs → RefusesBy errors.OutOfMemory (or_no_main (program_with (constants_of (declarations_of s)) v vs))
    go (Some v) (Some vs) a b = refl
    go (Some v) None a b = absurd (cc)
    go None vs a b = absurd (cc)
