-- Where every name is declared, the look-up finds each line and each unit.
use Rattle.ijvm_asm.proofs.Common.{◌≡◌, ℕ, List, [], ◌∷◌, Option, Some, None, refl, sym, ap, ◌∙◌, IsSome, option_map, option_and_then, nat_le, Bool, true}
use Rattle.ijvm_asm.proofs.Common.{false, cond, CodeLine, Operation, UnitView, DraftLine}
use Rattle.ijvm_asm.specs.Prelude.{DraftView, Source, lines_from, lower, operation_of, or_line, unit_of, unit_with, units_from, unknown, unknown_lines, unknown_main, unknown_units}

and_then_some : {A B : Type 0} (f : A → Option B) (o : Option A) → IsSome (option_and_then f o) → IsSome o
and_then_some f None h = absurd (cc)
and_then_some f (Some a) h = refl

map_some : {A B : Type 0} (f : A → B) (o : Option A) → IsSome (option_map f o) → IsSome o
map_some f None h = absurd (cc)
map_some f (Some a) h = refl

some_map : {A B : Type 0} (f : A → B) (o : Option A) → IsSome o → IsSome (option_map f o)
some_map f None h = absurd (cc)
some_map f (Some a) h = refl

some_and_then : {A B : Type 0} (f : A → Option B) (o : Option A) → IsSome o → ((a : A) → IsSome (f a)) → IsSome (option_and_then f o)
some_and_then f None h g = absurd (cc)
some_and_then f (Some a) h g = g a

pub first_line : (constants methods : List (List ℕ)) (u : DraftView) (done : List CodeLine) (d : DraftLine) (ds : List DraftLine)
    → IsSome (lines_from constants methods u done (d ∷ ds)) → IsSome (operation_of constants methods u d.instruction)
first_line constants methods u done d ds h = and_then_some _ (operation_of constants methods u d.instruction) h

pub lines_known : (constants methods : List (List ℕ)) (u : DraftView) → IsSome (unit_of constants methods u) → IsSome (lines_from constants methods u [] u.lines)
lines_known constants methods u h = map_some (unit_with u) (lines_from constants methods u [] u.lines) h

pub first_unit : (constants methods : List (List ℕ)) (done : List UnitView) (u : DraftView) (us : List DraftView)
    → IsSome (units_from constants methods done (u ∷ us)) → IsSome (unit_of constants methods u)
first_unit constants methods done u us h = and_then_some _ (unit_of constants methods u) h

-- ---- where no line is unknown

none_lower : (o : Option ℕ) (k : ℕ) → lower o k ≡ None → ⊥
none_lower None k h = cc
none_lower (Some j) k h = go (nat_le j k) h
  where
    go : (b : Bool) → cond b (Some j) (Some k) ≡ None → ⊥
    go true h = cc
    go false h = cc

none_or_line : (least : Option ℕ) (k : ℕ) (o : Option Operation) → or_line least k o ≡ None → (least ≡ None) × IsSome o
none_or_line least k None h = absurd (none_lower least k h)
none_or_line least k (Some o) h = (h, refl)

module _ (constants methods : List (List ℕ)) where
  none_lines : (u : DraftView) (ds : List DraftLine) (least : Option ℕ) → unknown_lines constants methods u least ds ≡ None
      → (least ≡ None) × ((done : List CodeLine) → IsSome (lines_from constants methods u done ds))
  none_lines u [] least h = (h, λ done. refl)
  none_lines u (d ∷ ds) least h =
      let r = none_lines u ds (or_line least d.line (operation_of constants methods u d.instruction)) h in
      let o = none_or_line least d.line (operation_of constants methods u d.instruction) r.0 in
      (o.0, λ done. some_and_then _ (operation_of constants methods u d.instruction) o.1 (λ x. r.1 _))

  none_unit : (u : DraftView) (least : Option ℕ) → unknown_lines constants methods u least u.lines ≡ None → (least ≡ None) × IsSome (unit_of constants methods u)
  none_unit u least h =
      let r = none_lines u u.lines least h in
      (r.0, some_map (unit_with u) (lines_from constants methods u [] u.lines) (r.1 []))

  none_units : (us : List DraftView) (least : Option ℕ) → unknown_units constants methods least us ≡ None
      → (least ≡ None) × ((done : List UnitView) → IsSome (units_from constants methods done us))
  none_units [] least h = (h, λ done. refl)
  none_units (u ∷ us) least h =
      let r = none_units us (unknown_lines constants methods u least u.lines) h in
      let o = none_unit u least r.0 in
      (o.0, λ done. some_and_then _ (unit_of constants methods u) o.1 (λ v. r.1 _))

pub units_known : (s : Source) → unknown s ≡ None → IsSome (units_from s.constants s.methods [] s.units)
units_known s h = (none_units s.constants s.methods s.units (unknown_main s.constants s.methods s.main) h).1 []

pub main_known : (s : Source) (u : DraftView) → unknown s ≡ None → s.main ≡ Some u → IsSome (unit_of s.constants s.methods u)
main_known s u h at =
    let r = (none_units s.constants s.methods s.units (unknown_main s.constants s.methods s.main) h).0 in
    (none_unit s.constants s.methods u None (ap (unknown_main s.constants s.methods) (sym at) ∙ r)).1
