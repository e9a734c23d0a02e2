-- What the look-up finds is what instructions, lines and units stand for, and nothing else.
use Rattle.ijvm_asm.proofs.Common.{◌≡◌, ℕ, ◌+◌, List, [], ◌∷◌, ◌++◌, Option, Some, None, refl, ap, sym, subst, ◌∙◌, take, drop, option_map, option_and_then}
use Rattle.ijvm_asm.proofs.Common.{slice_get, append_assoc, append-nil, bound, place_of_name, CodeLine, Label, Operation, UnitView, Instruction, access_instr}
use Rattle.ijvm_asm.proofs.Common.{increment_instr, DraftLine}
use Rattle.ijvm_program.specs.declared.line.Operation.TheVariants as operations
use Rattle.ijvm_line.specs.declared.instruction.Instruction.TheVariants as instructions
use Rattle.ijvm_asm.specs.Prelude.{DraftView, first_index, IsLineOf, IsLocal, IsUnitOf, labels_of, Pairwise, StandsFor, index_of, label_of, lines_from, operation_of, unit_of, unit_with, units_from}

mapped : {A B : Type 0} (f : A → B) (o : Option A) (y : B) → option_map f o ≡ Some y → (x : A) × (o ≡ Some x) × (y ≡ f x)
mapped f (Some x) y h = (x, refl, cc)
mapped f None y h = absurd (cc)

module _ (constants methods : List (List ℕ)) where
  -- ---- instructions

  local_is : (u : DraftView) (name : List ℕ) (i : ℕ) → index_of u name ≡ Some i → IsLocal u name i
  local_is u name i h = mapped (λ place. place + first_index u) (place_of_name u.names name) i h

  pub operation_is : (u : DraftView) (i : Instruction) (o : Operation) → operation_of constants methods u i ≡ Some o → StandsFor constants methods u i o
  operation_is u (instructions.Plain instr) o h = cc
  operation_is u (instructions.Constant name) o h = mapped (λ place. operations.Constant place) (place_of_name constants name) o h
  operation_is u (instructions.Local access wide name) o h =
      let m = mapped (λ index. operations.Plain (access_instr access wide index)) (index_of u name) o h in
      (m.0, local_is u name m.0 m.1, m.2)
  operation_is u (instructions.Increment wide name by) o h =
      let m = mapped (λ index. operations.Plain (increment_instr wide index by)) (index_of u name) o h in
      (m.0, local_is u name m.0 m.1, m.2)
  operation_is u (instructions.Jump jump label) o h =
      let m = mapped (λ position. operations.To jump position) (label_of u label) o h in
      (m.0, bound (λ place. slice_get u.label_positions place) (place_of_name u.labels label) m.0 m.1, m.2)
  operation_is u (instructions.Call name) o h = mapped (λ place. operations.Call place) (place_of_name methods name) o h

  local_again : (u : DraftView) (name : List ℕ) (i : ℕ) → IsLocal u name i → index_of u name ≡ Some i
  local_again u name i (place, e, q) = ap (option_map (λ p. p + first_index u)) e ∙ ap Some (sym q)

  pub operation_again : (u : DraftView) (i : Instruction) (o : Operation) → StandsFor constants methods u i o → operation_of constants methods u i ≡ Some o
  operation_again u (instructions.Plain instr) o h = ap Some (sym h)
  operation_again u (instructions.Constant name) o (i, e, q) = ap (option_map (λ place. operations.Constant place)) e ∙ ap Some (sym q)
  operation_again u (instructions.Local access wide name) o (i, l, q) =
      ap (option_map (λ index. operations.Plain (access_instr access wide index))) (local_again u name i l) ∙ ap Some (sym q)
  operation_again u (instructions.Increment wide name by) o (i, l, q) =
      ap (option_map (λ index. operations.Plain (increment_instr wide index by))) (local_again u name i l) ∙ ap Some (sym q)
  operation_again u (instructions.Jump jump label) o (i, (place, e, f), q) =
      ap (option_map (λ position. operations.To jump position)) (ap (option_and_then (λ place. slice_get u.label_positions place)) e ∙ f) ∙ ap Some (sym q)
  operation_again u (instructions.Call name) o (i, e, q) = ap (option_map (λ place. operations.Call place)) e ∙ ap Some (sym q)

  -- ---- lines

  abbrev line_with : DraftLine → Operation → CodeLine
  line_with d o = record { line = d.line; operation = o }

  lines_are : (u : DraftView) (ds : List DraftLine) (done out : List CodeLine) → lines_from constants methods u done ds ≡ Some out
      → (new : List CodeLine) × (out ≡ done ++ new) × Pairwise (IsLineOf constants methods u) ds new
  lines_are u [] done out h = let k : done ≡ out = cc in ([], sym k ∙ sym (append-nil done), tt)
  lines_are u (d ∷ ds) done out h =
      let c = bound (λ o. lines_from constants methods u (done ++ line_with d o ∷ []) ds) (operation_of constants methods u d.instruction) out h in
      let r = lines_are u ds (done ++ line_with d c.0 ∷ []) out c.2 in
      (line_with d c.0 ∷ r.0, r.1 ∙ append_assoc done (line_with d c.0 ∷ []) r.0, (record { number = refl; operation = operation_is u d.instruction c.0 c.1 }, r.2))

  lines_again : (u : DraftView) (ds : List DraftLine) (done new : List CodeLine) → Pairwise (IsLineOf constants methods u) ds new → lines_from constants methods u done ds ≡ Some (done ++ new)
  lines_again u [] done [] w = ap Some (sym (append-nil done))
  lines_again u [] done (l ∷ new) w = absurd w
  lines_again u (d ∷ ds) done [] w = absurd w
  lines_again u (d ∷ ds) done (l ∷ new) (w, more) =
      let e : line_with d l.operation ≡ l = ap (λ n. record { line = n; operation = l.operation }) (sym w.number) in
      ap (option_and_then (λ o. lines_from constants methods u (done ++ line_with d o ∷ []) ds)) (operation_again u d.instruction l.operation w.operation)
      ∙ (ap (λ x. lines_from constants methods u (done ++ x ∷ []) ds) e
      ∙ (lines_again u ds (done ++ l ∷ []) new more ∙ ap Some (append_assoc done (l ∷ []) new)))

  -- ---- units

  pub unit_is : (u : DraftView) (v : UnitView) → unit_of constants methods u ≡ Some v → IsUnitOf constants methods u v
  unit_is u v h =
      let m = mapped (unit_with u) (lines_from constants methods u [] u.lines) v h in
      let r = lines_are u u.lines [] m.0 m.1 in
      subst (IsUnitOf constants methods u) (sym m.2)
      (record { name = refl; parameters = refl; locals = refl; labels = refl; lines = subst (Pairwise (IsLineOf constants methods u) u.lines) (sym r.1) r.2 })

  parts : Option (List ℕ) → List (List ℕ) → List (List ℕ) → List CodeLine → List Label → UnitView
  parts n ps ls lines labels = record { name = n; parameters = ps; locals = ls; lines = lines; labels = labels }

  unit_same : (u : DraftView) (v : UnitView) → IsUnitOf constants methods u v → unit_with u v.lines ≡ v
  unfolding parts
  unit_same u v w =
      ap (λ n. parts n (take u.parameters u.names) (drop u.parameters u.names) v.lines (labels_of u)) (sym w.name)
      ∙ (ap (λ ps. parts v.name ps (drop u.parameters u.names) v.lines (labels_of u)) (sym w.parameters)
      ∙ (ap (λ ls. parts v.name v.parameters ls v.lines (labels_of u)) (sym w.locals)
      ∙ ap (λ ls. parts v.name v.parameters v.locals v.lines ls) (sym w.labels)))

  pub unit_again : (u : DraftView) (v : UnitView) → IsUnitOf constants methods u v → unit_of constants methods u ≡ Some v
  unit_again u v w = ap (option_map (unit_with u)) (lines_again u u.lines [] v.lines w.lines) ∙ ap Some (unit_same u v w)

  units_are : (us : List DraftView) (done out : List UnitView) → units_from constants methods done us ≡ Some out
      → (new : List UnitView) × (out ≡ done ++ new) × Pairwise (IsUnitOf constants methods) us new
  units_are [] done out h = let k : done ≡ out = cc in ([], sym k ∙ sym (append-nil done), tt)
  units_are (u ∷ us) done out h =
      let c = bound (λ v. units_from constants methods (done ++ v ∷ []) us) (unit_of constants methods u) out h in
      let r = units_are us (done ++ c.0 ∷ []) out c.2 in
      (c.0 ∷ r.0, r.1 ∙ append_assoc done (c.0 ∷ []) r.0, (unit_is u c.0 c.1, r.2))

  pub all_units_are : (us : List DraftView) (out : List UnitView) → units_from constants methods [] us ≡ Some out → Pairwise (IsUnitOf constants methods) us out
  all_units_are us out h = let r = units_are us [] out h in subst (Pairwise (IsUnitOf constants methods) us) (sym r.1) r.2

  pub units_again : (us : List DraftView) (done new : List UnitView) → Pairwise (IsUnitOf constants methods) us new → units_from constants methods done us ≡ Some (done ++ new)
  units_again [] done [] w = ap Some (sym (append-nil done))
  units_again [] done (v ∷ new) w = absurd w
  units_again (u ∷ us) done [] w = absurd w
  units_again (u ∷ us) done (v ∷ new) (w, more) =
      ap (option_and_then (λ x. units_from constants methods (done ++ x ∷ []) us)) (unit_again u v w)
      ∙ (units_again us (done ++ v ∷ []) new more ∙ ap Some (append_assoc done (v ∷ []) new))
