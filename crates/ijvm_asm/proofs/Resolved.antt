-- The program that a sound source is keeps what holds of each program.
use Rattle.ijvm_asm.proofs.Common.{◌≡◌, ℕ, suc, ◌<◌, List, [], ◌∷◌, map, take, drop, length, Option, Some, None, refl, ap, sym, subst, ◌∙◌, arith}
use Rattle.ijvm_asm.proofs.Common.{length-append, All, IsSome, IsSomeAnd, slice_get, zip, take-append-drop, All-cons, All-nil, place_below, CodeLine, Constant}
use Rattle.ijvm_asm.proofs.Common.{Label, Operation, IsProgram, IsUnit, NamesPosition, ProgramView, UnitView, Instruction, DraftLine}
use Rattle.std.proofs.lemmas.Option.{get_or_from_slice_get, slice_get_within}
use Rattle.ijvm_line.specs.declared.instruction.Instruction.TheVariants as instructions
use Rattle.ijvm_asm.specs.Prelude.{DraftView, declarations_of, Source, IsLineOf, IsProgramOf, IsUnitOf, Pairwise, StandsFor}
use Rattle.ijvm_asm.proofs.Sound.{Drafted, IsMain, IsMethod, Sound}

element : {A : Type 0} (P : A → Type 0) (xs : List A) (i : ℕ) (x : A) → All P xs → slice_get xs i ≡ Some x → P x
element P xs i x all e = subst P (get_or_from_slice_get xs i x x e) (all i x (slice_get_within xs i x e))

-- ---- one unit

module _ (constants methods : List (List ℕ)) (u : DraftView) (d : Drafted u) where
  abbrev c : ℕ
  c = length constants

  abbrev m : ℕ
  m = length methods

  abbrev Names : Operation → Type 0
  Names o = NamesPosition c m (length u.lines) o

  abbrev Good : CodeLine → Type 0
  Good line = Names line.operation

  operation_named : (i : Instruction) (o : Operation) → StandsFor constants methods u i o → Names o
  operation_named (instructions.Plain instr) o q = subst Names (sym q) tt
  operation_named (instructions.Constant name) o (i, e, q) = subst Names (sym q) (place_below (λ own. Some own) constants name i e)
  operation_named (instructions.Local access wide name) o (i, l, q) = subst Names (sym q) tt
  operation_named (instructions.Increment wide name by) o (i, l, q) = subst Names (sym q) tt
  operation_named (instructions.Jump jump label) o (i, (place, e, f), q) =
      subst Names (sym q) (element (λ at. at < length u.lines) u.label_positions place i d.label_positions f)
  operation_named (instructions.Call name) o (i, e, q) = subst Names (sym q) (place_below (λ own. Some own) methods name i e)

  lines_named : (ds : List DraftLine) (out : List CodeLine) → Pairwise (IsLineOf constants methods u) ds out → All Good out × (length out ≡ length ds)
  lines_named [] [] w = (All-nil Good, refl)
  lines_named [] (l ∷ out) w = absurd w
  lines_named (d ∷ ds) [] w = absurd w
  lines_named (d ∷ ds) (l ∷ out) (w, more) =
      let r = lines_named ds out more in
      (All-cons Good l out (operation_named d.instruction l.operation w.operation) r.0, ap suc r.1)

  labels_fit : (ls : List (List ℕ)) (positions : List ℕ) (n : ℕ) → All (λ at. at < n) positions → All (λ (l : Label). l.at < n) (map (λ p. record { name = p.0; at = p.1 }) (zip ls positions))
  labels_fit [] positions n all = All-nil (λ (l : Label). l.at < n)
  labels_fit (l ∷ ls) [] n all = All-nil (λ (l : Label). l.at < n)
  labels_fit (l ∷ ls) (a ∷ positions) n all =
      All-cons (λ (l : Label). l.at < n) (record { name = l; at = a }) _ (all 0 a (omega arith)) (labels_fit ls positions n (λ k d h. all (suc k) d (omega (arith, h))))

  pub is_unit : (v : UnitView) → IsUnitOf constants methods u v → IsUnit c m v
  is_unit v w =
      let f = lines_named u.lines v.lines w.lines in
      let n : length v.lines ≡ length u.lines = f.1 in
      let few = d.few in
      let e = length-append (take u.parameters u.names) (drop u.parameters u.names) in
      let g = ap length (take-append-drop u.parameters u.names) in
      let p = ap length w.parameters in
      let q = ap length w.locals in
      record {
        lines = subst (λ n. All (λ line. NamesPosition c m n line.operation) v.lines) (sym n) f.0;
        labels = subst (All (λ (l : Label). l.at < length v.lines)) (sym w.labels)
            (labels_fit u.labels u.label_positions (length v.lines) (subst (λ n. All (λ at. at < n) u.label_positions) (sym n) d.label_positions));
        few_locals = omega (arith, few, e, g, p, q);
      }

-- ---- the methods

module _ (constants methods : List (List ℕ)) where
  abbrev IsGood : UnitView → Type 0
  IsGood v = IsUnit (length constants) (length methods) v × IsSome v.name

  pub are_units : (us : List DraftView) (out : List UnitView) → All IsMethod us → Pairwise (IsUnitOf constants methods) us out →
      All IsGood out × (length out ≡ length us)
  are_units [] [] are w = (All-nil IsGood, refl)
  are_units [] (v ∷ out) are w = absurd w
  are_units (u ∷ us) [] are w = absurd w
  are_units (u ∷ us) (v ∷ out) are (w, more) =
      let first : IsMethod u = are 0 u (omega arith) in
      let good : IsGood v = (is_unit constants methods u first.0 v w, subst IsSome (sym w.name) first.1) in
      let r = are_units us out (λ k d h. are (suc k) d (omega (arith, h))) more in
      (All-cons IsGood v out good r.0, ap suc r.1)

-- ---- the program

abbrev constant_at : List ℕ × ℕ → Constant
constant_at p = record { name = p.0; value = p.1 }

constants_few : (names : List (List ℕ)) (values : List ℕ) → length names ≡ length values → length (map constant_at (zip names values)) ≡ length names
constants_few [] values e = refl
constants_few (n ∷ names) [] e = absurd (omega (arith, e))
constants_few (n ∷ names) (v ∷ values) e = let r = constants_few names values (omega (arith, e)) in omega (arith, r)

pub is_program : (s : Source) → Sound s → (p : ProgramView) → IsProgramOf (declarations_of s) p → IsProgram p
is_program s sound p w = by_main s.main refl w.main
  where
    by_main : (o : Option DraftView) → s.main ≡ o → IsSomeAnd o (λ u. IsUnitOf s.constants s.methods u p.main) → IsProgram p
    by_main None at a = absurd a
    by_main (Some u) at a =
        let main : IsMain (Some u) = subst IsMain at sound.main in
        let b = are_units s.constants s.methods s.units p.methods sound.units w.methods in
        let c : length p.constants ≡ length s.constants = ap length w.constants ∙ constants_few s.constants s.values sound.values in
        let n = b.1 in
        let m = sound.methods in
        let d : length p.methods ≡ length s.methods = omega (arith, n, m) in
        let is : (w : UnitView) → IsUnit (length s.constants) (length s.methods) w → IsUnit (length p.constants) (length p.methods) w =
        λ w i. subst (λ x. IsUnit x (length p.methods) w) (sym c) (subst (λ y. IsUnit (length s.constants) y w) (sym d) i) in
        record {
          main = is p.main (is_unit s.constants s.methods u main.0 p.main a);
          methods = λ k x h. is _ (b.0 k x h).0;
          main_name = a.name ∙ main.1;
          main_parameters = a.parameters ∙ ap (λ n. take n u.names) main.2;
          method_names = λ k x h. (b.0 k x h).1;
        }
