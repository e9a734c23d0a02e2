-- Names that have no fault: of functions and programs.
use Rattle.std.proofs.Common.{◌≡◌, ℕ, zero, suc, ◌+◌, ◌<◌, ◌≤◌, ◌==◌, Bool, true, false, [], ◌∷◌, ◌++◌, List, length, map, refl, ap, sym, subst, ◌∙◌, append_assoc, length-append, arith}
use Rattle.std.specs.Prelude.{Option, Some, None, if◌then◌else◌, slice_get, option_map}
use Rattle.std.proofs.lemmas.Option.{slice_get-map}
use Rattle.tiny_draft.specs.declared.tree.Word.{Word}
use Rattle.tiny_draft.specs.Tree as draft
use Rattle.tiny_tree.specs.Tree as tree
use Rattle.tiny_tree.specs.Prelude.{Program, AreNamed, IsCallable, IsNamed, IsNamedFunction, names_count, parameters_seen}
use Rattle.tiny_names.specs.declared.fault.Fault.TheVariants as faults
use Rattle.tiny_names.specs.declared.functions.Signature.{Signature}
use Rattle.tiny_names.specs.Prelude.{all_faults, call_by, call_faults, faults_from, function_faults, main_faults, own_faults, parameter_faults, all_names, called, called_from, is_main, name_of, function_names, function_of, function_place, place_in, resolved, statements}
use Rattle.tiny_parser.proofs.Naming.{IsSeen, below, block_few, declare_few, halves, if_empty, in_right, not_if, place_front, statements_named, vars_of_is}
use Rattle.tiny_parser.proofs.Words.{WordsStatements}

mapped_length : (ws : List Word) → length (map name_of ws) ≡ length ws
mapped_length [] = refl
mapped_length (w ∷ ws) = ap suc (mapped_length ws)

-- ---- the first function of a name

record Stands (k : ℕ) (fs : List draft.Function) (name : ℕ) (s : Signature) : Type 0 where
  i : ℕ
  function : draft.Function
  is : slice_get fs i ≡ Some function
  place : s.place ≡ k + i
  named : function.name.name ≡ name
  counts : s.parameters ≡ length function.parameters

eq_is : (a b : ℕ) → (a == b) ≡ true → a ≡ b
eq_is a b h = grind arith

later_stands : (k : ℕ) (f : draft.Function) (fs : List draft.Function) (name : ℕ) (s : Signature) → Stands (k + 1) fs name s → Stands k (f ∷ fs) name s
later_stands k f fs name s x = record { i = suc x.i; function = x.function; is = x.is; place = (let p : s.place ≡ k + 1 + x.i = x.place in omega arith); named = x.named; counts = x.counts }

head_stands : (k : ℕ) (f : draft.Function) (fs : List draft.Function) (name : ℕ) (s : Signature) (b : Bool) → (f.name.name == name) ≡ b
    → (called_from (k + 1) fs name ≡ Some s → Stands (k + 1) fs name s)
    → (if b then Some (record { place = k; parameters = length f.parameters }) else called_from (k + 1) fs name) ≡ Some s → Stands k (f ∷ fs) name s
head_stands k f fs name s true e later h =
    let first : Signature = record { place = k; parameters = length f.parameters } in
    let is : first ≡ s = cc in
    record {
      i = 0;
      function = f;
      is = refl;
      place = (let p : k ≡ s.place = ap (λ (x : Signature). x.place) is in omega arith);
      named = eq_is f.name.name name e;
      counts = sym (ap (λ (x : Signature). x.parameters) is);
    }
head_stands k f fs name s false e later h = later_stands k f fs name s (later h)

stands : (k : ℕ) (fs : List draft.Function) (name : ℕ) (s : Signature) → called_from k fs name ≡ Some s → Stands k fs name s
stands k [] name s h = absurd (cc)
stands k (f ∷ fs) name s h = head_stands k f fs name s (f.name.name == name) refl (λ g. stands (k + 1) fs name s g) h

-- ---- the functions, one by one

no_faults_at : (known : ℕ → Option Signature) (k : ℕ) (fs : List draft.Function) (i : ℕ) (f : draft.Function) → faults_from known k fs ≡ [] → slice_get fs i ≡ Some f
    → function_faults known (k + i) f ≡ []
no_faults_at known k [] i f h is = absurd (cc)
no_faults_at known k (g ∷ fs) zero f h is =
    let same : g ≡ f = cc in
    let at : k ≡ k + 0 = omega arith in
    subst (λ (n : ℕ). function_faults known n f ≡ []) at (subst (λ (x : draft.Function). function_faults known k x ≡ []) same (halves _ _ h).0)
no_faults_at known k (g ∷ fs) (suc i) f h is =
    let at : k + 1 + i ≡ k + suc i = omega arith in
    subst (λ (n : ℕ). function_faults known n f ≡ []) at (no_faults_at known (k + 1) fs i f (halves _ _ h).1 is)

record Own (s : Option Signature) (place : ℕ) (f : draft.Function) : Type 0 where
  first : Signature
  is : s ≡ Some first
  place_is : first.place ≡ place
  alone : is_main f.name.name ≡ true → length f.parameters ≡ 0

own : (s : Option Signature) (place : ℕ) (f : draft.Function) → own_faults s place f ≡ [] → Own s place f
own None place f h = absurd (cc)
own (Some s) place f h = placed (s.place == place) refl h
  where
    lonely : (b c : Bool) → (if b then (if c then [] else faults.BadCall f.name.line ∷ []) else []) ≡ [] → b ≡ true → c ≡ true
    lonely true true h e = refl
    lonely true false h e = absurd (cc)
    lonely false c h e = absurd (cc)

    placed : (b : Bool) → (s.place == place) ≡ b
        → (if b then (if is_main f.name.name then (if length f.parameters == 0 then [] else faults.BadCall f.name.line ∷ []) else []) else faults.DuplicateName f.name.line ∷ []) ≡ []
        → Own (Some s) place f
    placed true e h = record {
      first = s;
      is = refl;
      place_is = eq_is s.place place e;
      alone = λ m. eq_is (length f.parameters) 0 (lonely (is_main f.name.name) (length f.parameters == 0) h m);
    }
    placed false e h = absurd (cc)

parameters_few : (declared : List ℕ) (ws : List Word) → parameter_faults declared ws ≡ [] → length declared ≤ 255 → length (declared ++ map name_of ws) ≤ 255
parameters_few declared [] h few = let nil : List ℕ = [] in omega (arith, length-append declared nil)
parameters_few declared (w ∷ ws) h few =
    let one : List ℕ = w.name ∷ [] in
    subst (λ (l : List ℕ). length l ≤ 255) (append_assoc declared one (map name_of ws)) (parameters_few (declared ++ w.name ∷ []) ws (halves _ _ h).1
    (declare_few declared w (halves _ _ h).0))

found : (xs : List draft.Function) (i : ℕ) (a b : draft.Function) → slice_get xs i ≡ Some a → slice_get xs i ≡ Some b → a ≡ b
found xs i a b x y = let e : Some a ≡ Some b = sym x ∙ y in cc

module _ (fs : List draft.Function) (none : all_faults fs ≡ []) (words : (i : ℕ) (f : draft.Function) → slice_get fs i ≡ Some f → WordsStatements f.body) where
  abbrev K : ℕ → Option Signature
  K = called fs

  abbrev p : Program
  p = resolved fs

  each : (i : ℕ) (f : draft.Function) → slice_get fs i ≡ Some f → function_faults K i f ≡ []
  each i f is =
      let at : 0 + i ≡ i = omega arith in
      subst (λ (n : ℕ). function_faults K n f ≡ []) at (no_faults_at K 0 fs i f (halves _ _ none).0 is)

  first_main : (o : Option Signature) → main_faults o ≡ [] → (s : Signature) × (o ≡ Some s)
  first_main None h = absurd (cc)
  first_main (Some s) h = (s, refl)

  main_first : (s : Signature) × (K 0 ≡ Some s)
  main_first = first_main (K 0) (halves _ _ none).1

  main_at : Stands 0 fs 0 main_first.0
  main_at = stands 0 fs 0 main_first.0 main_first.1

  main_place : p.main ≡ main_at.i
  main_place = ap function_place main_first.1 ∙ (main_at.place ∙ (let z : 0 + main_at.i ≡ main_at.i = omega arith in z))

  is_the_main : (i : ℕ) (f : draft.Function) → slice_get fs i ≡ Some f → i ≡ p.main → f.name.name ≡ 0
  is_the_main i f is e =
      let here : slice_get fs i ≡ Some main_at.function = subst (λ (n : ℕ). slice_get fs n ≡ Some main_at.function) (sym (e ∙ main_place)) main_at.is in
      ap (λ (g : draft.Function). g.name.name) (found fs i f main_at.function is here) ∙ main_at.named

  callable_by : (w : Word) (n : ℕ) (o : Option Signature) → K w.name ≡ o → call_by o w n ≡ [] → IsCallable p (function_place o) n
  callable_by w n None e h = absurd (cc)
  callable_by w n (Some s) e h =
      let b = not_if (is_main w.name) _ _ h in
      let at = stands 0 fs w.name s e in
      let place : at.i ≡ s.place = (let z : s.place ≡ 0 + at.i = at.place in omega arith) in
      let here : slice_get fs s.place ≡ Some at.function = subst (λ (i : ℕ). slice_get fs i ≡ Some at.function) place at.is in
      record {
        function = function_of K at.function;
        is = slice_get-map (function_of K) fs s.place ∙ ap (option_map (function_of K)) here;
        counts = sym at.counts ∙ eq_is s.parameters n (if_empty (s.parameters == n) _ b.1);
        other = λ m. let zero_is : w.name ≡ 0 = sym at.named ∙ is_the_main s.place at.function here m in not_zero w.name b.0 zero_is;
      }
    where
      not_zero : (name : ℕ) → (name == 0) ≡ false → name ≡ 0 → ⊥
      not_zero name f z = grind arith

  callable : (w : Word) (n : ℕ) → call_faults K w n ≡ [] → IsCallable p (function_place (K w.name)) n
  callable w n h = callable_by w n (K w.name) refl h

  not_main : (i : ℕ) (f : draft.Function) → slice_get fs i ≡ Some f → is_main f.name.name ≡ false → (i == p.main) ≡ false
  not_main i f is h = by (i == p.main) refl
    where
      by : (b : Bool) → (i == p.main) ≡ b → (i == p.main) ≡ false
      by false e = e
      by true e = let z : f.name.name ≡ 0 = is_the_main i f is (eq_is i p.main e) in absurd (grind arith)

  parameters_are_seen : (f : draft.Function) → IsSeen (function_names f) (map name_of f.parameters) (parameters_seen (function_of K f))
  parameters_are_seen f = λ name h.
      let lt = place_front (map name_of f.parameters) (all_names f.body) name h in
      let count : length (map name_of f.parameters) ≡ length f.parameters = mapped_length f.parameters in
      let less = subst (λ (n : ℕ). place_in (function_names f) name < n) count lt in (
        below (place_in (function_names f) name) (length f.parameters) less,
        (let few : place_in (function_names f) name < length (map name_of f.parameters) = lt in omega (arith, length-append (map name_of f.parameters) (all_names f.body))),
      )

  names_are : (f : draft.Function) → length (function_names f) ≡ names_count (function_of K f)
  names_are f = let v = vars_of_is K (function_names f) f.body in omega (arith, v, length-append (map name_of f.parameters) (all_names f.body), mapped_length f.parameters)

  function_named : (i : ℕ) (f : draft.Function) → slice_get fs i ≡ Some f → IsNamedFunction p i (function_of K f)
  function_named i f is =
      let h = each i f is in
      let parameters = map name_of f.parameters in
      let later = (halves _ _ h).1 in
      let a = (halves _ _ later).0 in
      let b = (halves _ _ later).1 in
      let some : length parameters ≤ 255 = parameters_few [] f.parameters a (omega arith) in
      let few : length (function_names f) ≤ 255 = block_few K (is_main f.name.name) f.body parameters parameters b some in
      record {
        few = subst (λ (n : ℕ). n ≤ 255) (names_are f) few;
        body = subst (λ (n : ℕ). AreNamed p (i == p.main) n (statements K (function_names f) f.body) (parameters_seen (function_of K f))) (names_are f)
            (statements_named p K callable (function_names f) (is_main f.name.name) (i == p.main) (not_main i f is) f.body parameters parameters (parameters_seen (function_of K f))
            (parameters_are_seen f) (λ name m. in_right parameters (all_names f.body) name m) b (words i f is));
      }

  mapped_named : (i : ℕ) (g : tree.Function) (o : Option draft.Function) → slice_get fs i ≡ o → option_map (function_of K) o ≡ Some g → IsNamedFunction p i g
  mapped_named i g None e h = absurd (cc)
  mapped_named i g (Some f) e h = let same : function_of K f ≡ g = cc in subst (λ (x : tree.Function). IsNamedFunction p i x) same (function_named i f e)

  pub resolved_is_named : IsNamed p
  resolved_is_named =
      let main = main_at.function in
      let here : slice_get fs p.main ≡ Some main = subst (λ (n : ℕ). slice_get fs n ≡ Some main) (sym main_place) main_at.is in
      let o = own (K main.name.name) p.main main (halves _ _ (each p.main main here)).0 in
      record {
        main = function_of K main;
        main_is = slice_get-map (function_of K) fs p.main ∙ ap (option_map (function_of K)) here;
        no_parameters = o.alone (let z : main.name.name ≡ 0 = main_at.named in grind arith);
        functions = λ i g h. mapped_named i g (slice_get fs i) refl (sym (slice_get-map (function_of K) fs i) ∙ h);
      }
