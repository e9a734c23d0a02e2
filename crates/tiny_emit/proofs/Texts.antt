-- The texts of functions, one after the other.
use Rattle.tiny_emit.proofs.Common.{◌≡◌, ◌≢◌, ◌<◌, ◌≤◌, ⊎_elim, ℕ, pos, ◌+◌, Bool, List, [], ◌∷◌, ◌++◌, length, map, drop, get_or, Some, None, refl, sym, ap}
use Rattle.tiny_emit.proofs.Common.{◌∙◌, subst, not, ◌==◌, cond, slice_get, filter, enumerate_from, append-nil, drop_all, eqb_tells, Instr, Bipush, Ireturn}
use Rattle.tiny_emit.proofs.Common.{Halt, header, HasLines, vars_of, Function, Program, function_tree, drop_item, Places, main_code, method_code, methods}
use Rattle.tiny_emit.proofs.Common.{places_of, statements_code, layout_of, method_part, statements_lines, statements_lined, Text, Units, Adds, AddsCode, then}
use Rattle.tiny_emit.proofs.Common.{code_bytes, AreUnits, whole, AddsMain, AddsMethod, AddsMethods, program_of}
use Rattle.std.specs.Option.{option_map}
use Rattle.std.proofs.lemmas.Option.{same_Some, slice_get-map, slice_get_read}
use Rattle.tiny_tree.specs.declared.tree.Function as declared
use Rattle.tiny_emit.proofs.Sides.{then_code}

-- with no jump at the end
straight_end : (a b c : Text) (x y : List Instr) (i : List ℕ) → HasLines i x → AddsCode a b x i → AddsCode b c y [] → AddsCode a c (x ++ y) i
straight_end a b c x y i count h k = subst (AddsCode a c (x ++ y)) (append-nil i) (then_code a b c x y i [] count h k)

module _ (p : Places) where
  pub main_added : (a b c : Text) (g : Function) → AddsCode a b (statements_code p 0 g.body) (statements_lines g.body) →
      AddsCode b c (Halt ∷ []) [] → AddsCode a c (main_code p g) (statements_lines g.body)
  main_added a b c g h k =
      straight_end a b c (statements_code p 0 g.body) (Halt ∷ []) (statements_lines g.body) (statements_lined p 0 g.body) h k

  pub method_added : (a b c d e : Text) (g : Function) → Adds a b (header (g.parameters + 1) (vars_of g.body)) [] →
      AddsCode b c (statements_code p 1 g.body) (statements_lines g.body) →
      AddsCode c d (Bipush (pos 0) ∷ []) [] → AddsCode d e (Ireturn ∷ []) [] → AddsMethod p a e g
  method_added a b c d e g counts body push return =
      let last : AddsCode c e (Bipush (pos 0) ∷ Ireturn ∷ []) [] = then_code c d e (Bipush (pos 0) ∷ []) (Ireturn ∷ []) [] [] refl push return in
      let code : AddsCode b e (method_code p g) (statements_lines g.body) =
      straight_end b c e (statements_code p 1 g.body) (Bipush (pos 0) ∷ Ireturn ∷ []) (statements_lines g.body) (statements_lined p 1 g.body) body last in
      then a b e (header (g.parameters + 1) (vars_of g.body)) (code_bytes (method_code p g)) [] (method_part p (0, g)).jumps counts code

-- ---- the functions but main

abbrev pub Others : ℕ → ℕ → List declared.Function → List (ℕ × Function)
Others main n gs = filter (λ m. not (m.0 == main)) (enumerate_from n (map function_tree gs))

pub skipped : (main i : ℕ) (gs : List declared.Function) (g : declared.Function) → i < length gs → g ≡ get_or gs i g → i ≡ main →
    Others main i (drop i gs) ≡ Others main (i + 1) (drop (i + 1) gs)
skipped main i gs g lt is same =
    ap (Others main i) (drop_item gs i g lt is)
    ∙ ap (λ (b : Bool). cond (not b) ((i, function_tree g) ∷ Others main (i + 1) (drop (i + 1) gs)) (Others main (i + 1) (drop (i + 1) gs)))
    (⊎_elim (λ e. e.0) (λ e. absurd (e.1 same)) (eqb_tells i main))

pub taken : (main i : ℕ) (gs : List declared.Function) (g : declared.Function) → i < length gs → g ≡ get_or gs i g → i ≢ main →
    Others main i (drop i gs) ≡ (i, function_tree g) ∷ Others main (i + 1) (drop (i + 1) gs)
taken main i gs g lt is other =
    ap (Others main i) (drop_item gs i g lt is)
    ∙ ap (λ (b : Bool). cond (not b) ((i, function_tree g) ∷ Others main (i + 1) (drop (i + 1) gs)) (Others main (i + 1) (drop (i + 1) gs)))
    (⊎_elim (λ e. absurd (other e.1)) (λ e. e.0) (eqb_tells i main))

pub no_others : (main i : ℕ) (gs : List declared.Function) → length gs ≤ i → Others main i (drop i gs) ≡ []
no_others main i gs h = ap (Others main i) (drop_all i gs h)

-- ---- the whole

pub emitted : (p : Places) (fs : List declared.Function) (main : ℕ) (f : declared.Function) (g : Function) (a : Text) (b c : Units) →
    p ≡ places_of (program_of fs main) → main < length fs → f ≡ get_or fs main f → slice_get (map function_tree fs) main ≡ Some g →
    a.bytes.items ≡ [] → a.far ≡ None → AddsMain p a b.text (function_tree f) → b.entries.items ≡ [] →
    AddsMethods p b c (methods (program_of fs main)) → AreUnits (layout_of (program_of fs main) g) c
emitted p fs main f g a b c placed known is found empty near first none others =
    let program : Program = program_of fs main in
    let at : slice_get fs main ≡ Some f = slice_get_read fs (length fs) main f refl known is in
    let same : function_tree f ≡ g =
    same_Some (function_tree f) g (ap (option_map function_tree) (sym at) ∙ sym (slice_get-map function_tree fs main) ∙ found) in
    whole (layout_of program g) a b c empty near
    (subst (λ (q : Places). AddsMain q a b.text g) placed (subst (AddsMain p a b.text) same first)) none
    (subst (λ (q : Places). AddsMethods q b c (methods program)) placed others)
