-- The units of a program, one after the other: main, then each method after its header.
use Rattle.tiny_notes.proofs.Common.{◌≡◌, ◌≢◌, ◌≤◌, ℕ, pos, ◌+◌, ◌-◌, ◌==◌, Bool, false, if◌then◌else◌, List, [], ◌∷◌, ◌++◌, Some}
use Rattle.tiny_notes.proofs.Common.{refl, sym, ap, ◌∙◌, subst, arith, append_assoc, nat_lt, slice_get, All, Contains, eq-eqb, le-ltb, All-nil}
use Rattle.tiny_notes.proofs.Common.{All-cons, All-head, All-tail, All-weaker, All-contains, All-contains_itself, Bipush, Ireturn, Invokevirtual}
use Rattle.tiny_notes.proofs.Common.{Halt as HaltCode}
use Rattle.tiny_notes.proofs.Common.{ImageView, params, AllMet, FindsMethod, Fine, HasHeader, Header, IsListed, Item, Locals, Spells, begun}
use Rattle.tiny_notes.proofs.Common.{head_of, head_there, header_after, in_pool, items_append, items_size, main_frame, main_scene, met, met_append}
use Rattle.tiny_notes.proofs.Common.{method_frame, method_scene, none, note_at, params_by, plain, takes}
use Rattle.tiny_notes.proofs.Common.{unit_fine, unit_items, unit_spells}
use Rattle.tiny_tree.specs.Prelude.{Function, Program, IsCallable, names_count, parameters_seen, IsNamed}
use Rattle.tiny_code.specs.Prelude.{Places, code_size, main_code, method_code, method_size, statements_code, methods, CodeAt, IsMethodAt, AreMethodsAt, Holds}
use Rattle.tiny_notes.proofs.Scenes.{Place, note_of, set_of}
use Rattle.tiny_notes.proofs.Statements.{statements_items, sized, block, statements_part}
use Rattle.tiny_notes.proofs.Spelled.{code_end, read_at, row_begins, statements_spell}

-- where a method begins only its parameters are set
abbrev set : ℕ → Function → Locals
set first g = set_of first (parameters_seen g)

unset : (g : Function) (k : ℕ) → g.parameters + 1 ≤ k → set 1 g k ≡ false
unset g k h =
    ap (λ (b : Bool). if b then false else nat_lt (k - 1) g.parameters) (le-ltb k 1 (omega (arith, h)))
    ∙ le-ltb (k - 1) g.parameters (omega (arith, h))

module _ (image : ImageView) (p : Places) (program : Program) where
  -- ---- the items of the units

  abbrev method_body : ℕ → Function → List Item
  method_body begin g = statements_items p (method_frame image begin) g.body (parameters_seen g)

  abbrev method_items : ℕ → Function → List Item
  method_items begin g = unit_items (method_frame image begin) (set 1 g) (method_body begin g) (Bipush (pos 0) ∷ []) Ireturn 1

  abbrev methods_items : ℕ → List (ℕ × Function) → List Item
  methods_items begin [] = []
  methods_items begin (m ∷ ms) = (Header ∷ method_items begin m.1) ++ methods_items (begin + method_size p m.1) ms

  abbrev main_body : Function → List Item
  main_body g = statements_items p (main_frame image) g.body (parameters_seen g)

  abbrev main_items : Function → List Item
  main_items g = unit_items (main_frame image) (set 0 g) (main_body g) [] HaltCode 0

  abbrev pub program_items : Function → List Item
  program_items g = main_items g ++ methods_items (code_size (main_code p g)) (methods program)

  -- ---- their code

  method_spells : (begin : ℕ) (g : Function) → Spells (method_items begin g) (method_code p g)
  method_spells begin g =
      unit_spells (method_frame image begin) (set 1 g) (method_body begin g) (Bipush (pos 0) ∷ []) Ireturn 1 (statements_code p 1 g.body)
      (statements_spell p (method_frame image begin) g.body (parameters_seen g))

  main_spells : (g : Function) → Spells (main_items g) (main_code p g)
  main_spells g =
      unit_spells (main_frame image) (set 0 g) (main_body g) [] HaltCode 0 (statements_code p 0 g.body)
      (statements_spell p (main_frame image) g.body (parameters_seen g))

  method_sized : (begin : ℕ) (g : Function) → items_size (method_items begin g) ≡ code_size (method_code p g)
  method_sized begin g = sized (method_items begin g) (method_code p g) (method_spells begin g)

  module _ (whole : List Item) where
    -- a method in the list of all items
    record Lies (f : ℕ) (g : Function) : Type 0 where
      begin : ℕ
      pre : List Item
      post : List Item
      at : begin ≡ items_size pre
      split : whole ≡ pre ++ ((Header ∷ method_items begin g) ++ post)
      stands : IsMethodAt image p begin f g

    -- the list from the method's code on
    code_split : (f : ℕ) (g : Function) (l : Lies f g) → whole ≡ (l.pre ++ Header ∷ []) ++ (method_items l.begin g ++ l.post)
    code_split f g l = l.split ∙ sym (append_assoc l.pre (Header ∷ []) (method_items l.begin g ++ l.post))

    code_begins : (f : ℕ) (g : Function) (l : Lies f g) → l.begin + 4 ≡ items_size (l.pre ++ Header ∷ [])
    code_begins f g l = omega (arith, l.at, items_append l.pre (Header ∷ []))

    -- ---- calls

    abbrev Finds : ℕ → ℕ → Type 0
    Finds f m = FindsMethod image (note_at whole) (p.entry f) × (takes image (Invokevirtual (p.entry f)) ≡ m + 1)

    lies_found : (f m : ℕ) (g : Function) (l : Lies f g) → g.parameters ≡ m → Finds f m
    lies_found f m g l same =
        let ends : List Item = unit_items (method_frame image l.begin) (set 1 g) [] (Bipush (pos 0) ∷ []) Ireturn 1 in
        let counted : params image.text l.begin ≡ m + 1 = omega (arith, l.stands.params, same) in
        let head : head_of (method_items l.begin g ++ l.post) ≡ Some (note_of (method_frame image l.begin) (parameters_seen g) 0) =
        ap head_of (append_assoc (method_body l.begin g) ends l.post)
        ∙ row_begins p (method_frame image l.begin) g.body (parameters_seen g) (ends ++ l.post) refl in (
          record {
            entry = l.begin;
            constant = l.stands.entry;
            inside = l.stands.inside;
            begins = note_of (method_frame image l.begin) (parameters_seen g) 0;
            there = head_there whole (l.pre ++ Header ∷ []) _ _ _ head (code_split f g l) (code_begins f g l);
            unit = refl;
            depth = refl;
            unset = λ k own. unset g k (omega (arith, own.0, l.stands.params));
          },
          ap (params_by image.text) l.stands.entry ∙ counted,
        )

    -- ---- methods

    module _ (named : IsNamed program) (holds : Holds image p program) (finds : (f m : ℕ) → IsCallable program f m → Finds f m) where
      headed : (f : ℕ) (g : Function) (l : Lies f g) → HasHeader 0 whole l.begin
      headed f g l =
          let begin : 0 + items_size l.pre ≡ l.begin = omega (arith, l.at) in
          subst (λ (x : List Item). HasHeader 0 x l.begin) (sym l.split)
          (subst (HasHeader 0 (l.pre ++ (Header ∷ (method_items l.begin g ++ l.post)))) begin (header_after l.pre (method_items l.begin g ++ l.post) 0))

      abbrev method_place : (f : ℕ) (g : Function) (l : Lies f g) → Place
      method_place f g l = record {
        scene = method_scene image whole (names_count g) l.begin
            (omega (arith, l.stands.params), omega (arith, l.stands.params, l.stands.others)) (headed f g l);
        places = p;
        program = program;
        in_main = f == program.main;
        object = in_pool image.pool 0 0 holds.object;
        finds = finds;
        main = λ e. cc;
      }

      -- a method's items meet their notes
      method_fine : (f : ℕ) (g : Function) (l : Lies f g) → slice_get program.functions f ≡ Some g
          → Fine (method_place f g l).scene (set 1 g) (l.begin + 4) (method_items l.begin g)
      method_fine f g l is =
          let t : Place = method_place f g l in
          let part = block t g.body (parameters_seen g) (statements_part t g.body (parameters_seen g) (holds.numbers f g is) (named.functions f g is).body) in
          unit_fine t.scene (set 1 g) (method_body l.begin g) (Bipush (pos 0) ∷ []) Ireturn 1 (l.pre ++ Header ∷ []) l.post (l.begin + 4) part
          (begun t.scene (set 1 g) (record { finds = plain; enough = omega arith; no_jump = refl }) refl (none t.scene (set 1 g) 1))
          (λ mid i. met t.scene (set 1 g) Ireturn mid 1 i (tt, tt, (λ e. cc), tt, tt, tt) (omega arith) tt tt)
          (code_split f g l) (code_begins f g l) (read_at image.text (method_items l.begin g) (method_code p g) _ (method_spells l.begin g) l.stands.code)
          (omega (arith, code_end image.text (method_code p g) _ l.stands.code, method_sized l.begin g))

    -- ---- one method after the other

    abbrev first_lies : (pre : List Item) (begin : ℕ) (m : ℕ × Function) (ms : List (ℕ × Function)) → begin ≡ items_size pre
        → whole ≡ pre ++ methods_items begin (m ∷ ms)
        → AreMethodsAt image p begin (m ∷ ms) → Lies m.0 m.1
    first_lies pre begin m ms at split laid = record {
      begin = begin;
      pre = pre;
      post = methods_items (begin + method_size p m.1) ms;
      at = at;
      split = split;
      stands = laid.0;
    }

    next_split : (pre : List Item) (begin : ℕ) (m : ℕ × Function) (ms : List (ℕ × Function)) → whole ≡ pre ++ methods_items begin (m ∷ ms)
        → whole ≡ (pre ++ Header ∷ method_items begin m.1) ++ methods_items (begin + method_size p m.1) ms
    next_split pre begin m ms split = split ∙ sym (append_assoc pre (Header ∷ method_items begin m.1) (methods_items (begin + method_size p m.1) ms))

    next_at : (pre : List Item) (begin : ℕ) (g : Function) → begin ≡ items_size pre
        → begin + method_size p g ≡ items_size (pre ++ Header ∷ method_items begin g)
    next_at pre begin g at = omega (arith, at, items_append pre (Header ∷ method_items begin g), method_sized begin g)

    lie : (ms : List (ℕ × Function)) (pre : List Item) (begin : ℕ) → begin ≡ items_size pre → whole ≡ pre ++ methods_items begin ms
        → AreMethodsAt image p begin ms → All (λ m. Lies m.0 m.1) ms
    lie [] pre begin at split laid = All-nil (λ m. Lies m.0 m.1)
    lie (m ∷ ms) pre begin at split laid =
        All-cons (λ x. Lies x.0 x.1) m ms (first_lies pre begin m ms at split laid)
        (lie ms (pre ++ Header ∷ method_items begin m.1) _ (next_at pre begin m.1 at) (next_split pre begin m ms split) laid.1)

    -- the functions of these positions
    abbrev AreFunctions : List (ℕ × Function) → Type 0
    AreFunctions ms = All (λ m. slice_get program.functions m.0 ≡ Some m.1) ms

    methods_met : (named : IsNamed program) (holds : Holds image p program) (finds : (f m : ℕ) → IsCallable program f m → Finds f m)
        (ms : List (ℕ × Function)) (pre : List Item) (begin : ℕ) → begin ≡ items_size pre → whole ≡ pre ++ methods_items begin ms
        → AreMethodsAt image p begin ms → AreFunctions ms → AllMet image whole begin (methods_items begin ms)
    methods_met named holds finds [] pre begin at split laid are = tt
    methods_met named holds finds (m ∷ ms) pre begin at split laid are =
        let known : ℕ × Function → Type 0 = λ x. slice_get program.functions x.0 ≡ Some x.1 in
        let next : ℕ = begin + method_size p m.1 in
        let place : next ≡ begin + items_size (Header ∷ method_items begin m.1) = omega (arith, method_sized begin m.1) in
        met_append image whole (Header ∷ method_items begin m.1) (methods_items next ms) begin
        (method_fine named holds finds m.0 m.1 (first_lies pre begin m ms at split laid) (All-head known m ms are)).met
        (subst (λ (x : ℕ). AllMet image whole x (methods_items next ms)) place
        (methods_met named holds finds ms _ next (next_at pre begin m.1 at) (next_split pre begin m ms split) laid.1 (All-tail known m ms are)))

  -- ---- main, and the whole list

  pub listed : IsNamed program → Holds image p program
      → ((f : ℕ) (g : Function) → slice_get program.functions f ≡ Some g → f ≢ program.main → Contains (methods program) (f, g))
      → ((f : ℕ) (g : Function) → Contains (methods program) (f, g) → (slice_get program.functions f ≡ Some g) × (f ≢ program.main))
      → (g : Function) → slice_get program.functions program.main ≡ Some g → CodeAt image.text 0 (main_code p g)
      → AreMethodsAt image p (code_size (main_code p g)) (methods program) → IsListed image (program_items g)
  listed named holds complete sound g is code_at stand =
      let whole : List Item = program_items g in
      let size : ℕ = code_size (main_code p g) in
      let rest : List Item = methods_items size (methods program) in
      let place : items_size (main_items g) ≡ size = sized (main_items g) (main_code p g) (main_spells g) in
      let finds : (f m : ℕ) → IsCallable program f m → Finds whole f m =
      λ f m c. lies_found whole f m c.function
      (All-contains (λ x. Lies whole x.0 x.1) (methods program) (f, c.function) (lie whole (methods program) _ size (sym place) refl stand)
      (complete f c.function c.is c.other)) c.counts in
      let are : AreFunctions whole (methods program) =
      All-weaker (Contains (methods program)) (λ m. slice_get program.functions m.0 ≡ Some m.1) (λ m c. (sound m.0 m.1 c).0)
      (methods program) (All-contains_itself (methods program)) in
      let few : names_count g ≤ 255 = (named.functions program.main g is).few in
      let t : Place =
      record {
        scene = main_scene image whole (names_count g) (omega (arith, few));
        places = p;
        program = program;
        in_main = program.main == program.main;
        object = in_pool _ 0 0 holds.object;
        finds = finds;
        main = λ h. eq-eqb program.main program.main refl;
      } in
      let part =
      block t g.body (parameters_seen g)
      (statements_part t g.body (parameters_seen g) (holds.numbers program.main g is) (named.functions program.main g is).body) in
      let fine : Fine t.scene (set 0 g) 0 (main_items g) =
      unit_fine t.scene (set 0 g) (main_body g) [] HaltCode 0 [] rest 0 part (none t.scene (set 0 g) 0)
      (λ mid i. met t.scene (set 0 g) HaltCode mid 0 i plain (omega arith) tt tt)
      refl refl (read_at image.text (main_items g) (main_code p g) 0 (main_spells g) code_at)
      (omega (arith, code_end image.text (main_code p g) 0 code_at, place)) in
      let later : AllMet image whole (0 + items_size (main_items g)) rest =
      subst (λ (x : ℕ). AllMet image whole x rest) (omega (arith, place))
      (methods_met whole named holds finds (methods program) (main_items g) size (sym place) refl stand are) in
      record {
        start = (fine.first, fine.there, fine.suits.unit, fine.suits.depth);
        met = met_append image whole (main_items g) rest 0 fine.met later;
      }
