-- The items spell the code, and begin with the note of what is seen before.
use Rattle.tiny_notes.proofs.Common.{◌≡◌, ℕ, ℤ, pos, ◌+◌, List, [], ◌∷◌, ◌++◌, Some, refl, sym, ap, ◌∙◌, subst, neg_ℤ, Instr, Isub, Iflt}
use Rattle.tiny_notes.proofs.Common.{IfIcmpeq, Goto, Istore, Pop, Ireturn, Out, row_of, size_of, arith, ◌≤◌, AreRead, Code, Frame, Header, Item, Spells}
use Rattle.tiny_notes.proofs.Common.{head_of, items_size, joins, straight_spells}
use Rattle.tiny_tree.specs.Prelude.{Term, Called, Group, Expr, Sum, Cond, Equal, Different, Less, Statement, Var, Assign, Calls, If, While, Return, Put, Halt, Else, no_else, else_block, Statements, no_statements, statement, Seen}
use Rattle.tiny_code.specs.Prelude.{Places, choice, code_size, loop, term_code, expr_code, steps_code, test_code, statement_code, statements_code, else_code, leave_code, CodeAt}
use Rattle.tiny_notes.proofs.Scenes.{note_of, set_of}
use Rattle.tiny_notes.proofs.Statements.{run_items, with_last, choice_items, leave_items, loop_items, statement_items, statements_items, else_items, sized}

-- items are read where their code stands
pub read_at : (text : List ℕ) (xs : List Item) (is : List Instr) (at : ℕ) → Spells xs is → CodeAt text at is → AreRead text at xs
read_at text [] is at h k = tt
read_at text (Code i n ∷ xs) [] at h k = absurd h
read_at text (Code i n ∷ xs) (j ∷ is) at h k = (
  k.1 ∙ ap Some (sym h.0),
  subst (λ (x : ℕ). AreRead text x xs) (ap (λ x. at + size_of (row_of x)) (sym h.0)) (read_at text xs is _ h.1 k.2),
)
read_at text (Header ∷ xs) is at h k = absurd h

pub code_end : (text : List ℕ) (is : List Instr) (at : ℕ) → CodeAt text at is → at + code_size is ≤ 65536
code_end text [] at h = omega (arith, h)
code_end text (i ∷ is) at h = omega (arith, code_end text is _ h.2)

module _ (p : Places) (f : Frame) where
  last_spells : (seen : Seen) (code : List Instr) (i : Instr) → Spells (with_last p f seen code i) (code ++ i ∷ [])
  last_spells seen code i =
      joins (run_items p f seen code) (Code i (note_of f seen 1) ∷ []) code (i ∷ []) (straight_spells f (set_of f.first seen) 0 code) (refl, tt)

  choice_spells : (seen : Seen) (test : List Instr) (jump : ℤ → Instr) (d : ℕ) (first second : List Item) (c1 c2 : List Instr)
      → Spells first c1 → Spells second c2 → Spells (choice_items p f seen test jump d first second) (choice test jump c1 c2)
  choice_spells seen test jump d first second c1 c2 h k =
      joins (run_items p f seen test) _ test _ (straight_spells f (set_of f.first seen) 0 test)
      (ap (λ n. jump (pos (6 + n))) (sized first c1 h), joins first _ c1 _ h (ap (λ n. Goto (pos (3 + n))) (sized second c2 k), k))

  leave_spells : (seen : Seen) (c : Cond) (n m : ℕ) → n ≡ m → Spells (leave_items p f seen c n) (leave_code p f.first c m)
  leave_spells seen (Equal a b) n m e = (refl, (ap (λ x. Goto (pos (6 + x))) e, tt))
  leave_spells seen (Different a b) n m e = (ap (λ x. IfIcmpeq (pos (6 + x))) e, tt)
  leave_spells seen (Less a b) n m e = (refl, (ap (λ x. Goto (pos (6 + x))) e, tt))

  loop_spells : (seen : Seen) (c : Cond) (body : List Item) (code : List Instr) → Spells body code
      → Spells (loop_items p f seen c body) (loop (test_code p f.first c) (leave_code p f.first c (code_size code)) code)
  loop_spells seen c body code h =
      let test : List Instr = test_code p f.first c in
      let leave : List Item = leave_items p f seen c (items_size body) in
      let out : List Instr = leave_code p f.first c (code_size code) in
      let l : Spells leave out = leave_spells seen c _ _ (sized body code h) in
      let far : code_size test + items_size leave + items_size body ≡ code_size test + code_size out + code_size code =
      omega (arith, sized leave out l, sized body code h) in
      joins (run_items p f seen test) _ test _ (straight_spells f (set_of f.first seen) 0 test)
      (joins leave _ out _ l (joins body _ code _ h (ap (λ n. Goto (neg_ℤ (pos n))) far, tt)))

  mutual
    statement_spells : (s : Statement) (seen : Seen) → Spells (statement_items p f s seen) (statement_code p f.first s)
    statement_spells (Var x e) seen = last_spells seen (expr_code p f.first e) (Istore (f.first + x))
    statement_spells (Assign x e) seen = last_spells seen (expr_code p f.first e) (Istore (f.first + x))
    statement_spells (Calls g args) seen = last_spells seen (term_code p f.first (Called g args)) Pop
    statement_spells (If line (Equal a b) taken other) seen = choice_spells seen _ IfIcmpeq 2 _ _ _ _ (else_spells other seen) (statements_spell taken seen)
    statement_spells (If line (Less a b) taken other) seen = choice_spells seen _ Iflt 1 _ _ _ _ (else_spells other seen) (statements_spell taken seen)
    statement_spells (If line (Different a b) taken other) seen = choice_spells seen _ IfIcmpeq 2 _ _ _ _ (statements_spell taken seen) (else_spells other seen)
    statement_spells (While line c body) seen =
        loop_spells seen c (statements_items p f body seen) (statements_code p f.first body) (statements_spell body seen)
    statement_spells (Return e) seen = last_spells seen (expr_code p f.first e) Ireturn
    statement_spells (Put e) seen = last_spells seen (expr_code p f.first e) Out
    statement_spells Halt seen = (refl, tt)

    pub statements_spell : (row : Statements) (seen : Seen) → Spells (statements_items p f row seen) (statements_code p f.first row)
    statements_spell no_statements seen = tt
    statements_spell (statement s rest) seen =
        joins (statement_items p f s seen) _ (statement_code p f.first s) _ (statement_spells s seen) (statements_spell rest _)

    else_spells : (other : Else) (seen : Seen) → Spells (else_items p f other seen) (else_code p f.first other)
    else_spells no_else seen = tt
    else_spells (else_block b) seen = statements_spell b seen

  -- ---- the first item

  abbrev Begins : Seen → List Item → Type 0
  Begins seen xs = head_of xs ≡ Some (note_of f seen 0)

  abbrev IsSome : List Instr → Type 0
  IsSome [] = ⊥
  IsSome (i ∷ is) = Unit {0}

  some_append : (a b : List Instr) → IsSome a → IsSome (a ++ b)
  some_append [] b h = absurd h
  some_append (i ∷ a) b h = tt

  mutual
    term_some : (t : Term) → IsSome (term_code p f.first t)
    term_some (Group e) = expr_some e
    term_some _ = tt

    expr_some : (e : Expr) → IsSome (expr_code p f.first e)
    expr_some (Sum first rest) = some_append (term_code p f.first first) (steps_code p f.first rest) (term_some first)

  test_some : (c : Cond) → IsSome (test_code p f.first c)
  test_some (Less a b) = some_append (expr_code p f.first a) (expr_code p f.first b ++ Isub ∷ []) (expr_some a)
  test_some (Equal a b) = some_append (expr_code p f.first a) (expr_code p f.first b) (expr_some a)
  test_some (Different a b) = some_append (expr_code p f.first a) (expr_code p f.first b) (expr_some a)

  run_begins : (seen : Seen) (code : List Instr) (post : List Item) → IsSome code → Begins seen (run_items p f seen code ++ post)
  run_begins seen [] post h = absurd h
  run_begins seen (i ∷ is) post h = refl

  statement_begins : (s : Statement) (seen : Seen) → Begins seen (statement_items p f s seen)
  statement_begins (Var x e) seen = run_begins seen (expr_code p f.first e) _ (expr_some e)
  statement_begins (Assign x e) seen = run_begins seen (expr_code p f.first e) _ (expr_some e)
  statement_begins (Calls g args) seen = refl
  statement_begins (If line (Equal a b) taken other) seen = run_begins seen (test_code p f.first (Equal a b)) _ (test_some (Equal a b))
  statement_begins (If line (Less a b) taken other) seen = run_begins seen (test_code p f.first (Less a b)) _ (test_some (Less a b))
  statement_begins (If line (Different a b) taken other) seen = run_begins seen (test_code p f.first (Different a b)) _ (test_some (Different a b))
  statement_begins (While line c body) seen = run_begins seen (test_code p f.first c) _ (test_some c)
  statement_begins (Return e) seen = run_begins seen (expr_code p f.first e) _ (expr_some e)
  statement_begins (Put e) seen = run_begins seen (expr_code p f.first e) _ (expr_some e)
  statement_begins Halt seen = refl

  begins_with : (seen : Seen) (xs post : List Item) → Begins seen xs → Begins seen (xs ++ post)
  begins_with seen [] post h = cc
  begins_with seen (x ∷ xs) post h = h

  pub row_begins : (row : Statements) (seen : Seen) (post : List Item) → Begins seen post → Begins seen (statements_items p f row seen ++ post)
  row_begins no_statements seen post h = h
  row_begins (statement s rest) seen post h =
      begins_with seen (statement_items p f s seen ++ statements_items p f rest _) post
      (begins_with seen (statement_items p f s seen) _ (statement_begins s seen))
