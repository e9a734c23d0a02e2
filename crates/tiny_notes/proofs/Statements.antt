-- The items of statements, which meet their notes wherever they stand.
use Rattle.tiny_notes.proofs.Common.{◌≡◌, ◌<◌, ◌≤◌, ℕ, ℤ, pos, ◌+◌, ◌==◌, Bool, true, false, if◌then◌else◌, List, [], ◌∷◌, ◌++◌, Some, refl, sym}
use Rattle.tiny_notes.proofs.Common.{ap, ◌∙◌, subst, arith, append_assoc, neg_ℤ, slice_get, true≢false, Instr, Istore, Pop, Isub, Iflt, IfIcmpeq, Goto}
use Rattle.tiny_notes.proofs.Common.{Ireturn, Locals, Out, Halt as HaltCode, row_of, size_of, target, Code, Fine, Frame, Header, IsAt, IsBranch, Item, Met}
use Rattle.tiny_notes.proofs.Common.{MetWith, Note, Part}
use Rattle.tiny_notes.proofs.Common.{Scene, Spells, Stands, Suits, There, branch_met, items_append, items_size, at_depth, head_note, its_own, led, met}
use Rattle.tiny_notes.proofs.Common.{met_append, note_at, part_append, part_none, plain}
use Rattle.tiny_notes.proofs.Common.{run_fine, simple_met, stands_back, stands_end, stands_front, straight, straight_spells, suits_wider}
use Rattle.tiny_tree.specs.Prelude.{Called, Expr, Cond, Equal, Different, Less, Statement, Var, Assign, Calls, If, While, Return, Put, Halt, Else, no_else, else_block, Statements, no_statements, statement, Seen, seen_with, seen_after, IsNamedExpr, IsNamedCond, IsNamedStatement, AreNamed, IsNamedElse}
use Rattle.tiny_code.specs.Prelude.{Places, code_size, term_code, expr_code, test_code, expr_numbers, cond_numbers, statement_numbers, statements_numbers, else_numbers, HasNumbers, backward, forward}
use Rattle.tiny_notes.proofs.Scenes.{Place, note_of, set_of, set_stored, set_wider}
use Rattle.tiny_notes.proofs.Straight.{Goes, begin_with, both, done, expr_runs, join, term_runs}

-- ---- the items

module _ (p : Places) (f : Frame) where
  -- the code of a value or a test
  abbrev pub run_items : Seen → List Instr → List Item
  run_items seen code = straight f (set_of f.first seen) 0 code

  -- a value's code, and one instruction after it
  abbrev pub with_last : Seen → List Instr → Instr → List Item
  with_last seen code i = run_items seen code ++ Code i (note_of f seen 1) ∷ []

  abbrev pub choice_items : Seen → List Instr → (ℤ → Instr) → ℕ → List Item → List Item → List Item
  choice_items seen test jump d first second =
      run_items seen test ++ (Code (jump (pos (6 + items_size first))) (note_of f seen d)
      ∷ (first ++ (Code (Goto (pos (3 + items_size second))) (note_of f seen 0) ∷ second)))

  abbrev pub if_items : Seen → Cond → List Item → List Item → List Item
  if_items seen (Different a b) taken other = choice_items seen (test_code p f.first (Different a b)) IfIcmpeq 2 taken other
  if_items seen (Equal a b) taken other = choice_items seen (test_code p f.first (Equal a b)) IfIcmpeq 2 other taken
  if_items seen (Less a b) taken other = choice_items seen (test_code p f.first (Less a b)) Iflt 1 other taken

  abbrev pub leave_items : Seen → Cond → ℕ → List Item
  leave_items seen (Different a b) size = Code (IfIcmpeq (pos (6 + size))) (note_of f seen 2) ∷ []
  leave_items seen (Equal a b) size = Code (IfIcmpeq (pos 6)) (note_of f seen 2) ∷ Code (Goto (pos (6 + size))) (note_of f seen 0) ∷ []
  leave_items seen (Less a b) size = Code (Iflt (pos 6)) (note_of f seen 1) ∷ Code (Goto (pos (6 + size))) (note_of f seen 0) ∷ []

  -- the jump back from after the body
  abbrev pub again_items : Seen → Cond → List Item → List Item
  again_items seen c body =
      Code (Goto (neg_ℤ (pos (code_size (test_code p f.first c) + items_size (leave_items seen c (items_size body)) + items_size body))))
      (note_of f seen 0) ∷ []

  abbrev pub loop_items : Seen → Cond → List Item → List Item
  loop_items seen c body = run_items seen (test_code p f.first c) ++ (leave_items seen c (items_size body) ++ (body ++ again_items seen c body))

  abbrev mutual
    pub statement_items : Statement → Seen → List Item
    statement_items (Var x e) seen = with_last seen (expr_code p f.first e) (Istore (f.first + x))
    statement_items (Assign x e) seen = with_last seen (expr_code p f.first e) (Istore (f.first + x))
    statement_items (Calls g args) seen = with_last seen (term_code p f.first (Called g args)) Pop
    statement_items (If line c taken other) seen = if_items seen c (statements_items taken seen) (else_items other seen)
    statement_items (While line c body) seen = loop_items seen c (statements_items body seen)
    statement_items (Return e) seen = with_last seen (expr_code p f.first e) Ireturn
    statement_items (Put e) seen = with_last seen (expr_code p f.first e) Out
    statement_items Halt seen = Code HaltCode (note_of f seen 0) ∷ []

    pub statements_items : Statements → Seen → List Item
    statements_items no_statements seen = []
    statements_items (statement s rest) seen = statement_items s seen ++ statements_items rest (seen_after s seen)

    pub else_items : Else → Seen → List Item
    else_items no_else seen = []
    else_items (else_block b) seen = statements_items b seen

-- what is seen after all of these statements, which is no less than before
abbrev pub seen_afters : Statements → Seen → Seen
seen_afters no_statements seen = seen
seen_afters (statement s rest) seen = seen_afters rest (seen_after s seen)

grows_with : (seen : Seen) (x y : ℕ) → seen y ≡ true → seen_with seen x y ≡ true
grows_with seen x y h = by (y == x)
  where
    by : (b : Bool) → (if b then true else seen y) ≡ true
    by true = refl
    by false = h

grows : (s : Statement) (seen : Seen) (y : ℕ) → seen y ≡ true → seen_after s seen y ≡ true
grows (Var x e) seen y h = grows_with seen x y h
grows s seen y h = h

grows_all : (row : Statements) (seen : Seen) (y : ℕ) → seen y ≡ true → seen_afters row seen y ≡ true
grows_all no_statements seen y h = h
grows_all (statement s rest) seen y h = grows_all rest (seen_after s seen) y (grows s seen y h)

pub sized : (xs : List Item) (is : List Instr) → Spells xs is → items_size xs ≡ code_size is
sized [] [] h = refl
sized [] (j ∷ is) h = absurd h
sized (Code i n ∷ xs) [] h = absurd h
sized (Code i n ∷ xs) (j ∷ is) h =
    let e : size_of (row_of i) ≡ size_of (row_of j) = ap (λ x. size_of (row_of x)) h.0 in
    omega (arith, e, sized xs is h.1)
sized (Header ∷ xs) is h = absurd h

-- ---- parts of a unit's code

module _ (t : Place) where
  abbrev u : Scene
  u = t.scene

  abbrev set : Seen → Locals
  set seen = set_of t.scene.frame.first seen

  -- the pool has this number, or all of these, at their places
  abbrev IsKnown : ℕ → Type 0
  IsKnown n = slice_get u.frame.image.pool (t.places.constant n) ≡ Some n

  abbrev Has : List ℕ → Type 0
  Has ns = HasNumbers u.frame.image t.places ns

  -- the items are fine wherever they stand, with a note after them that suits what is seen then
  abbrev pub SeenPart : Seen → Seen → List Item → Type 0
  SeenPart seen after xs = Part t.scene (set_of t.scene.frame.first seen) (set_of t.scene.frame.first after) xs

  abbrev Follows : Seen → Note → Type 0
  Follows seen m = Suits u.frame (set seen) 0 m

  module _ (seen : Seen) where
    abbrev note : ℕ → Note
    note d = note_of u.frame seen d

    own : Follows seen (note 0)
    own = its_own u.frame (set seen) 0

    abbrev Meets : ℕ → Instr → ℕ → Type 0
    Meets = MetWith u (set seen)

    abbrev tested : List Instr → List Item
    tested code = straight u.frame (set seen) 0 code

    -- what an instruction does with a value, wherever it stands
    abbrev Takes : Seen → Instr → Type 0
    Takes after i = (mid : ℕ) (last : Note) → Follows after last → IsAt u mid i → There u (mid + size_of (row_of i)) last → Meets mid i 1

    last_part : (after : Seen) (code : List Instr) (i : Instr) → Goes t seen code 0 1 → Takes after i
        → SeenPart seen after (with_last t.places u.frame seen code i)
    last_part after code i run takes at last h s small =
        let b : Stands u (at + items_size (tested code)) (Code i (note 1) ∷ []) last = stands_back u (tested code) _ at last h in
        run_fine u (set seen) code 1 at _ last run h b.1 (takes _ last s b.0 b.2, tt)

    halt_part : SeenPart seen seen (Code HaltCode (note 0) ∷ [])
    halt_part at last h s small = record { met = (met u (set seen) HaltCode at 0 h.0 plain (omega arith) tt tt, tt); first = note 0; there = h.1; suits = own }

    goto_met : (at to : ℕ) (o : ℤ) (m : Note) → IsAt u at (Goto o) → target at o ≡ to → There u to m → Follows seen m → Meets at (Goto o) 0
    goto_met at to o m is leads there s =
        met u (set seen) (Goto o) at 0 is plain (omega arith) tt (led u (set seen) (Goto o) 0 _ m (ap (note_at u.whole) leads ∙ there) (omega arith) s)

    abbrev Branch : Instr → ℤ → ℕ → Type 0
    Branch = IsBranch u (set seen)

    icmpeq : (o : ℤ) → Branch (IfIcmpeq o) o 2
    icmpeq o = record { finds = plain; ways = (refl, refl); takes_is = refl; gives = refl; size = refl }

    iflt : (o : ℤ) → Branch (Iflt o) o 1
    iflt o = record { finds = plain; ways = (refl, refl); takes_is = refl; gives = refl; size = refl }

    choice_part : (test : List Instr) (jump : ℤ → Instr) (d : ℕ) (first second : List Item) → Goes t seen test 0 d
        → Branch (jump (pos (6 + items_size first))) (pos (6 + items_size first)) d → SeenPart seen seen first → SeenPart seen seen second
        → SeenPart seen seen (choice_items t.places u.frame seen test jump d first second)
    choice_part test jump d first second run b one two at last h suits small =
        let a : List Item = tested test in
        let i : Instr = jump (pos (6 + items_size first)) in
        let o : Instr = Goto (pos (3 + items_size second)) in
        let tail2 : List Item = Code o (note 0) ∷ second in
        let tail : List Item = first ++ tail2 in
        let mid : ℕ = at + items_size a in
        let over : ℕ = mid + 3 + items_size first in
        let end : ℕ = over + 3 + items_size second in
        let j : Stands u mid (Code i (note d) ∷ tail) last = stands_back u a _ at last h in
        let rest : Stands u (mid + 3) tail last = subst (λ (x : ℕ). Stands u (mid + x) tail last) b.size j.2 in
        let g : Stands u over tail2 last = stands_back u first tail2 _ last rest in
        let total : at + items_size (choice_items t.places u.frame seen test jump d first second) ≡ end =
        omega (arith, b.size, items_append a (Code i (note d) ∷ tail), items_append first tail2) in
        let x : Fine u (set seen) (mid + 3) first =
        one (mid + 3) (note 0) (stands_front u first tail2 _ last _ rest g.1) own (omega (arith, small, total)) in
        let y : Fine u (set seen) (over + 3) second = two (over + 3) last g.2 suits (omega (arith, small, total)) in
        let t1 : target mid (pos (6 + items_size first)) ≡ over + 3 = forward mid (6 + items_size first) (omega (arith, small, total)) ∙ omega arith in
        let t2 : target over (pos (3 + items_size second)) ≡ end = forward over (3 + items_size second) (omega (arith, small, total)) ∙ omega arith in
        let jumps : Meets mid i d = branch_met u (set seen) i _ mid d _ x.first y.first b j.0 x.there x.suits t1 y.there y.suits in
        let past : Meets over o 0 = goto_met over end _ last g.0 t2 (stands_end u second _ last g.2) suits in
        let after : Met u (mid + 3) tail = met_append u.frame.image u.whole first tail2 (mid + 3) x.met (past, y.met) in
        run_fine u (set seen) test d at _ last run h j.1 (jumps, subst (λ (x : ℕ). Met u (mid + x) tail) (sym b.size) after)

    -- ---- loops

    abbrev test_depth : Cond → ℕ
    test_depth (Equal a b) = 2
    test_depth (Different a b) = 2
    test_depth (Less a b) = 1

    -- a jump over the next one
    over_met : (i : Instr) (d size mid : ℕ) (m last : Note) → Branch i (pos 6) d → Stands u mid (Code i (note d) ∷ Code (Goto (pos (6 + size))) (note 0) ∷ []) m
        → Follows seen m → mid + 9 + size ≤ 65536 → There u (mid + 9 + size) last → Follows seen last
        → Met u mid (Code i (note d) ∷ Code (Goto (pos (6 + size))) (note 0) ∷ [])
    over_met i d size mid m last b h s small end l =
        let o : Instr = Goto (pos (6 + size)) in
        let g : Stands u (mid + 3) (Code o (note 0) ∷ []) m = subst (λ (x : ℕ). Stands u (mid + x) (Code o (note 0) ∷ []) m) b.size h.2 in
        let t1 : target mid (pos 6) ≡ mid + 3 + 3 = forward mid 6 (omega (arith, small)) ∙ omega arith in
        let t2 : target (mid + 3) (pos (6 + size)) ≡ mid + 9 + size = forward (mid + 3) (6 + size) (omega (arith, small)) ∙ omega arith in
        let two : Meets (mid + 3) o 0 = goto_met _ _ _ last g.0 t2 end l in (
          branch_met u (set seen) i _ mid d _ _ m b h.0 g.1 own t1 g.2 s,
          subst (λ (x : ℕ). Met u (mid + x) (Code o (note 0) ∷ [])) (sym b.size) (two, tt),
        )

    leave_met : (c : Cond) (size mid : ℕ) (m last : Note) → Stands u mid (leave_items t.places u.frame seen c size) m → Follows seen m
        → mid + items_size (leave_items t.places u.frame seen c size) + size + 3 ≤ 65536
        → There u (mid + items_size (leave_items t.places u.frame seen c size) + size + 3) last → Follows seen last
        → Met u mid (leave_items t.places u.frame seen c size)
    leave_met (Different a b) size mid m last h s small end l =
        let t2 : target mid (pos (6 + size)) ≡ mid + 3 + size + 3 = forward mid (6 + size) (omega (arith, small)) ∙ omega arith in (
          branch_met u (set seen) _ _ mid 2 _ m last (icmpeq _) h.0 h.2 s t2 end l,
          tt,
        )
    leave_met (Equal a b) size mid m last h s small end l =
        let e : mid + 9 + size ≡ mid + 6 + size + 3 = omega arith in
        over_met _ 2 size mid m last (icmpeq _) h s (omega (arith, small)) (ap (note_at u.whole) e ∙ end) l
    leave_met (Less a b) size mid m last h s small end l =
        let e : mid + 9 + size ≡ mid + 6 + size + 3 = omega arith in
        over_met _ 1 size mid m last (iflt _) h s (omega (arith, small)) (ap (note_at u.whole) e ∙ end) l

    leave_first : (c : Cond) (size mid : ℕ) (m : Note) → Stands u mid (leave_items t.places u.frame seen c size) m → There u mid (note (test_depth c))
    leave_first (Equal a b) size mid m h = h.1
    leave_first _ size mid m h = h.1

    loop_part : (c : Cond) (body : List Item) → Goes t seen (test_code t.places u.frame.first c) 0 (test_depth c) → SeenPart seen seen body
        → SeenPart seen seen (loop_items t.places u.frame seen c body)
    loop_part c body run inner at last h suits small =
        let test : List Instr = test_code t.places u.frame.first c in
        let a : List Item = tested test in
        let leave : List Item = leave_items t.places u.frame seen c (items_size body) in
        let far : ℕ = code_size test + items_size leave + items_size body in
        let again : List Item = again_items t.places u.frame seen c body in
        let tail : List Item = body ++ again in
        let mid : ℕ = at + items_size a in
        let b : ℕ = mid + items_size leave in
        let size : items_size a ≡ code_size test = sized a test (straight_spells u.frame (set seen) 0 test) in
        let l : Stands u mid (leave ++ tail) last = stands_back u a _ at last h in
        let k : Stands u b tail last = stands_back u leave tail mid last l in
        let g : Stands u (b + items_size body) again last = stands_back u body again b last k in
        let total : at + items_size (loop_items t.places u.frame seen c body) ≡ b + items_size body + 3 =
        omega (arith, items_append a (leave ++ tail), items_append leave tail, items_append body again) in
        let x : Fine u (set seen) b body = inner b (note 0) (stands_front u body again b last _ k g.1) own (omega (arith, small, total)) in
        let in_leave : Stands u mid leave x.first = stands_front u leave tail mid last x.first l x.there in
        let leaves : Met u mid leave = leave_met c _ mid x.first last in_leave x.suits (omega (arith, small, total)) g.2 suits in
        let next : There u mid (note (test_depth c)) = leave_first c _ mid x.first in_leave in
        let place : b + items_size body ≡ at + far = omega (arith, size) in
        let leads : target (b + items_size body) (neg_ℤ (pos far)) ≡ at =
        ap (λ (y : ℕ). target y (neg_ℤ (pos far))) place ∙ backward at far (omega (arith, small, total, size)) in
        let front : Stands u at a (note (test_depth c)) = stands_front u a _ at last _ h next in
        let begin = head_note u (set seen) test at 0 _ front (at_depth u.frame (set seen) _ _ _ (sym run.depth) (its_own u.frame (set seen) _)) in
        let back : Meets (b + items_size body) (Goto (neg_ℤ (pos far))) 0 = goto_met _ at _ begin.0 g.0 leads begin.1 begin.2 in
        let after : Met u mid (leave ++ tail) =
        met_append u.frame.image u.whole leave tail mid leaves (met_append u.frame.image u.whole body again b x.met (back, tt)) in
        run_fine u (set seen) test _ at _ last run h next after

    -- ---- from the tree

    sides_run : (a b : Expr) → Has (expr_numbers a ++ expr_numbers b) → IsNamedExpr t.program u.many seen a × IsNamedExpr t.program u.many seen b
        → Goes t seen (expr_code t.places u.frame.first a ++ expr_code t.places u.frame.first b) 0 2
    sides_run a b known named =
        let has : Has (expr_numbers a) × Has (expr_numbers b) = both IsKnown _ _ known in
        join t seen (expr_runs t seen a 0 has.0 named.0) (expr_runs t seen b 1 has.1 named.1)

    test_runs : (c : Cond) → Has (cond_numbers c) → IsNamedCond t.program u.many seen c
        → Goes t seen (test_code t.places u.frame.first c) 0 (test_depth c)
    test_runs (Equal a b) known named = sides_run a b known named
    test_runs (Different a b) known named = sides_run a b known named
    test_runs (Less a b) known named =
        let left : List Instr = expr_code t.places u.frame.first a in
        let right : List Instr = expr_code t.places u.frame.first b in
        let less : Goes t seen (Isub ∷ []) 2 1 = begin_with t seen (record { finds = plain; enough = omega arith; no_jump = refl }) refl (done t seen 1) in
        subst (λ (is : List Instr). Goes t seen is 0 1) (append_assoc left right (Isub ∷ [])) (join t seen (sides_run a b known named) less)

    -- a value's end: it is written, dropped, given back, or stored
    out_takes : Takes seen Out
    out_takes mid last s is there = simple_met u (set seen) Out mid 1 last (record { finds = plain; enough = omega arith; no_jump = refl }) is there s

    pop_takes : Takes seen Pop
    pop_takes mid last s is there = simple_met u (set seen) Pop mid 1 last (record { finds = plain; enough = omega arith; no_jump = refl }) is there s

    return_takes : t.in_main ≡ false → Takes seen Ireturn
    return_takes out mid last s is there =
        met u (set seen) Ireturn mid 1 is (tt, tt, (λ e. true≢false (sym (t.main e) ∙ out)), tt, tt, tt) (omega arith) tt tt

    store_takes : (x : ℕ) → x < u.many → Takes (seen_with seen x) (Istore (u.frame.first + x))
    store_takes x few mid last s is there =
        met u (set seen) (Istore (u.frame.first + x)) mid 1 is (tt, tt, tt, tt, tt, (omega arith, omega (arith, few))) (omega arith)
        (last, there, record { unit = s.unit; depth = omega (arith, s.depth); set = λ k e. set_stored u.frame.first x k seen (s.set_before k e) }) tt

  -- the numbers of a choice, part by part
  choice_numbers : (c : Cond) (taken : Statements) (other : Else) → Has (cond_numbers c ++ (statements_numbers taken ++ else_numbers other))
      → Has (cond_numbers c) × Has (statements_numbers taken) × Has (else_numbers other)
  choice_numbers c taken other known =
      let one = both IsKnown _ _ known in
      let two = both IsKnown _ _ one.1 in
      (one.0, two.0, two.1)

  wider : (seen wide : Seen) → ((x : ℕ) → seen x ≡ true → wide x ≡ true) → (m : Note) → Follows seen m → Follows wide m
  wider seen wide grow m s = suits_wider u (set seen) (set wide) 0 m (set_wider u.frame.first seen wide grow) s

  -- a block in braces, after which its own variables are not seen
  pub block : (row : Statements) (seen : Seen) → SeenPart seen (seen_afters row seen) (statements_items t.places u.frame row seen)
      → SeenPart seen seen (statements_items t.places u.frame row seen)
  block row seen part at last h s small = part at last h (wider seen (seen_afters row seen) (grows_all row seen) last s) small

  mutual
    statement_part : (s : Statement) (seen : Seen) → Has (statement_numbers s)
        → IsNamedStatement t.program t.in_main u.many s seen → SeenPart seen (seen_after s seen) (statement_items t.places u.frame s seen)
    statement_part (Var x e) seen known named =
        last_part seen (seen_with seen x) _ _ (expr_runs t seen e 0 known named.0) (store_takes seen x named.1)
    statement_part (Assign x e) seen known named =
        last_part seen seen _ _ (expr_runs t seen e 0 known named.0)
        (λ mid last s is there. store_takes seen x named.2 mid last (wider seen _ (grows_with seen x) last s) is there)
    statement_part (Calls g args) seen known named =
        last_part seen seen (term_code t.places u.frame.first (Called g args)) Pop (term_runs t seen (Called g args) 0 known named) (pop_takes seen)
    statement_part (If line (Equal a b) taken other) seen known named =
        let has = choice_numbers (Equal a b) taken other known in
        choice_part seen _ IfIcmpeq 2 _ _ (test_runs seen (Equal a b) has.0 named.0) (icmpeq seen _)
        (else_part other seen has.2 named.2) (block taken seen (statements_part taken seen has.1 named.1))
    statement_part (If line (Less a b) taken other) seen known named =
        let has = choice_numbers (Less a b) taken other known in
        choice_part seen _ Iflt 1 _ _ (test_runs seen (Less a b) has.0 named.0) (iflt seen _)
        (else_part other seen has.2 named.2) (block taken seen (statements_part taken seen has.1 named.1))
    statement_part (If line (Different a b) taken other) seen known named =
        let has = choice_numbers (Different a b) taken other known in
        choice_part seen _ IfIcmpeq 2 _ _ (test_runs seen (Different a b) has.0 named.0) (icmpeq seen _)
        (block taken seen (statements_part taken seen has.1 named.1)) (else_part other seen has.2 named.2)
    statement_part (While line c body) seen known named =
        let has : Has (cond_numbers c) × Has (statements_numbers body) = both IsKnown _ _ known in
        loop_part seen c _ (test_runs seen c has.0 named.0) (block body seen (statements_part body seen has.1 named.1))
    statement_part (Return e) seen known named = last_part seen seen _ Ireturn (expr_runs t seen e 0 known named.0) (return_takes seen named.1)
    statement_part (Put e) seen known named = last_part seen seen _ Out (expr_runs t seen e 0 known named) (out_takes seen)
    statement_part Halt seen known named = halt_part seen

    pub statements_part : (row : Statements) (seen : Seen) → Has (statements_numbers row)
        → AreNamed t.program t.in_main u.many row seen → SeenPart seen (seen_afters row seen) (statements_items t.places u.frame row seen)
    statements_part no_statements seen known named = part_none u (set seen)
    statements_part (statement s rest) seen known named =
        let has : Has (statement_numbers s) × Has (statements_numbers rest) = both IsKnown _ _ known in
        part_append u _ (set (seen_after s seen)) _ _ _ (statement_part s seen has.0 named.0) (statements_part rest _ has.1 named.1)

    else_part : (other : Else) (seen : Seen) → Has (else_numbers other)
        → IsNamedElse t.program t.in_main u.many other seen → SeenPart seen seen (else_items t.places u.frame other seen)
    else_part no_else seen known named = part_none u (set seen)
    else_part (else_block b) seen known named = block b seen (statements_part b seen known named)
