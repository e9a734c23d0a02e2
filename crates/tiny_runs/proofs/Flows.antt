-- The code of statements does what they do.
use Rattle.tiny_runs.proofs.Common.{◌≡◌, ◌≢◌, ◌≤◌, ◌⊎◌, inl, inr, ⊎_elim, ℕ, ℤ, zero, suc, ◌+◌, ◌%◌, Bool, true, false, if◌then◌else◌, List, [], ◌∷◌, ◌++◌}
use Rattle.tiny_runs.proofs.Common.{Option, Some, refl, sym, ap, ◌∙◌, subst, arith, append_assoc, pos, neg_ℤ, not, slice_get, slice_set, same_Some, eq-eqb}
use Rattle.tiny_runs.proofs.Common.{eqb_tells, Instr, Istore, Pop, Isub, Iflt, Goto, Ireturn, Out, Halt as HaltCode, row_of, size_of, instr_at, target}
use Rattle.ijvm_meaning.specs.Prelude.{State, Goes, Stuck, way, step_outcome}
use Rattle.tiny_tree.specs.Prelude.{Term, Expr, Cond, Equal, Different, Less, Statement, Var, Assign, Calls, If, While, Return, Put, Halt, Else, no_else, else_block, Statements, no_statements, statement, Called, Seen, IsNamedTerm, IsNamedExpr, IsNamedCond, IsNamedStatement, AreNamed, IsNamedElse, TinyWorld, Result, Gives, Halts, and_then, Variables, with_value, evaluate_term, evaluate, compare, evaluate_cond, Flow, GoesOn, Returns, unless_returned, either_side, repeat, execute, execute_all, execute_else, Meaning}
use Rattle.tiny_code.specs.Prelude.{code_size, choice, loop, term_code, expr_code, test_code, test_jump, leave_code, statement_code, statements_code, else_code, term_numbers, expr_numbers, cond_numbers, statement_numbers, statements_numbers, else_numbers, HasNumbers, all_back, all_front, backward, forward, size_append}
use Rattle.tiny_runs.proofs.Led.{Follows, goes, at_code, prefix_trans}
use Rattle.tiny_runs.proofs.Stands.{Spans, front, back, here, next, none, near}
use Rattle.tiny_runs.proofs.Does.{state, Agrees, Does, does_then, does_lower, does_after, does_give, does_stuck, does_halt, does_cut, does_turn, does_more}
use Rattle.tiny_runs.proofs.Values.{Setting, Running, term_does, expr_does}

-- ---- locals after a store

set_get : (xs : List (Option ℕ)) (i v j u : ℕ) → slice_get (slice_set xs i (Some v)) j ≡ Some (Some u) →
    ((j ≡ i) × (u ≡ v)) ⊎ ((j ≢ i) × (slice_get xs j ≡ Some (Some u)))
set_get [] i v j u h = absurd (cc)
set_get (x ∷ xs) zero v zero u h = inl (refl, sym (same_Some v u (same_Some (Some v) (Some u) h)))
set_get (x ∷ xs) zero v (suc j) u h = inr ((λ e. absurd (omega (arith, e))), h)
set_get (x ∷ xs) (suc i) v zero u h = inr ((λ e. absurd (omega (arith, e))), h)
set_get (x ∷ xs) (suc i) v (suc j) u h =
    ⊎_elim (λ a. inl (ap suc a.0, a.1)) (λ a. inr ((λ e. a.0 (omega (arith, e))), a.1)) (set_get xs i v j u h)

stored_agrees : (local : ℕ) (locals : List (Option ℕ)) (vars : Variables) (x v : ℕ) → Agrees local locals vars →
    Agrees local (slice_set locals (local + x) (Some v)) (with_value vars x v)
stored_agrees local locals vars x v agrees y u h =
    ⊎_elim (λ a. let same : y ≡ x = omega (arith, a.0) in a.1 ∙ sym (ap (λ (b : Bool). if b then v else vars y) (eq-eqb y x same))) (λ a. ⊎_elim
    (λ t. absurd (a.0 (ap (λ (z : ℕ). local + z) t.1))) (λ f. agrees y u a.1 ∙ sym (ap (λ (b : Bool). if b then v else vars y) f.0)) (eqb_tells y x))
    (set_get locals _ v _ u h)

-- ---- two sides

not_not : (b : Bool) → not (not b) ≡ b
not_not true = refl
not_not false = refl

either_side_not : {A : Type 0} (b : Bool) (x y : A) → either_side (not b) y x ≡ either_side b x y
either_side_not true x y = refl
either_side_not false x y = refl

-- whether a test's jump is taken
abbrev jumps : Cond → Bool → Bool
jumps (Equal a b) holds = holds
jumps (Different a b) holds = not holds
jumps (Less a b) holds = holds

-- after a loop's test: into the body, or to the end
abbrev inside : ℕ → ℕ → Bool → ℕ
inside b end true = b
inside b end false = end

abbrev AnyBool : Bool → Type 0
AnyBool b = Unit {0}

module _ (c : Setting) (f : Running) where
  abbrev place : List (Option ℕ) → ℕ → List ℕ → TinyWorld → State
  place locals at ops w = state f.back f.callers locals at ops w

  there : (locals : List (Option ℕ)) (at end : ℕ) (ops : List ℕ) (w : TinyWorld) → at ≡ end → place locals at ops w ≡ place locals end ops w
  there locals at end ops w e = ap (λ (x : ℕ). place locals x ops w) e

  abbrev Stands : ℕ → ℕ → List Instr → Type 0
  Stands at end is = Spans c.image.text at end is

  abbrev Has : List ℕ → Type 0
  Has ns = HasNumbers c.image c.places ns

  abbrev HasOne : ℕ → Type 0
  HasOne m = slice_get c.image.pool (c.places.constant m) ≡ Some m

  -- after a statement: locals that agree with the variables, or a value before a return
  abbrev pub After : Flow → Type 0
  After (GoesOn vars) = (locals : List (Option ℕ)) × Agrees f.local locals vars
  After (Returns v) = (locals : List (Option ℕ)) × (at : ℕ) × (instr_at c.image.text at ≡ Some Ireturn)

  abbrev pub to : ℕ → (flow : Flow) → After flow → TinyWorld → State
  to end (GoesOn vars) x u = place x.0 end [] u
  to end (Returns v) x u = place x.0 x.1 (v ∷ []) u

  -- from this address on the run does this, up to `end`
  abbrev pub Works : ℕ → Result Flow → TinyWorld → List (Option ℕ) → ℕ → ℕ → Type 0
  Works d r w locals at end = Does c.image c.stack_end d r w (place locals at [] w) After (to end)

  -- the code does this wherever it stands
  abbrev pub RunsAs : List Instr → (Variables → TinyWorld → Result Flow) → Type 0
  RunsAs code r = (at end : ℕ) → Stands at end code → (vars : Variables) (locals : List (Option ℕ)) (w : TinyWorld) → w.turns ≤ c.turns →
      Agrees f.local locals vars → Works 0 (r vars w) w locals at end

  -- an instruction that leads on from the end
  on_by : (b end : ℕ) (go : Flow → TinyWorld → Meaning) (w : TinyWorld) →
      ((ls : List (Option ℕ)) (u : TinyWorld) → step_outcome c.image c.stack_end (place ls b [] u) ≡ Goes (place ls end [] u)) →
      ((flow : Flow) (x : After flow) (u : TinyWorld) → u.turns ≤ w.turns → Follows c.image c.stack_end (go flow u) u.turns (to end flow x u)) →
      (flow : Flow) (x : After flow) (u : TinyWorld) → u.turns ≤ w.turns → Follows c.image c.stack_end (go flow u) u.turns (to b flow x u)
  on_by b end go w e h (GoesOn vars) x u le =
      let g : Follows c.image c.stack_end (go (GoesOn vars) u) u.turns (place x.0 end [] u) = h (GoesOn vars) x u le in
      goes c.image _ _ u.turns u.turns _ _ (e x.0 u) (omega arith) g.prefix g
  on_by b end go w e h (Returns v) x u le = h (Returns v) x u le

  does_on : (d : ℕ) (r : Result Flow) (w : TinyWorld) (locals : List (Option ℕ)) (at b end : ℕ) →
      ((ls : List (Option ℕ)) (u : TinyWorld) → step_outcome c.image c.stack_end (place ls b [] u) ≡ Goes (place ls end [] u)) →
      Works d r w locals at b → Works d r w locals at end
  does_on d r w locals at b end e does = record { by = λ go h. does.by go (on_by b end go w e h) }

  goto_by : (at end : ℕ) (o : ℤ) → instr_at c.image.text at ≡ Some (Goto o) → target at o ≡ end →
      (ls : List (Option ℕ)) (u : TinyWorld) → step_outcome c.image c.stack_end (place ls at [] u) ≡ Goes (place ls end [] u)
  goto_by at end o is leads ls u = at_code c.image c.stack_end (place ls at [] u) (Goto o) is ∙ ap (λ (x : ℕ). Goes (place ls x [] u)) leads

  -- ---- a value, and one instruction

  stored_by : (own within : Bool) (x v at end : ℕ) (locals : List (Option ℕ)) (vars : Variables) (w : TinyWorld) → Agrees f.local locals vars →
      at + 2 ≡ end → step_outcome c.image c.stack_end (place locals at (v ∷ []) w)
      ≡ (if own then (if within then Goes (place (slice_set locals (f.local + x) (Some v)) (at + 2) [] w) else Stuck) else Stuck) →
      Does c.image c.stack_end 1 (Gives (GoesOn (with_value vars x v)) w) w (place locals at (v ∷ []) w) After (to end)
  stored_by own within x v at end locals vars w agrees ends e = by own within e
    where
      last : Does c.image c.stack_end 0 (Gives (GoesOn (with_value vars x v)) w) w
          (place (slice_set locals (f.local + x) (Some v)) (at + 2) [] w) After (to end)
      last =
          does_give (GoesOn (with_value vars x v)) w w After (to end) _
          (slice_set locals (f.local + x) (Some v), stored_agrees f.local locals vars x v agrees) refl
          (there (slice_set locals (f.local + x) (Some v)) (at + 2) end [] w ends)

      by : (own within : Bool) → step_outcome c.image c.stack_end (place locals at (v ∷ []) w)
          ≡ (if own then (if within then Goes (place (slice_set locals (f.local + x) (Some v)) (at + 2) [] w) else Stuck) else Stuck) →
          Does c.image c.stack_end 1 (Gives (GoesOn (with_value vars x v)) w) w (place locals at (v ∷ []) w) After (to end)
      by true true e = does_after _ _ e refl last
      by true false e = does_stuck _ _ e refl last
      by false b e = does_stuck _ _ e refl last

  assign_does : (x : ℕ) (e : Expr) (seen : Seen) → IsNamedExpr c.program f.names seen e → Has (expr_numbers e) →
      RunsAs (expr_code c.places f.local e ++ Istore (f.local + x) ∷ [])
      (λ vars w. and_then (evaluate c.calls vars e w) (λ v w. Gives (GoesOn (with_value vars x v)) w))
  assign_does x e seen named has at end s vars locals w few agrees =
      let a : List Instr = expr_code c.places f.local e in
      let mid : ℕ = at + code_size a in
      let last : Stands mid end (Istore (f.local + x) ∷ []) = back a _ s in
      does_then (does_lower 1 (expr_does c f seen locals vars agrees e at mid [] w few named has (front a _ s))) (λ v y u le. does_lower 1
      (stored_by _ _ x v mid end locals vars u agrees (none (next _ _ last)) (at_code c.image _ _ _ (here _ _ last))))

  put_does : (e : Expr) (seen : Seen) → IsNamedExpr c.program f.names seen e → Has (expr_numbers e) →
      RunsAs (expr_code c.places f.local e ++ Out ∷ [])
      (λ vars w. and_then (evaluate c.calls vars e w) (λ v w. Gives (GoesOn vars) (record w { given = w.given ++ (v % 256) ∷ [] })))
  put_does e seen named has at end s vars locals w few agrees =
      let a : List Instr = expr_code c.places f.local e in
      let mid : ℕ = at + code_size a in
      let last : Stands mid end (Out ∷ []) = back a _ s in
      let stops : mid + 1 ≡ end = none (next _ _ last) in
      does_then (does_lower 1 (expr_does c f seen locals vars agrees e at mid [] w few named has (front a _ s)))
      (λ v y u le. let z : TinyWorld = record u { given = u.given ++ (v % 256) ∷ [] } in
      record {
        by = λ go h. let g : Follows c.image c.stack_end (go (GoesOn vars) z) z.turns (place locals (mid + 1) [] z) =
            subst (λ (x : ℕ). Follows c.image c.stack_end (go (GoesOn vars) z) z.turns (place locals x [] z)) (sym stops)
            (h (GoesOn vars) (locals, agrees) z (omega arith)) in
            goes c.image _ _ _ z.turns _ _ (at_code c.image _ _ Out (here _ _ last)) (omega arith)
            (prefix_trans u.given z.given _ ((v % 256) ∷ [], refl) g.prefix) g;
      })

  return_does : (e : Expr) (seen : Seen) → IsNamedExpr c.program f.names seen e → Has (expr_numbers e) →
      RunsAs (expr_code c.places f.local e ++ Ireturn ∷ []) (λ vars w. and_then (evaluate c.calls vars e w) (λ v w. Gives (Returns v) w))
  return_does e seen named has at end s vars locals w few agrees =
      let a : List Instr = expr_code c.places f.local e in
      let mid : ℕ = at + code_size a in
      does_then (does_lower 1 (expr_does c f seen locals vars agrees e at mid [] w few named has (front a _ s)))
      (λ v y u le. does_give _ u u After _ _ (locals, mid, here _ _ (back a (Ireturn ∷ []) s)) refl refl)

  -- a value that is dropped
  drop_does : (t : Term) (seen : Seen) → IsNamedTerm c.program f.names seen t → Has (term_numbers t) →
      RunsAs (term_code c.places f.local t ++ Pop ∷ []) (λ vars w. and_then (evaluate_term c.calls vars t w) (λ v w. Gives (GoesOn vars) w))
  drop_does t seen named has at end s vars locals w few agrees =
      let a : List Instr = term_code c.places f.local t in
      let mid : ℕ = at + code_size a in
      let last : Stands mid end (Pop ∷ []) = back a _ s in
      does_then (does_lower 1 (term_does c f seen locals vars agrees t at mid [] w few named has (front a _ s))) (λ v y u le. does_lower 1 (does_after _ _
      (at_code c.image _ _ Pop (here _ _ last)) refl (does_give _ u u After _ _ (locals, agrees) refl (there locals _ end [] u (none (next _ _ last))))))

  halt_does : RunsAs (HaltCode ∷ []) (λ vars w. Halts w)
  halt_does at end s vars locals w few agrees =
      does_halt w (place locals at [] w) After (to end) (at_code c.image c.stack_end (place locals at [] w) HaltCode (here _ _ s)) refl refl

  -- ---- tests

  both_does : (a b : Expr) (test : ℕ → ℕ → Bool) (at mid : ℕ) (seen : Seen) (locals : List (Option ℕ)) (vars : Variables) (w : TinyWorld)
      (land : Bool → TinyWorld → State) → w.turns ≤ c.turns → Agrees f.local locals vars →
      IsNamedExpr c.program f.names seen a × IsNamedExpr c.program f.names seen b → Has (expr_numbers a ++ expr_numbers b) →
      Stands at mid (expr_code c.places f.local a ++ expr_code c.places f.local b) →
      ((x y : ℕ) (u : TinyWorld) → Does c.image c.stack_end 0 (Gives (test x y) u) u (place locals mid (y ∷ x ∷ []) u) AnyBool (λ h k u. land h u)) →
      Does c.image c.stack_end 1 (compare c.calls vars a b test w) w (place locals at [] w) AnyBool (λ h k u. land h u)
  both_does a b test at mid seen locals vars w land few agrees named has s last =
      let ca : List Instr = expr_code c.places f.local a in
      let cb : List Instr = expr_code c.places f.local b in
      does_then (expr_does c f seen locals vars agrees a at _ [] w few named.0 (all_front HasOne (expr_numbers a) (expr_numbers b) has) (front ca cb s))
      (λ x k u le. does_then (does_lower 1 (expr_does c f seen locals vars agrees b _ mid _ u (omega (arith, le, few)) named.1
      (all_back HasOne (expr_numbers a) (expr_numbers b) has) (back ca cb s))) (λ y k z le'. last x y z))

  -- a test whose jump, by this offset, stands at `mid`
  condition_does : (t : Cond) (o : ℤ) (at mid : ℕ) (seen : Seen) (locals : List (Option ℕ)) (vars : Variables) (w : TinyWorld) → w.turns ≤ c.turns →
      Agrees f.local locals vars → IsNamedCond c.program f.names seen t → Has (cond_numbers t) →
      Stands at mid (test_code c.places f.local t) → instr_at c.image.text mid ≡ Some (test_jump c.places f.local t o) →
      Does c.image c.stack_end 1 (evaluate_cond c.calls vars t w) w (place locals at [] w) AnyBool
      (λ holds k u. place locals (way mid o (jumps t holds)) [] u)
  condition_does (Equal a b) o at mid seen locals vars w few agrees named has s jump =
      both_does a b _ at mid seen locals vars w _ few agrees named has s (λ x y u. does_lower 1 (does_after _ _ (at_code c.image _ _ _ jump) refl
      (does_give _ u u AnyBool _ _ tt refl refl)))
  condition_does (Different a b) o at mid seen locals vars w few agrees named has s jump =
      both_does a b _ at mid seen locals vars w _ few agrees named has s (λ x y u. does_lower 1 (does_after _ _ (at_code c.image _ _ _ jump) refl
      (does_give _ u u AnyBool _ _ tt refl (ap (λ (b : Bool). place locals (way mid o b) [] u) (sym (not_not _))))))
  condition_does (Less a b) o at mid seen locals vars w few agrees named has s jump =
      let ab : List Instr = expr_code c.places f.local a ++ expr_code c.places f.local b in
      let same : expr_code c.places f.local a ++ (expr_code c.places f.local b ++ Isub ∷ []) ≡ ab ++ Isub ∷ [] =
      sym (append_assoc (expr_code c.places f.local a) (expr_code c.places f.local b) (Isub ∷ [])) in
      let whole : Stands at mid (ab ++ Isub ∷ []) = subst (λ (is : List Instr). Stands at mid is) same s in
      let m : ℕ = at + code_size ab in
      let sub : Stands m mid (Isub ∷ []) = back ab _ whole in
      let after : m + 1 ≡ mid = none (next _ _ sub) in
      let jump' : instr_at c.image.text (m + 1) ≡ Some (Iflt o) = subst (λ (x : ℕ). instr_at c.image.text x ≡ Some (Iflt o)) (sym after) jump in
      subst (λ (x : ℕ). Does c.image c.stack_end 1 (evaluate_cond c.calls vars (Less a b) w) w (place locals at [] w) AnyBool
      (λ holds k u. place locals (way x o holds) [] u)) after (both_does a b _ at m seen locals vars w _ few agrees named has (front ab _ whole)
      (λ x y u. does_lower 1 (does_after _ _ (at_code c.image _ _ Isub (here _ _ sub)) refl (does_lower 1 (does_after _ _ (at_code c.image _ _ _ jump') refl
      (does_give _ u u AnyBool _ _ tt refl refl))))))

  -- ---- choices

  -- after a jump: the second side where it was taken, else the first side and a jump past the second
  choice_does : (taken : Bool) (r1 r2 : Variables → TinyWorld → Result Flow) (first second : List Instr) (mid end : ℕ) →
      Stands (mid + 3) end (first ++ (Goto (pos (3 + code_size second)) ∷ second)) → RunsAs first r1 → RunsAs second r2 →
      (vars : Variables) (locals : List (Option ℕ)) (w : TinyWorld) → w.turns ≤ c.turns → Agrees f.local locals vars →
      Works 0 (either_side taken (r2 vars w) (r1 vars w)) w locals (way mid (pos (6 + code_size first)) taken) end
  choice_does true r1 r2 first second mid end s one two vars locals w few agrees =
      let past : Instr = Goto (pos (3 + code_size second)) in
      let g : Stands (mid + 3 + code_size first) end (past ∷ second) = back first _ s in
      let t : target mid (pos (6 + code_size first)) ≡ mid + (6 + code_size first) = forward mid (6 + code_size first) (omega (arith, near _ s, g.ends)) in
      let e : mid + 3 + code_size first + 3 ≡ target mid (pos (6 + code_size first)) = omega (arith, t) in
      two (target mid (pos (6 + code_size first))) end (subst (λ (x : ℕ). Stands x end second) e (next past second g)) vars locals w few agrees
  choice_does false r1 r2 first second mid end s one two vars locals w few agrees =
      let past : Instr = Goto (pos (3 + code_size second)) in
      let stop : ℕ = mid + 3 + code_size first in
      let g : Stands stop end (past ∷ second) = back first _ s in
      let t : target stop (pos (3 + code_size second)) ≡ stop + (3 + code_size second) =
      forward stop (3 + code_size second) (omega (arith, near _ s, g.ends)) in
      does_on 0 _ w locals _ stop end (goto_by stop end _ (here past second g) (omega (arith, t, g.ends)))
      (one (mid + 3) stop (front first _ s) vars locals w few agrees)

  -- the second side is the one of the test's jump
  sides_do : (t : Cond) (seen : Seen) (first second : List Instr) (r1 r2 : Variables → TinyWorld → Result Flow)
      (r : Bool → Variables → TinyWorld → Result Flow) → IsNamedCond c.program f.names seen t → Has (cond_numbers t) →
      size_of (row_of (test_jump c.places f.local t (pos (6 + code_size first)))) ≡ 3 →
      ((b : Bool) (vars : Variables) (u : TinyWorld) → r b vars u ≡ either_side (jumps t b) (r2 vars u) (r1 vars u)) →
      RunsAs first r1 → RunsAs second r2 →
      RunsAs (choice (test_code c.places f.local t) (test_jump c.places f.local t) first second)
      (λ vars w. and_then (evaluate_cond c.calls vars t w) (λ holds w. r holds vars w))
  sides_do t seen first second r1 r2 r named has three same one two at end s vars locals w few agrees =
      let o : ℤ = pos (6 + code_size first) in
      let test : List Instr = test_code c.places f.local t in
      let jump : Instr = test_jump c.places f.local t o in
      let tail : List Instr = first ++ (Goto (pos (3 + code_size second)) ∷ second) in
      let mid : ℕ = at + code_size test in
      let j : Stands mid end (jump ∷ tail) = back test _ s in
      let rest : Stands (mid + 3) end tail = subst (λ (x : ℕ). Stands (mid + x) end tail) three (next jump tail j) in
      does_then (does_lower 1 (condition_does t o at mid seen locals vars w few agrees named has (front test _ s) (here jump tail j)))
      (λ b k u le. subst (λ (x : Result Flow). Works 0 x u locals (way mid o (jumps t b)) end) (sym (same b vars u))
      (choice_does _ r1 r2 first second mid end rest one two vars locals u (omega (arith, le, few)) agrees))

  -- ---- loops

  -- after a test that jumps over a jump to the end
  two_ways : (mid b size end : ℕ) (locals : List (Option ℕ)) (holds : Bool) (u : TinyWorld) → instr_at c.image.text (mid + 3) ≡ Some (Goto (pos (6 + size))) →
      end ≤ 65536 → mid + 6 ≡ b → end ≡ b + size + 3 →
      Does c.image c.stack_end 0 (Gives holds u) u (place locals (way mid (pos 6) holds) [] u) AnyBool (λ h k u. place locals (inside b end h) [] u)
  two_ways mid b size end locals true u is small begins ends =
      let t : target mid (pos 6) ≡ mid + 6 = forward mid 6 (omega (arith, small, begins, ends)) in
      does_give true u u AnyBool _ _ tt refl (there locals _ _ [] u (t ∙ begins))
  two_ways mid b size end locals false u is small begins ends =
      let t : target (mid + 3) (pos (6 + size)) ≡ mid + 3 + (6 + size) = forward (mid + 3) (6 + size) (omega (arith, small, begins, ends)) in
      does_lower 1 (does_after _ _ (goto_by _ end _ is (omega (arith, t, begins, ends)) locals u) refl (does_give false u u AnyBool _ _ tt refl refl))

  -- after a test that jumps to the end
  one_way : (mid b size end : ℕ) (locals : List (Option ℕ)) (holds : Bool) (u : TinyWorld) → end ≤ 65536 → mid + 3 ≡ b → end ≡ b + size + 3 →
      Does c.image c.stack_end 0 (Gives holds u) u (place locals (way mid (pos (6 + size)) (not holds)) [] u) AnyBool
      (λ h k u. place locals (inside b end h) [] u)
  one_way mid b size end locals true u small begins ends = does_give true u u AnyBool _ _ tt refl (there locals _ _ [] u begins)
  one_way mid b size end locals false u small begins ends =
      let t : target mid (pos (6 + size)) ≡ mid + (6 + size) = forward mid (6 + size) (omega (arith, small, begins, ends)) in
      does_give false u u AnyBool _ _ tt refl (there locals _ _ [] u (omega (arith, t, begins, ends)))

  enter_does : (t : Cond) (size at b end : ℕ) (seen : Seen) (locals : List (Option ℕ)) (vars : Variables) (w : TinyWorld) → w.turns ≤ c.turns →
      Agrees f.local locals vars → IsNamedCond c.program f.names seen t → Has (cond_numbers t) →
      Stands at b (test_code c.places f.local t ++ leave_code c.places f.local t size) → end ≤ 65536 → end ≡ b + size + 3 →
      Does c.image c.stack_end 1 (evaluate_cond c.calls vars t w) w (place locals at [] w) AnyBool (λ h k u. place locals (inside b end h) [] u)
  enter_does (Different x y) size at b end seen locals vars w few agrees named has s small ends =
      let test : List Instr = test_code c.places f.local (Different x y) in
      let leave : List Instr = leave_code c.places f.local (Different x y) size in
      let mid : ℕ = at + code_size test in
      let j : Stands mid b leave = back test leave s in
      does_more (condition_does (Different x y) (pos (6 + size)) at mid seen locals vars w few agrees named has (front test leave s) (here _ _ j))
      (λ holds k u le. one_way mid b size end locals holds u small (none (next _ _ j)) ends)
  enter_does (Equal x y) size at b end seen locals vars w few agrees named has s small ends =
      let test : List Instr = test_code c.places f.local (Equal x y) in
      let leave : List Instr = leave_code c.places f.local (Equal x y) size in
      let mid : ℕ = at + code_size test in
      let j : Stands mid b leave = back test leave s in
      let g : Stands (mid + 3) b (Goto (pos (6 + size)) ∷ []) = next _ _ j in
      let begins : mid + 3 + 3 ≡ b = none (next _ _ g) in
      does_more (condition_does (Equal x y) (pos 6) at mid seen locals vars w few agrees named has (front test leave s) (here _ _ j))
      (λ holds k u le. two_ways mid b size end locals holds u (here _ _ g) small (omega (arith, begins)) ends)
  enter_does (Less x y) size at b end seen locals vars w few agrees named has s small ends =
      let test : List Instr = test_code c.places f.local (Less x y) in
      let leave : List Instr = leave_code c.places f.local (Less x y) size in
      let mid : ℕ = at + code_size test in
      let j : Stands mid b leave = back test leave s in
      let g : Stands (mid + 3) b (Goto (pos (6 + size)) ∷ []) = next _ _ j in
      let begins : mid + 3 + 3 ≡ b = none (next _ _ g) in
      does_more (condition_does (Less x y) (pos 6) at mid seen locals vars w few agrees named has (front test leave s) (here _ _ j))
      (λ holds k u le. two_ways mid b size end locals holds u (here _ _ g) small (omega (arith, begins)) ends)

  repeat_does : (test : Variables → TinyWorld → Result Bool) (body : Variables → TinyWorld → Result Flow) (at b stop end : ℕ) →
      ((vars : Variables) (locals : List (Option ℕ)) (w : TinyWorld) → w.turns ≤ c.turns → Agrees f.local locals vars →
      Does c.image c.stack_end 1 (test vars w) w (place locals at [] w) AnyBool (λ h k u. place locals (inside b end h) [] u)) →
      ((vars : Variables) (locals : List (Option ℕ)) (w : TinyWorld) → w.turns ≤ c.turns → Agrees f.local locals vars →
      Works 0 (body vars w) w locals b stop) →
      ((ls : List (Option ℕ)) (u : TinyWorld) → step_outcome c.image c.stack_end (place ls stop [] u) ≡ Goes (place ls at [] u)) →
      (m : ℕ) (vars : Variables) (locals : List (Option ℕ)) (w : TinyWorld) → w.turns ≤ m → w.turns ≤ c.turns → Agrees f.local locals vars →
      Works 0 (repeat m test body vars w) w locals at end
  repeat_does test body at b stop end enter inner again zero vars locals w fuel few agrees =
      does_cut w (place locals at [] w) After (to end) (omega (arith, fuel)) refl
  repeat_does test body at b stop end enter inner again (suc m) vars locals w fuel few agrees =
      does_turn w _ After _ _ w.turns refl refl (λ t e. does_then (enter vars locals (record w { turns = t }) (omega (arith, e, few)) agrees)
      (λ holds k u le. turn_by t (omega (arith, e, few))
      (λ vars' ls z ok agrees'. repeat_does test body at b stop end enter inner again m vars' ls z (omega (arith, ok, e, fuel)) (omega (arith, ok, e, few)) agrees')
      holds u le))
    where
      flow_by : (t : ℕ) →
          ((vars' : Variables) (ls : List (Option ℕ)) (z : TinyWorld) → z.turns ≤ t → Agrees f.local ls vars' → Works 0 (repeat m test body vars' z) z ls at end) →
          (flow : Flow) (x : After flow) (z : TinyWorld) → z.turns ≤ t →
          Does c.image c.stack_end 0 (unless_returned flow z (repeat m test body)) z (to stop flow x z) After (to end)
      flow_by t more (GoesOn vars') x z le =
          does_lower 1 (does_after (place x.0 stop [] z) (place x.0 at [] z) (again x.0 z) refl (more vars' x.0 z le x.1))
      flow_by t more (Returns v) x z le = does_give (Returns v) z z After (to end) _ x refl refl

      turn_by : (t : ℕ) → t ≤ c.turns →
          ((vars' : Variables) (ls : List (Option ℕ)) (z : TinyWorld) → z.turns ≤ t → Agrees f.local ls vars' → Works 0 (repeat m test body vars' z) z ls at end) →
          (holds : Bool) (u : TinyWorld) → u.turns ≤ t →
          Works 0 (either_side holds (and_then (body vars u) (λ flow w. unless_returned flow w (repeat m test body))) (Gives (GoesOn vars) u))
          u locals (inside b end holds) end
      turn_by t less more true u le =
          does_then (inner vars locals u (omega (arith, le, less)) agrees) (λ flow x z le'. flow_by t more flow x z (omega (arith, le, le')))
      turn_by t less more false u le = does_give (GoesOn vars) u u After (to end) _ (locals, agrees) refl refl

  loop_does : (t : Cond) (seen : Seen) (code : List Instr) (body : Variables → TinyWorld → Result Flow) → IsNamedCond c.program f.names seen t →
      Has (cond_numbers t) → RunsAs code body →
      RunsAs (loop (test_code c.places f.local t) (leave_code c.places f.local t (code_size code)) code)
      (λ vars w. repeat c.turns (λ vars. evaluate_cond c.calls vars t) body vars w)
  loop_does t seen code body named has inner at end s vars locals w few agrees =
      let test : List Instr = test_code c.places f.local t in
      let leave : List Instr = leave_code c.places f.local t (code_size code) in
      let d : ℕ = code_size test + code_size leave + code_size code in
      let again : Instr = Goto (neg_ℤ (pos d)) in
      let tail : List Instr = code ++ again ∷ [] in
      let both : Stands at end ((test ++ leave) ++ tail) = subst (λ (is : List Instr). Stands at end is) (sym (append_assoc test leave tail)) s in
      let b : ℕ = at + code_size (test ++ leave) in
      let stop : ℕ = b + code_size code in
      let rest : Stands b end tail = back _ tail both in
      let jump : Stands stop end (again ∷ []) = back code _ rest in
      let stops : stop + 3 ≡ end = none (next _ _ jump) in
      let small : end ≤ 65536 = near _ s in
      let place_of : stop ≡ at + d = omega (arith, size_append test leave) in
      let leads : target stop (neg_ℤ (pos d)) ≡ at =
      ap (λ (x : ℕ). target x (neg_ℤ (pos d))) place_of ∙ backward at d (omega (arith, small, stops, place_of)) in
      repeat_does _ body at b stop end (λ vars ls u ok agrees'. enter_does t _ at b end seen ls vars u ok agrees' named has (front _ tail both) small
      (omega (arith, stops))) (λ vars ls u ok agrees'. inner b stop (front code _ rest) vars ls u ok agrees')
      (goto_by stop at _ (here _ _ jump) leads) c.turns vars locals w few few agrees

  -- ---- one after the other

  after_by : (mid end : ℕ) (more : Variables → TinyWorld → Result Flow) →
      ((vars : Variables) (ls : List (Option ℕ)) (u : TinyWorld) → u.turns ≤ c.turns → Agrees f.local ls vars → Works 0 (more vars u) u ls mid end) →
      (flow : Flow) (x : After flow) (u : TinyWorld) → u.turns ≤ c.turns →
      Does c.image c.stack_end 0 (unless_returned flow u more) u (to mid flow x u) After (to end)
  after_by mid end more h (GoesOn vars) x u le = h vars x.0 u le x.1
  after_by mid end more h (Returns v) x u le = does_give (Returns v) u u After (to end) _ x refl refl

  both_run : (a b : List Instr) (r q : Variables → TinyWorld → Result Flow) → RunsAs a r → RunsAs b q →
      RunsAs (a ++ b) (λ vars w. and_then (r vars w) (λ flow w. unless_returned flow w q))
  both_run a b r q one two at end s vars locals w few agrees =
      does_then (one at (at + code_size a) (front a b s) vars locals w few agrees) (λ flow x u le. after_by _ end q
      (λ vars' ls z ok agrees'. two (at + code_size a) end (back a b s) vars' ls z ok agrees') flow x u (omega (arith, le, few)))

  nothing_runs : RunsAs [] (λ vars w. Gives (GoesOn vars) w)
  nothing_runs at end s vars locals w few agrees =
      does_give (GoesOn vars) w w After (to end) _ (locals, agrees) refl (there locals at end [] w (none s))

  mutual
    pub statement_does : (t : Statement) (seen : Seen) → IsNamedStatement c.program f.in_main f.names t seen → Has (statement_numbers t) →
        RunsAs (statement_code c.places f.local t) (execute c.calls c.turns t)
    statement_does (Var x e) seen named has = assign_does x e seen named.0 has
    statement_does (Assign x e) seen named has = assign_does x e seen named.0 has
    statement_does (Calls g args) seen named has = drop_does (Called g args) seen named has
    statement_does (If line (Equal a b) taken other) seen named has =
        sides_do (Equal a b) seen _ _ _ _ _ named.0 (all_front HasOne (cond_numbers (Equal a b)) _ has) refl (λ h vars u. refl)
        (else_does other seen named.2 (all_back HasOne (statements_numbers taken) _ (all_back HasOne (cond_numbers (Equal a b)) _ has)))
        (statements_do taken seen named.1 (all_front HasOne (statements_numbers taken) _ (all_back HasOne (cond_numbers (Equal a b)) _ has)))
    statement_does (If line (Less a b) taken other) seen named has =
        sides_do (Less a b) seen _ _ _ _ _ named.0 (all_front HasOne (cond_numbers (Less a b)) _ has) refl (λ h vars u. refl)
        (else_does other seen named.2 (all_back HasOne (statements_numbers taken) _ (all_back HasOne (cond_numbers (Less a b)) _ has)))
        (statements_do taken seen named.1 (all_front HasOne (statements_numbers taken) _ (all_back HasOne (cond_numbers (Less a b)) _ has)))
    statement_does (If line (Different a b) taken other) seen named has =
        sides_do (Different a b) seen _ _ _ _ _ named.0 (all_front HasOne (cond_numbers (Different a b)) _ has) refl
        (λ h vars u. sym (either_side_not h (execute_all c.calls c.turns taken vars u) (execute_else c.calls c.turns other vars u)))
        (statements_do taken seen named.1 (all_front HasOne (statements_numbers taken) _ (all_back HasOne (cond_numbers (Different a b)) _ has)))
        (else_does other seen named.2 (all_back HasOne (statements_numbers taken) _ (all_back HasOne (cond_numbers (Different a b)) _ has)))
    statement_does (While line t body) seen named has =
        loop_does t seen _ _ named.0 (all_front HasOne (cond_numbers t) (statements_numbers body) has)
        (statements_do body seen named.1 (all_back HasOne (cond_numbers t) (statements_numbers body) has))
    statement_does (Return e) seen named has = return_does e seen named.0 has
    statement_does (Put e) seen named has = put_does e seen named has
    statement_does Halt seen named has = halt_does

    pub statements_do : (ts : Statements) (seen : Seen) → AreNamed c.program f.in_main f.names ts seen → Has (statements_numbers ts) →
        RunsAs (statements_code c.places f.local ts) (execute_all c.calls c.turns ts)
    statements_do no_statements seen named has = nothing_runs
    statements_do (statement t rest) seen named has =
        both_run _ _ _ _ (statement_does t seen named.0 (all_front HasOne (statement_numbers t) (statements_numbers rest) has))
        (statements_do rest _ named.1 (all_back HasOne (statement_numbers t) (statements_numbers rest) has))

    pub else_does : (other : Else) (seen : Seen) → IsNamedElse c.program f.in_main f.names other seen → Has (else_numbers other) →
        RunsAs (else_code c.places f.local other) (execute_else c.calls c.turns other)
    else_does no_else seen named has = nothing_runs
    else_does (else_block b) seen named has = statements_do b seen named has
