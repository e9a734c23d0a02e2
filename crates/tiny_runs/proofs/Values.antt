-- The code of an expression leaves its value.
use Rattle.tiny_runs.proofs.Common.{◌≡◌, ◌≤◌, ℕ, ◌+◌, Bool, true, false, if◌then◌else◌, List, [], ◌∷◌, ◌++◌, Option, Some, None, length, drop, refl, sym, ap}
use Rattle.tiny_runs.proofs.Common.{◌∙◌, subst, arith, pos, nat_le, slice_get, All-head, Instr, Bipush, LdcW, Iadd, Isub, Iand, Ior, Invokevirtual, In, row_of}
use Rattle.tiny_runs.proofs.Common.{size_of, instr_at, ImageView, Operator, Plus, Minus, And, Or}
use Rattle.ijvm_meaning.specs.Prelude.{Frame, State, Goes, pushed, pushed_constant, loaded, step, step_outcome}
use Rattle.tiny_tree.specs.Tree.{step as step_on}
use Rattle.tiny_tree.specs.Prelude.{Term, Number, Variable, Called, Get, Group, Expr, Sum, Steps, no_steps, Arguments, no_arguments, argument, Program, IsCallable, arguments_count, Seen, IsNamedTerm, IsNamedExpr, AreNamedSteps, AreNamedArguments, TinyWorld, Result, Gives, Variables, CallResults, combine, evaluate_term, evaluate, evaluate_steps, evaluate_arguments}
use Rattle.tiny_code.specs.Prelude.{Places, code_size, operator_code, term_code, expr_code, steps_code, arguments_code, term_numbers, expr_numbers, steps_numbers, arguments_numbers, HasNumbers, all_back, all_front}
use Rattle.tiny_runs.proofs.Led.{at_code}
use Rattle.tiny_runs.proofs.Stands.{Spans, front, back, here, next, none}
use Rattle.tiny_runs.proofs.Does.{state, Agrees, Does, does_then, does_lower, does_after, does_push, does_give, does_stuck}

-- the arguments on the operands, the last one first
abbrev pub onto_operands : List ℕ → List ℕ → List ℕ
onto_operands [] ops = ops
onto_operands (v ∷ vs) ops = onto_operands vs (v ∷ ops)

abbrev pub Any : ℕ → Type 0
Any v = Unit {0}

abbrev pub AreMany : ℕ → List ℕ → Type 0
AreMany m vs = length vs ≡ m

-- a call's instruction does what the call gives, in this many turns
pub record CallsRun (image : ImageView) (stack_end : ℕ) (p : Places) (program : Program) (n : ℕ) (calls : CallResults) : Type 0 where
  pub by : (f : ℕ) (vs : List ℕ) → IsCallable program f (length vs) →
      (bk : Option ℕ) (callers : List Frame) (locals : List (Option ℕ)) (at : ℕ) (ops : List ℕ) (w : TinyWorld) → w.turns ≤ n →
      instr_at image.text at ≡ Some (Invokevirtual (p.entry f)) →
      Does image stack_end 0 (calls f vs w) w (state bk callers locals at (onto_operands vs (0 ∷ ops)) w) Any
      (λ v x u. state bk callers locals (at + 3) (v ∷ ops) u)

-- what the code runs in: an image with the constants of a program, and calls that run for this many turns
pub record Setting : Type 0 where
  pub image : ImageView
  pub stack_end : ℕ
  pub places : Places
  pub program : Program
  pub object : slice_get image.pool 0 ≡ Some 0
  pub turns : ℕ
  pub calls : CallResults
  pub runs : CallsRun image stack_end places program turns calls

-- the call whose code it is: its names, the local of its first variable, and its frame but for the locals and operands
pub record Running : Type 0 where
  pub in_main : Bool
  pub names : ℕ
  pub local : ℕ
  pub back : Option ℕ
  pub callers : List Frame

operator_size : (op : Operator) → size_of (row_of (operator_code op)) ≡ 1
operator_size Plus = refl
operator_size _ = refl

module _ (c : Setting) (f : Running) (seen : Seen) (locals : List (Option ℕ)) (vars : Variables) (agrees : Agrees f.local locals vars) where
  abbrev place : ℕ → List ℕ → TinyWorld → State
  place at ops w = state f.back f.callers locals at ops w

  there : (at end : ℕ) (ops : List ℕ) (w : TinyWorld) → at ≡ end → place at ops w ≡ place end ops w
  there at end ops w e = ap (λ (x : ℕ). place x ops w) e

  abbrev Stands : ℕ → ℕ → List Instr → Type 0
  Stands at end is = Spans c.image.text at end is

  abbrev Has : List ℕ → Type 0
  Has ns = HasNumbers c.image c.places ns

  abbrev HasOne : ℕ → Type 0
  HasOne m = slice_get c.image.pool (c.places.constant m) ≡ Some m

  -- the code up to `end` leaves the value
  abbrev Leaves : Result ℕ → TinyWorld → ℕ → ℕ → List ℕ → Type 0
  Leaves r w at end ops = Does c.image c.stack_end 1 r w (place at ops w) Any (λ v x u. place end (v ∷ ops) u)

  -- an instruction that pushes a value
  value_by : (i : Instr) (v at end : ℕ) (ops : List ℕ) (w : TinyWorld) (size : ℕ) → instr_at c.image.text at ≡ Some i →
      step c.image c.stack_end i (place at ops w) ≡ pushed c.stack_end (place at ops w) v (at + size) → at + size ≡ end →
      Leaves (Gives v w) w at end ops
  value_by i v at end ops w size is e ends = does_push _ _ _ (at_code c.image _ _ i is ∙ e) refl (does_give v w w Any _ _ tt refl (there _ end _ w ends))

  number_by : (b : Bool) (m at end : ℕ) (ops : List ℕ) (w : TinyWorld) → Has (if b then [] else m ∷ []) →
      Stands at end ((if b then Bipush (pos m) else LdcW (c.places.constant m)) ∷ []) → Leaves (Gives m w) w at end ops
  number_by true m at end ops w has s = value_by (Bipush (pos m)) m at end ops w 2 (here _ _ s) refl (none (next _ _ s))
  number_by false m at end ops w has s =
      let constant : HasOne m = All-head HasOne m [] has in
      value_by _ m at end ops w 3 (here _ _ s) (ap (pushed_constant c.stack_end (place at ops w)) constant) (none (next _ _ s))

  -- a variable: its local is set, or the run would be stuck
  variable_by : (o : Option (Option ℕ)) (x at end : ℕ) (ops : List ℕ) (w : TinyWorld) → slice_get locals (f.local + x) ≡ o →
      step_outcome c.image c.stack_end (place at ops w) ≡ loaded c.stack_end (place at ops w) o (at + 2) → at + 2 ≡ end →
      Leaves (Gives (vars x) w) w at end ops
  variable_by None x at end ops w is e ends =
      does_stuck (place at ops w) (place end (vars x ∷ ops) w) e refl (does_give (vars x) w w Any _ _ tt refl refl)
  variable_by (Some None) x at end ops w is e ends =
      does_stuck (place at ops w) (place end (vars x ∷ ops) w) e refl (does_give (vars x) w w Any _ _ tt refl refl)
  variable_by (Some (Some v)) x at end ops w is e ends =
      does_push _ _ _ e refl (does_give _ w w Any _ _ tt refl (there _ end _ w ends ∙ ap (λ (y : ℕ). place end (y ∷ ops) w) (agrees x v is)))

  operator_by : (op : Operator) (x y at : ℕ) (ops : List ℕ) (w : TinyWorld) → instr_at c.image.text at ≡ Some (operator_code op) →
      step_outcome c.image c.stack_end (place at (y ∷ x ∷ ops) w) ≡ Goes (place (at + 1) (combine op x y ∷ ops) w)
  operator_by Plus x y at ops w is = at_code c.image c.stack_end (place at (y ∷ x ∷ ops) w) Iadd is
  operator_by Minus x y at ops w is = at_code c.image c.stack_end (place at (y ∷ x ∷ ops) w) Isub is
  operator_by And x y at ops w is = at_code c.image c.stack_end (place at (y ∷ x ∷ ops) w) Iand is
  operator_by Or x y at ops w is = at_code c.image c.stack_end (place at (y ∷ x ∷ ops) w) Ior is

  -- a call, from its last instruction on
  called_by : (g : ℕ) (vs : List ℕ) (at end : ℕ) (ops : List ℕ) (w : TinyWorld) (m : ℕ) → w.turns ≤ c.turns → IsCallable c.program g m →
      length vs ≡ m → Stands at end (Invokevirtual (c.places.entry g) ∷ []) →
      Does c.image c.stack_end 0 (c.calls g vs w) w (place at (onto_operands vs (0 ∷ ops)) w) Any (λ v x u. place end (v ∷ ops) u)
  called_by g vs at end ops w m few callable many s =
      subst
      (λ (e : ℕ). Does c.image c.stack_end 0 (c.calls g vs w) w (place at (onto_operands vs (0 ∷ ops)) w) Any (λ v x u. place e (v ∷ ops) u))
      (none (next _ _ s))
      (c.runs.by g vs (subst (IsCallable c.program g) (sym many) callable) f.back f.callers locals at ops w few (here _ _ s))

  mutual
    pub term_does : (t : Term) (at end : ℕ) (ops : List ℕ) (w : TinyWorld) → w.turns ≤ c.turns → IsNamedTerm c.program f.names seen t →
        Has (term_numbers t) → Stands at end (term_code c.places f.local t) → Leaves (evaluate_term c.calls vars t w) w at end ops
    term_does (Number m) at end ops w few named has s = number_by (nat_le m 127) m at end ops w has s
    term_does (Variable x) at end ops w few named has s = variable_by _ x at end ops w refl (at_code c.image _ _ _ (here _ _ s)) (none (next _ _ s))
    term_does (Called g args) at end ops w few named has s =
        let inner : List Instr = arguments_code c.places f.local args in
        let last : List Instr = Invokevirtual (c.places.entry g) ∷ [] in
        let rest : Stands (at + 3) end (inner ++ last) = next _ _ s in
        does_push _ _ _ (at_code c.image _ _ _ (here _ _ s) ∙ ap (pushed_constant c.stack_end (place at ops w)) c.object) refl
        (does_then (arguments_do args _ _ _ w few named.1 has (front inner last rest))
        (λ vs many u le. called_by g vs _ end ops u _ (omega (arith, le, few)) named.0 many (back inner last rest)))
    term_does Get at end ops w few named has s =
        let u : TinyWorld = record w { untaken = drop 1 w.untaken } in
        does_push _ _ _ (at_code c.image _ _ In (here _ _ s)) refl (does_give _ w u Any _ _ tt refl (there _ end _ u (none (next _ _ s))))
    term_does (Group e) at end ops w few named has s = expr_does e at end ops w few named has s

    pub expr_does : (e : Expr) (at end : ℕ) (ops : List ℕ) (w : TinyWorld) → w.turns ≤ c.turns → IsNamedExpr c.program f.names seen e →
        Has (expr_numbers e) → Stands at end (expr_code c.places f.local e) → Leaves (evaluate c.calls vars e w) w at end ops
    expr_does (Sum first rest) at end ops w few named has s =
        let a : List Instr = term_code c.places f.local first in
        let b : List Instr = steps_code c.places f.local rest in
        does_then (term_does first at _ ops w few named.0 (all_front HasOne (term_numbers first) (steps_numbers rest) has) (front a b s))
        (λ v x u le. steps_do rest v _ end ops u (omega (arith, le, few)) named.1
        (all_back HasOne (term_numbers first) (steps_numbers rest) has) (back a b s))

    pub steps_do : (rest : Steps) (v at end : ℕ) (ops : List ℕ) (w : TinyWorld) → w.turns ≤ c.turns → AreNamedSteps c.program f.names seen rest →
        Has (steps_numbers rest) → Stands at end (steps_code c.places f.local rest) →
        Does c.image c.stack_end 0 (evaluate_steps c.calls vars rest v w) w (place at (v ∷ ops) w) Any (λ v x u. place end (v ∷ ops) u)
    steps_do no_steps v at end ops w few named has s = does_give v w w Any _ _ tt refl (there at end (v ∷ ops) w (none s))
    steps_do (step_on op t rest) v at end ops w few named has s =
        let a : List Instr = term_code c.places f.local t in
        let b : List Instr = steps_code c.places f.local rest in
        let mid : ℕ = at + code_size a in
        let last : Stands mid end (operator_code op ∷ b) = back a (operator_code op ∷ b) s in
        let after : Stands (mid + 1) end b = subst (λ (x : ℕ). Stands (mid + x) end b) (operator_size op) (next _ b last) in
        does_then (does_lower 1 (term_does t at mid _ w few named.0 (all_front HasOne (term_numbers t) (steps_numbers rest) has) (front a _ s)))
        (λ y x u le. does_lower 1 (does_after _ _ (operator_by op v y mid ops u (here _ b last)) refl
        (steps_do rest _ _ end ops u (omega (arith, le, few)) named.1 (all_back HasOne (term_numbers t) (steps_numbers rest) has) after)))

    pub arguments_do : (args : Arguments) (at end : ℕ) (ops : List ℕ) (w : TinyWorld) → w.turns ≤ c.turns →
        AreNamedArguments c.program f.names seen args → Has (arguments_numbers args) → Stands at end (arguments_code c.places f.local args) →
        Does c.image c.stack_end 0 (evaluate_arguments c.calls vars args w) w (place at ops w) (AreMany (arguments_count args))
        (λ vs x u. place end (onto_operands vs ops) u)
    arguments_do no_arguments at end ops w few named has s = does_give [] w w (AreMany 0) _ _ refl refl (there at end ops w (none s))
    arguments_do (argument e rest) at end ops w few named has s =
        let a : List Instr = expr_code c.places f.local e in
        let b : List Instr = arguments_code c.places f.local rest in
        let m : ℕ = arguments_count rest in
        does_then (does_lower 1 (expr_does e at _ ops w few named.0 (all_front HasOne (expr_numbers e) (arguments_numbers rest) has) (front a b s)))
        (λ v x u le. does_then (arguments_do rest _ end _ u (omega (arith, le, few)) named.1
        (all_back HasOne (expr_numbers e) (arguments_numbers rest) has) (back a b s))
        (λ vs many z le'. does_give _ z z _ _ _ (omega (arith, many)) refl refl))
