-- One more turn: a part that came to its end comes to it again, and what a cut part has given is a prefix of what is given then.
use Rattle.std.proofs.Common.{◌≡◌, ◌≤◌, ℕ, zero, suc, ◌%◌, Bool, true, false, List, [], ◌∷◌, Option, Some, None, refl, sym, ap, ◌∙◌, subst, arith, slice_get}
use Rattle.tiny_runs.specs.Prelude.{output, IsPrefix, GrowsWithTurns}
use Rattle.tiny_tree.specs.Prelude.{Term, Number, Variable, Called, Get, Group, Expr, Sum, Steps, no_steps, step, Arguments, no_arguments, argument, Cond, Equal, Different, Less, Statement, Var, Assign, Calls, If, While, Return, Put, Halt, Else, no_else, else_block, Statements, no_statements, statement, Function, Program, TinyWorld, Result, Gives, Halts, Cuts, and_then, in_turn, Variables, with_value, CallResults, combine, evaluate_term, evaluate, evaluate_steps, evaluate_arguments, evaluate_cond, Flow, GoesOn, Returns, unless_returned, either_side, repeat, execute, execute_all, execute_else, returned, first_variables, execute_body, call, Ended, ending, at_end, start_world, meaning}
use Rattle.tiny_runs.proofs.Led.{whole_prefix, prefix_trans}

-- the same world, where one more turn may begin
abbrev more : TinyWorld → TinyWorld
more w = record w { turns = suc w.turns }

abbrev world_of : {A : Type 0} → Result A → TinyWorld
world_of (Gives a w) = w
world_of (Halts w) = w
world_of (Cuts w) = w

-- a result, and that with one more turn
abbrev Grows : {A : Type 0} → Result A → Result A → Type 0
Grows (Gives a w) r = r ≡ Gives a (more w)
Grows (Halts w) r = r ≡ Halts (more w)
Grows (Cuts w) r = IsPrefix w.given (world_of r).given

-- a part only adds to what was given
abbrev Adds : {A : Type 0} → (TinyWorld → Result A) → Type 0
Adds f = (w : TinyWorld) → IsPrefix w.given (world_of (f w)).given

-- a part, and the same with one more turn
record Later {A : Type 0} (f f' : TinyWorld → Result A) : Type 0 where
  grows : (w : TinyWorld) → Grows (f w) (f' (more w))
  adds : Adds f'

-- ---- how parts are put together

gives : {A : Type 0} (a : A) → Later (λ w. Gives a w) (λ w. Gives a w)
gives a = record { grows = λ w. refl; adds = λ w. whole_prefix w.given }

abbrev ends_here : {A : Type 0} → TinyWorld → Result A
ends_here w = Halts w

halts : {A : Type 0} → Later {A = A} ends_here ends_here
halts = record { grows = λ w. refl; adds = λ w. whole_prefix w.given }

-- nothing is less than a part that only adds
cuts : {A : Type 0} (f : TinyWorld → Result A) → Adds f → Later (λ w. Cuts w) f
cuts f adds = record { grows = λ w. adds (more w); adds = adds }

adds_on : {A B : Type 0} (given : List ℕ) (r : Result A) (go : A → TinyWorld → Result B) → IsPrefix given (world_of r).given →
    ((a : A) → Adds (go a)) → IsPrefix given (world_of (and_then r go)).given
adds_on given (Gives a w) go h adds = prefix_trans given w.given (world_of (go a w)).given h (adds a w)
adds_on given (Halts w) go h adds = h
adds_on given (Cuts w) go h adds = h

grows_on : {A B : Type 0} (r r' : Result A) (go go' : A → TinyWorld → Result B) → Grows r r' → ((a : A) → Later (go a) (go' a)) →
    Grows (and_then r go) (and_then r' go')
grows_on {B = B} (Gives a w) r' go go' is later = subst (λ (x : Result _). Grows (go a w) (and_then x go')) (sym is) ((later a).grows w)
grows_on {B = B} (Halts w) r' go go' is later = ap (λ (x : Result _). and_then x go') is
grows_on {B = B} (Cuts w) r' go go' h later = adds_on w.given r' go' h (λ a. (later a).adds)

then : {A B : Type 0} {f f' : TinyWorld → Result A} {go go' : A → TinyWorld → Result B} → Later f f' → ((a : A) → Later (go a) (go' a)) →
    Later (λ w. and_then (f w) go) (λ w. and_then (f' w) go')
then {f = f} {f' = f'} {go = go} {go' = go'} first later =
    record {
      grows = λ w. grows_on (f w) (f' (more w)) go go' (first.grows w) later;
      adds = λ w. adds_on w.given (f' w) go' (first.adds w) (λ a. (later a).adds);
    }

either : {A : Type 0} {f f' g g' : TinyWorld → Result A} (b : Bool) → Later f f' → Later g g' →
    Later (λ w. either_side b (f w) (g w)) (λ w. either_side b (f' w) (g' w))
either true one other = one
either false one other = other

unless : (flow : Flow) {go go' : Variables → TinyWorld → Result Flow} → ((vars : Variables) → Later (go vars) (go' vars)) →
    Later (λ w. unless_returned flow w go) (λ w. unless_returned flow w go')
unless (GoesOn vars) later = later vars
unless (Returns v) later = gives (Returns v)

turn_grows : {A : Type 0} (go go' : TinyWorld → Result A) → Later go go' → (n : ℕ) (w : TinyWorld) →
    Grows (in_turn w n go) (go' (record w { turns = n }))
turn_grows go go' later zero w = later.adds (record w { turns = zero })
turn_grows go go' later (suc n) w = later.grows (record w { turns = n })

turn_adds : {A : Type 0} (go : TinyWorld → Result A) → Adds go → (n : ℕ) (w : TinyWorld) → IsPrefix w.given (world_of (in_turn w n go)).given
turn_adds go adds zero w = whole_prefix w.given
turn_adds go adds (suc n) w = adds (record w { turns = n })

turn : {A : Type 0} {go go' : TinyWorld → Result A} → Later go go' → Later (λ w. in_turn w w.turns go) (λ w. in_turn w w.turns go')
turn {go = go} {go' = go'} later =
    record { grows = λ w. turn_grows go go' later w.turns w; adds = λ w. turn_adds go' later.adds w.turns w }

-- ---- the forms, where calls may take one turn more, and loops no fewer

module _ (calls calls' : CallResults) (called : (f : ℕ) (args : List ℕ) → Later (calls f args) (calls' f args)) where
  module _ (vars : Variables) where
    mutual
      of_term : (t : Term) → Later (evaluate_term calls vars t) (evaluate_term calls' vars t)
      of_term (Number n) = gives n
      of_term (Variable x) = gives (vars x)
      of_term (Called f args) = then (of_arguments args) (called f)
      of_term Get = record { grows = λ w. refl; adds = λ w. whole_prefix w.given }
      of_term (Group e) = of_expr e

      of_expr : (e : Expr) → Later (evaluate calls vars e) (evaluate calls' vars e)
      of_expr (Sum first rest) = then (of_term first) (of_steps rest)

      of_steps : (s : Steps) (v : ℕ) → Later (evaluate_steps calls vars s v) (evaluate_steps calls' vars s v)
      of_steps no_steps v = gives v
      of_steps (step op t rest) v = then (of_term t) (λ u. of_steps rest (combine op v u))

      of_arguments : (args : Arguments) → Later (evaluate_arguments calls vars args) (evaluate_arguments calls' vars args)
      of_arguments no_arguments = gives []
      of_arguments (argument e rest) = then (of_expr e) (λ v. then (of_arguments rest) (λ vs. gives (v ∷ vs)))

    of_cond : (c : Cond) → Later (evaluate_cond calls vars c) (evaluate_cond calls' vars c)
    of_cond (Equal a b) = then (of_expr a) (λ x. then (of_expr b) (λ y. gives _))
    of_cond (Different a b) = then (of_expr a) (λ x. then (of_expr b) (λ y. gives _))
    of_cond (Less a b) = then (of_expr a) (λ x. then (of_expr b) (λ y. gives _))

  module _ (test test' : Variables → TinyWorld → Result Bool) (body body' : Variables → TinyWorld → Result Flow)
      (tested : (vars : Variables) → Later (test vars) (test' vars)) (done : (vars : Variables) → Later (body vars) (body' vars)) where
    repeat_adds : (n : ℕ) (vars : Variables) → Adds (repeat n test' body' vars)
    repeat_adds zero vars w = whole_prefix w.given
    repeat_adds (suc n) vars w =
        turn_adds _
        (λ w. adds_on w.given (test' vars w) _ ((tested vars).adds w)
        (λ holds. (either holds (cuts _ (λ w. adds_on w.given (body' vars w) _ ((done vars).adds w)
        (λ flow. (unless flow (λ vars. cuts _ (repeat_adds n vars))).adds))) (gives (GoesOn vars))).adds))
        w.turns w

    of_repeat : (n n' : ℕ) → n ≤ n' → (vars : Variables) → Later (repeat n test body vars) (repeat n' test' body' vars)
    of_repeat zero n' few vars = cuts _ (repeat_adds n' vars)
    of_repeat (suc n) zero few vars = absurd (omega (arith, few))
    of_repeat (suc n) (suc n') few vars =
        turn (then (tested vars) (λ holds. either holds
        (then (done vars) (λ flow. unless flow (of_repeat n n' (omega (arith, few))))) (gives (GoesOn vars))))

  module _ (n n' : ℕ) (few : n ≤ n') where
    mutual
      of_statement : (s : Statement) (vars : Variables) → Later (execute calls n s vars) (execute calls' n' s vars)
      of_statement (Var x e) vars = then (of_expr vars e) (λ v. gives (GoesOn (with_value vars x v)))
      of_statement (Assign x e) vars = then (of_expr vars e) (λ v. gives (GoesOn (with_value vars x v)))
      of_statement (Calls f args) vars = then (of_term vars (Called f args)) (λ v. gives (GoesOn vars))
      of_statement (If line c taken other) vars =
          then (of_cond vars c) (λ holds. either holds (of_all taken vars) (of_else other vars))
      of_statement (While line c body) vars =
          of_repeat (λ vars. evaluate_cond calls vars c) (λ vars. evaluate_cond calls' vars c) (execute_all calls n body) (execute_all calls' n' body)
          (λ vars. of_cond vars c) (of_all body) n n' few vars
      of_statement (Return e) vars = then (of_expr vars e) (λ v. gives (Returns v))
      of_statement (Put e) vars =
          then (of_expr vars e) (λ v. record { grows = λ w. refl; adds = λ w. ((v % 256) ∷ [], refl) })
      of_statement Halt vars = halts

      of_all : (ss : Statements) (vars : Variables) → Later (execute_all calls n ss vars) (execute_all calls' n' ss vars)
      of_all no_statements vars = gives (GoesOn vars)
      of_all (statement s rest) vars = then (of_statement s vars) (λ flow. unless flow (of_all rest))

      of_else : (e : Else) (vars : Variables) → Later (execute_else calls n e vars) (execute_else calls' n' e vars)
      of_else no_else vars = gives (GoesOn vars)
      of_else (else_block b) vars = of_all b vars

    of_body : (f : Option Function) (vars : Variables) → Later (execute_body calls n f vars) (execute_body calls' n' f vars)
    of_body None vars = halts
    of_body (Some f) vars = of_all f.body vars

-- ---- calls and programs

of_returned : (flow : Flow) → Later (returned flow) (returned flow)
of_returned (GoesOn vars) = gives 0
of_returned (Returns v) = gives v

abbrev no_calls : CallResults
no_calls f args w = Cuts w

module _ (functions : List Function) where
  call_adds : (n f : ℕ) (args : List ℕ) → Adds (call functions n f args)
  call_adds zero f args w = whole_prefix w.given
  call_adds (suc n) f args w =
      turn_adds _
      (λ w. adds_on w.given (execute_body (call functions n) n (slice_get functions f) (first_variables args) w) returned
      ((of_body no_calls (call functions n) (λ f args. cuts _ (call_adds n f args)) 0 n (omega arith) (slice_get functions f) (first_variables args)).adds w)
      (λ flow. (of_returned flow).adds))
      w.turns w

  of_call : (n f : ℕ) (args : List ℕ) → Later (call functions n f args) (call functions (suc n) f args)
  of_call zero f args = cuts _ (call_adds (suc zero) f args)
  of_call (suc n) f args =
      turn (then (of_body (call functions n) (call functions (suc n)) (of_call n) n (suc n) (omega arith) (slice_get functions f) (first_variables args)) of_returned)

ends_alike : (r r' : Result Flow) → Grows r r' → (given untaken : List ℕ) → ending r at_end ≡ Ended given untaken → ending r' at_end ≡ Ended given untaken
ends_alike (Gives a w) r' is given untaken e = ap (λ (x : Result Flow). ending x at_end) is ∙ e
ends_alike (Halts w) r' is given untaken e = ap (λ (x : Result Flow). ending x at_end) is ∙ e
ends_alike (Cuts w) r' is given untaken e = cc

output_is : (r : Result Flow) → output (ending r at_end) ≡ (world_of r).given
output_is (Gives a w) = refl
output_is (Halts w) = refl
output_is (Cuts w) = refl

given_grows : (r r' : Result Flow) → Grows r r' → IsPrefix (world_of r).given (world_of r').given
given_grows (Gives a w) r' is = subst (λ (x : Result Flow). IsPrefix w.given (world_of x).given) (sym is) (whole_prefix w.given)
given_grows (Halts w) r' is = subst (λ (x : Result Flow). IsPrefix w.given (world_of x).given) (sym is) (whole_prefix w.given)
given_grows (Cuts w) r' h = h

module _ (p : Program) (input : List ℕ) where
  abbrev main : ℕ → Result Flow
  main n = execute_body (call p.functions n) n (slice_get p.functions p.main) (first_variables []) (start_world input n)

  main_grows : (n : ℕ) → Grows (main n) (main (suc n))
  main_grows n =
      (of_body (call p.functions n) (call p.functions (suc n)) (of_call p.functions n) n (suc n) (omega arith) (slice_get p.functions p.main) (first_variables [])).grows
      (start_world input n)

  pub grows_with_turns : (n : ℕ) → GrowsWithTurns p input n
  grows_with_turns n =
      record {
        ended = ends_alike (main n) (main (suc n)) (main_grows n);
        grows =
            subst (λ (x : List ℕ). IsPrefix x (output (meaning p input (suc n)))) (sym (output_is (main n)))
            (subst (IsPrefix (world_of (main n)).given) (sym (output_is (main (suc n)))) (given_grows (main n) (main (suc n)) (main_grows n)));
      }
