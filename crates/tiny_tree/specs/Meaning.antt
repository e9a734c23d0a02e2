-- What a program does, from left to right. A turn is one test of a `while` or one call.
use Rattle.std.specs.Prelude.{ℕ, zero, suc, ◌%◌, Bool, true, false, not, if◌then◌else◌, ◌==◌, List, [], ◌∷◌, ◌++◌, slice_index, slice_get, drop, Option, Some, None, bit_and, bit_or}
use Rattle.mic_words.specs.Prelude.{plus, minus, is_negative}
use Rattle.console_port.specs.Prelude.{next_byte}
use Rattle.tiny_tree.specs.declared.tree.Operator.{Operator}
use Rattle.tiny_tree.specs.declared.tree.Operator.TheVariants.{Plus, Minus, And, Or}
use Rattle.tiny_tree.specs.Tree.{Term, Number, Variable, Called, Get, Group, Expr, Sum, Steps, no_steps, step, Arguments, no_arguments, argument, Cond, Equal, Different, Less, Statement, Var, Assign, Calls, If, While, Return, Put, Halt, Else, no_else, else_block, Statements, no_statements, statement, Function, Program}

-- the console's bytes that are not taken, those that it was given, and how many turns may still begin
pub record TinyWorld : Type 0 where
  pub untaken : List ℕ
  pub given : List ℕ
  pub turns : ℕ

-- what a part of a program leads to: it gives something and goes on, it ends the program, or it is cut where a turn would begin
pub data Result (A : Type 0) : Type 0 where
  Gives : A → TinyWorld → Result A
  Halts : TinyWorld → Result A
  Cuts : TinyWorld → Result A

-- goes on with what was given
abbrev pub and_then : {A B : Type 0} → Result A → (A → TinyWorld → Result B) → Result B
and_then (Gives a w) go = go a w
and_then (Halts w) go = Halts w
and_then (Cuts w) go = Cuts w

-- goes on in a turn, if one of this many may begin
abbrev pub in_turn : {A : Type 0} → TinyWorld → ℕ → (TinyWorld → Result A) → Result A
in_turn w zero go = Cuts w
in_turn w (suc n) go = go (record w { turns = n })

-- the value of each variable of a call, by its position
abbrev pub Variables : Type 0
Variables = ℕ → ℕ

abbrev pub with_value : Variables → ℕ → ℕ → Variables
with_value vars x v = λ y. if y == x then v else vars y

-- what a call gives, by the function's position and the arguments
abbrev pub CallResults : Type 0
CallResults = ℕ → List ℕ → TinyWorld → Result ℕ

-- ---- expressions

abbrev pub combine : Operator → ℕ → ℕ → ℕ
combine Plus x y = plus x y
combine Minus x y = minus x y
combine And x y = bit_and x y
combine Or x y = bit_or x y

module _ (calls : CallResults) (vars : Variables) where
  abbrev mutual
    pub evaluate_term : Term → TinyWorld → Result ℕ
    evaluate_term (Number n) w = Gives n w
    evaluate_term (Variable x) w = Gives (vars x) w
    evaluate_term (Called f args) w = and_then (evaluate_arguments args w) (calls f)
    evaluate_term Get w = Gives (next_byte w.untaken) (record w { untaken = drop 1 w.untaken })
    evaluate_term (Group e) w = evaluate e w

    pub evaluate : Expr → TinyWorld → Result ℕ
    evaluate (Sum first rest) w = and_then (evaluate_term first w) (λ v w. evaluate_steps rest v w)

    -- the rest of an expression, whose value so far is this
    pub evaluate_steps : Steps → ℕ → TinyWorld → Result ℕ
    evaluate_steps no_steps v w = Gives v w
    evaluate_steps (step op t rest) v w = and_then (evaluate_term t w) (λ u w. evaluate_steps rest (combine op v u) w)

    pub evaluate_arguments : Arguments → TinyWorld → Result (List ℕ)
    evaluate_arguments no_arguments w = Gives [] w
    evaluate_arguments (argument e rest) w =
        and_then (evaluate e w) (λ v w. and_then (evaluate_arguments rest w) (λ vs w. Gives (v ∷ vs) w))

  abbrev pub compare : Expr → Expr → (ℕ → ℕ → Bool) → TinyWorld → Result Bool
  compare a b test w = and_then (evaluate a w) (λ x w. and_then (evaluate b w) (λ y w. Gives (test x y) w))

  abbrev pub evaluate_cond : Cond → TinyWorld → Result Bool
  evaluate_cond (Equal a b) = compare a b (λ x y. x == y)
  evaluate_cond (Different a b) = compare a b (λ x y. not (x == y))
  evaluate_cond (Less a b) = compare a b (λ x y. is_negative (minus x y))

-- ---- statements

-- after a statement: the variables, or the value that was returned
pub data Flow : Type 0 where
  GoesOn : Variables → Flow
  Returns : ℕ → Flow

abbrev pub unless_returned : Flow → TinyWorld → (Variables → TinyWorld → Result Flow) → Result Flow
unless_returned (GoesOn vars) w go = go vars w
unless_returned (Returns v) w go = Gives (Returns v) w

abbrev pub either_side : {A : Type 0} → Bool → A → A → A
either_side true a b = a
either_side false a b = b

-- a loop of this many turns, which is no less than may begin
abbrev pub repeat : ℕ → (Variables → TinyWorld → Result Bool) → (Variables → TinyWorld → Result Flow) → Variables → TinyWorld → Result Flow
repeat zero test body vars w = Cuts w
repeat (suc n) test body vars w =
    in_turn w w.turns (λ w. and_then (test vars w) (λ holds w.
    either_side holds (and_then (body vars w) (λ flow w. unless_returned flow w (repeat n test body))) (Gives (GoesOn vars) w)))

module _ (calls : CallResults) (n : ℕ) where
  abbrev mutual
    pub execute : Statement → Variables → TinyWorld → Result Flow
    execute (Var x e) vars w = and_then (evaluate calls vars e w) (λ v w. Gives (GoesOn (with_value vars x v)) w)
    execute (Assign x e) vars w = and_then (evaluate calls vars e w) (λ v w. Gives (GoesOn (with_value vars x v)) w)
    execute (Calls f args) vars w = and_then (evaluate_term calls vars (Called f args) w) (λ v w. Gives (GoesOn vars) w)
    execute (If line c taken other) vars w =
        and_then (evaluate_cond calls vars c w) (λ holds w. either_side holds (execute_all taken vars w) (execute_else other vars w))
    execute (While line c body) vars w = repeat n (λ vars. evaluate_cond calls vars c) (execute_all body) vars w
    execute (Return e) vars w = and_then (evaluate calls vars e w) (λ v w. Gives (Returns v) w)
    execute (Put e) vars w =
        and_then (evaluate calls vars e w) (λ v w. Gives (GoesOn vars) (record w { given = w.given ++ (v % 256) ∷ [] }))
    execute Halt vars w = Halts w

    pub execute_all : Statements → Variables → TinyWorld → Result Flow
    execute_all no_statements vars w = Gives (GoesOn vars) w
    execute_all (statement s rest) vars w = and_then (execute s vars w) (λ flow w. unless_returned flow w (execute_all rest))

    pub execute_else : Else → Variables → TinyWorld → Result Flow
    execute_else no_else vars w = Gives (GoesOn vars) w
    execute_else (else_block b) vars w = execute_all b vars w

-- ---- calls

-- a function that does not return gives 0
abbrev pub returned : Flow → TinyWorld → Result ℕ
returned (GoesOn vars) w = Gives 0 w
returned (Returns v) w = Gives v w

-- the arguments are the first variables
abbrev pub first_variables : List ℕ → Variables
first_variables args = slice_index args

abbrev pub execute_body : CallResults → ℕ → Option Function → Variables → TinyWorld → Result Flow
execute_body calls n None vars w = Halts w
execute_body calls n (Some f) vars w = execute_all calls n f.body vars w

-- a call, which is a turn; this many turns, which is no less than may begin
abbrev pub call : List Function → ℕ → CallResults
call functions zero f args w = Cuts w
call functions (suc n) f args w =
    in_turn w w.turns (λ w. and_then (execute_body (call functions n) n (slice_get functions f) (first_variables args) w) returned)

-- ---- programs

-- how a program goes with at most this many turns
pub data Meaning : Type 0 where
  -- its output, and the input that it has not taken
  Ended : (given untaken : List ℕ) → Meaning
  -- its output so far, where one more turn would begin
  Cut : (given : List ℕ) → Meaning

-- how a program ends, from what a part of it leads to and how it goes on from what the part gives
abbrev pub ending : {A : Type 0} → Result A → (A → TinyWorld → Meaning) → Meaning
ending (Gives a w) go = go a w
ending (Halts w) go = Ended w.given w.untaken
ending (Cuts w) go = Cut w.given

-- the end of main ends the program
abbrev pub at_end : Flow → TinyWorld → Meaning
at_end flow w = Ended w.given w.untaken

abbrev pub start_world : List ℕ → ℕ → TinyWorld
start_world input n = record { untaken = input; given = []; turns = n }

abbrev pub meaning : Program → List ℕ → ℕ → Meaning
meaning p input n =
    ending (execute_body (call p.functions n) n (slice_get p.functions p.main) (first_variables []) (start_world input n)) at_end
