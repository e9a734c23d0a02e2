-- The instructions of a program's code have operands in the ranges of their types.
use Rattle.tiny_compiler.proofs.Common.{◌≡◌, ◌<◌, ◌≤◌, ◌⊎◌, inl, inr, ⊎_elim, ℕ, ℤ, pos, negsuc, ◌+◌, Bool, true, false, List, [], ◌∷◌, ◌++◌, length, Some}
use Rattle.tiny_compiler.proofs.Common.{None, refl, sym, ◌∙◌, arith, nat_le, nat_lt, ◌||◌, ◌^◌, neg_ℤ, slice_get, cond, if◌then◌else◌, FitsSigned, w16, All}
use Rattle.tiny_compiler.proofs.Common.{zip, lt-ltb, leb_tells, All-nil, All-cons, All-head, All-tail, Instr, Operands, Offset, AreInRange, IsInstr, row_of}
use Rattle.tiny_compiler.proofs.Common.{HasLines, Jump, distance_in, distances, first_far, is_far, jumps_of, Operator, Plus}
use Rattle.ijvm_instr.specs.declared.instr.Instr.TheVariants.{Bipush, LdcW, Iload, Istore, Pop, Isub, Iflt, IfIcmpeq, Goto, Ireturn, Invokevirtual, In, Out, Halt as HaltCode}
use Rattle.tiny_tree.specs.Prelude.{Term, Number, Variable, Called, Get, Group, Expr, Sum, Steps, no_steps, step, Arguments, no_arguments, argument, Cond, Equal, Different, Less, Statement, Var, Assign, Calls, If, While, Return, Put, Halt, Else, no_else, else_block, Statements, no_statements, statement, Function, Program, Seen, seen_after, IsCallable, IsNamedTerm, IsNamedExpr, AreNamedSteps, AreNamedArguments, IsNamedCond, IsNamedStatement, AreNamed, IsNamedElse, arguments_count}
use Rattle.tiny_code.specs.Prelude.{Places, code_size, choice, loop, operator_code, number_code, term_code, expr_code, steps_code, arguments_code, test_code, if_code, leave_code, statement_code, statements_code, else_code}

-- ---- distances

abbrev IsNear : ℤ → Type 0
IsNear z = FitsSigned w16 z

abbrev pub IsNearJump : Jump → Type 0
IsNearJump j = IsNear j.1

below : (n k : ℕ) → nat_lt k n ≡ false → n ≤ k
below n k h =
    ⊎_elim (λ t. t.1) (λ t. let bad : true ≡ false = sym (lt-ltb k n t.1) ∙ h in absurd (cc)) (leb_tells n k)

fits_near : (z : ℤ) → is_far z ≡ false → IsNear z
fits_near (pos n) h = let small : n < 2 ^ 15 = (let le = below n 32767 h in omega (arith, le)) in record { sfits = small }
fits_near (negsuc n) h = let small : n < 2 ^ 15 = (let le = below n 32767 (or_left (nat_lt 32767 n) h) in omega (arith, le)) in record { sfits = small }
  where
    or_left : (b : Bool) → (b || false) ≡ false → b ≡ false
    or_left true h = h
    or_left false h = h

near_by : (j : Jump) (js : List Jump) (b : Bool) → is_far j.1 ≡ b → cond b (Some j) (first_far js) ≡ None →
    (first_far js ≡ None → All IsNearJump js) → All IsNearJump (j ∷ js)
near_by j js true is h near = cc
near_by j js false is h near = All-cons IsNearJump j js (fits_near j.1 is) (near h)

pub all_near : (js : List Jump) → first_far js ≡ None → All IsNearJump js
all_near [] h = All-nil IsNearJump
all_near (j ∷ js) h = near_by j js (is_far j.1) refl h (all_near js)

near_distances : (lines : List ℕ) (ds : List ℤ) → length lines ≡ length ds → All IsNearJump (zip lines ds) → All IsNear ds
near_distances lines [] e h = All-nil IsNear
near_distances [] (z ∷ ds) e h = absurd (omega (arith, e))
near_distances (n ∷ lines) (z ∷ ds) e h =
    All-cons IsNear z ds (All-head IsNearJump (n, z) _ h) (near_distances lines ds (omega (arith, e)) (All-tail IsNearJump (n, z) _ h))

-- ---- lists of instructions

abbrev pub Fit : List Instr → Type 0
Fit is = All IsInstr is

-- the operands are in their ranges, but for a jump's distance
abbrev FitsOrJumps : Operands → Type 0
FitsOrJumps (Offset o) = Unit {0}
FitsOrJumps operands = AreInRange operands

abbrev pub FitsAside : Instr → Type 0
FitsAside i = FitsOrJumps (row_of i).operands

abbrev pub FitAside : List Instr → Type 0
FitAside is = All FitsAside is

pub both : (a b : List Instr) → FitAside a → FitAside b → FitAside (a ++ b)
both [] b h k = k
both (i ∷ a) b h k = All-cons FitsAside i (a ++ b) (All-head FitsAside i a h) (both a b (All-tail FitsAside i a h) k)

pub one : (i : Instr) → FitsAside i → FitAside (i ∷ [])
one i h = All-cons FitsAside i [] h (All-nil FitsAside)

operands_fit : (operands : Operands) (rest : List ℤ) → FitsOrJumps operands → All IsNear (distance_in operands ++ rest) →
    AreInRange operands × All IsNear rest
operands_fit (Offset o) rest h near = (All-head IsNear o rest near, All-tail IsNear o rest near)
operands_fit _ rest h near = (h, near)

code_fits : (is : List Instr) → FitAside is → All IsNear (distances is) → Fit is
code_fits [] h near = All-nil IsInstr
code_fits (i ∷ is) h near =
    let here = operands_fit _ _ (All-head FitsAside i is h) near in
    All-cons IsInstr i is here.0 (code_fits is (All-tail FitsAside i is h) here.1)

-- code whose jumps are near
pub near_fits : (is : List Instr) (lines : List ℕ) → HasLines lines is → FitAside is → All IsNearJump (jumps_of lines is) → Fit is
near_fits is lines count h near = code_fits is h (near_distances lines (distances is) count near)

-- ---- the code of a function's parts: the pool's places are few, and so are the names

operator_fits : (op : Operator) → FitsAside (operator_code op)
operator_fits Plus = tt
operator_fits _ = tt

module _ (program : Program) (p : Places) (local names : ℕ) (few : local + names ≤ 256)
    (constants : (n : ℕ) → p.constant n < 65536)
    (entries : (f : ℕ) (g : Function) → slice_get program.functions f ≡ Some g → p.entry f < 65536) where
  number_fits : (n : ℕ) → FitsAside (number_code p local n)
  number_fits n = by (nat_le n 127) (leb_tells n 127)
    where
      by : (b : Bool) → ((b ≡ true) × (n ≤ 127)) ⊎ ((b ≡ false) × (127 < n)) → FitsAside (if b then Bipush (pos n) else LdcW (p.constant n))
      by true (inl t) = let small : n < 2 ^ 7 = omega (arith, t.1) in record { sfits = small }
      by true (inr t) = let bad = t.0 in cc
      by false t = constants n

  mutual
    term_fits : (seen : Seen) (t : Term) → IsNamedTerm program names seen t → FitAside (term_code p local t)
    term_fits seen (Number n) h = one (number_code p local n) (number_fits n)
    term_fits seen (Variable x) h = one (Iload (local + x)) (omega (arith, few, h.1))
    term_fits seen (Called f args) h =
        let callable : IsCallable program f (arguments_count args) = h.0 in
        All-cons FitsAside (LdcW 0) (arguments_code p local args ++ Invokevirtual (p.entry f) ∷ []) (omega arith)
        (both (arguments_code p local args) (Invokevirtual (p.entry f) ∷ []) (arguments_fit seen args h.1)
        (one (Invokevirtual (p.entry f)) (entries f callable.function callable.is)))
    term_fits seen Get h = one In tt
    term_fits seen (Group e) h = expr_fits seen e h

    expr_fits : (seen : Seen) (e : Expr) → IsNamedExpr program names seen e → FitAside (expr_code p local e)
    expr_fits seen (Sum first rest) h = both (term_code p local first) (steps_code p local rest) (term_fits seen first h.0) (steps_fit seen rest h.1)

    steps_fit : (seen : Seen) (s : Steps) → AreNamedSteps program names seen s → FitAside (steps_code p local s)
    steps_fit seen no_steps h = All-nil FitsAside
    steps_fit seen (step op t rest) h = both _ _ (term_fits seen t h.0) (All-cons FitsAside (operator_code op) _ (operator_fits op) (steps_fit seen rest h.1))

    arguments_fit : (seen : Seen) (args : Arguments) → AreNamedArguments program names seen args → FitAside (arguments_code p local args)
    arguments_fit seen no_arguments h = All-nil FitsAside
    arguments_fit seen (argument e rest) h =
        both (expr_code p local e) (arguments_code p local rest) (expr_fits seen e h.0) (arguments_fit seen rest h.1)

  test_fits : (seen : Seen) (c : Cond) → IsNamedCond program names seen c → FitAside (test_code p local c)
  test_fits seen (Equal a b) h = both (expr_code p local a) (expr_code p local b) (expr_fits seen a h.0) (expr_fits seen b h.1)
  test_fits seen (Different a b) h = both (expr_code p local a) (expr_code p local b) (expr_fits seen a h.0) (expr_fits seen b h.1)
  test_fits seen (Less a b) h = both _ _ (expr_fits seen a h.0) (both _ _ (expr_fits seen b h.1) (one Isub tt))

  choice_fits : (test : List Instr) (jump : ℤ → Instr) (first second : List Instr) → ((z : ℤ) → FitsAside (jump z)) →
      FitAside test → FitAside first → FitAside second → FitAside (choice test jump first second)
  choice_fits test jump first second jumps tests firsts seconds =
      let far : ℤ = pos (6 + code_size first) in
      let past : ℤ = pos (3 + code_size second) in
      both test _ tests (All-cons FitsAside (jump far) _ (jumps far) (both first _ firsts (All-cons FitsAside (Goto past) second tt seconds)))

  if_fits : (seen : Seen) (c : Cond) (taken other : List Instr) → IsNamedCond program names seen c → FitAside taken → FitAside other →
      FitAside (if_code p local c taken other)
  if_fits seen (Different a b) taken other h firsts seconds =
      choice_fits (test_code p local (Different a b)) IfIcmpeq taken other (λ z. tt) (test_fits seen (Different a b) h) firsts seconds
  if_fits seen (Equal a b) taken other h firsts seconds =
      choice_fits (test_code p local (Equal a b)) IfIcmpeq other taken (λ z. tt) (test_fits seen (Equal a b) h) seconds firsts
  if_fits seen (Less a b) taken other h firsts seconds =
      choice_fits (test_code p local (Less a b)) Iflt other taken (λ z. tt) (test_fits seen (Less a b) h) seconds firsts

  leave_fits : (c : Cond) (size : ℕ) → FitAside (leave_code p local c size)
  leave_fits (Different a b) size = one (IfIcmpeq (pos (6 + size))) tt
  leave_fits (Equal a b) size = All-cons FitsAside (IfIcmpeq (pos 6)) (Goto (pos (6 + size)) ∷ []) tt (one (Goto (pos (6 + size))) tt)
  leave_fits (Less a b) size = All-cons FitsAside (Iflt (pos 6)) (Goto (pos (6 + size)) ∷ []) tt (one (Goto (pos (6 + size))) tt)

  while_fits : (seen : Seen) (c : Cond) (body : List Instr) → IsNamedCond program names seen c → FitAside body →
      FitAside (loop (test_code p local c) (leave_code p local c (code_size body)) body)
  while_fits seen c body h bodies =
      let leave : List Instr = leave_code p local c (code_size body) in
      let back : ℤ = neg_ℤ (pos (code_size (test_code p local c) + code_size leave + code_size body)) in
      both _ _ (test_fits seen c h) (both leave _ (leave_fits c _) (both body _ bodies (one _ tt)))

  module _ (in_main : Bool) where
    mutual
      statement_fits : (seen : Seen) (s : Statement) → IsNamedStatement program in_main names s seen → FitAside (statement_code p local s)
      statement_fits seen (Var x e) h =
          both (expr_code p local e) (Istore (local + x) ∷ []) (expr_fits seen e h.0) (one (Istore (local + x)) (omega (arith, few, h.1)))
      statement_fits seen (Assign x e) h =
          both (expr_code p local e) (Istore (local + x) ∷ []) (expr_fits seen e h.0) (one (Istore (local + x)) (omega (arith, few, h.2)))
      statement_fits seen (Calls f args) h = both (term_code p local (Called f args)) (Pop ∷ []) (term_fits seen (Called f args) h) (one Pop tt)
      statement_fits seen (If line c taken other) h =
          if_fits seen c (statements_code p local taken) (else_code p local other) h.0 (statements_fit seen taken h.1) (else_fits seen other h.2)
      statement_fits seen (While line c body) h = while_fits seen c (statements_code p local body) h.0 (statements_fit seen body h.1)
      statement_fits seen (Return e) h = both (expr_code p local e) (Ireturn ∷ []) (expr_fits seen e h.0) (one Ireturn tt)
      statement_fits seen (Put e) h = both (expr_code p local e) (Out ∷ []) (expr_fits seen e h) (one Out tt)
      statement_fits seen Halt h = one HaltCode tt

      pub statements_fit : (seen : Seen) (ss : Statements) → AreNamed program in_main names ss seen → FitAside (statements_code p local ss)
      statements_fit seen no_statements h = All-nil FitsAside
      statements_fit seen (statement s rest) h =
          both (statement_code p local s) (statements_code p local rest) (statement_fits seen s h.0) (statements_fit (seen_after s seen) rest h.1)

      else_fits : (seen : Seen) (o : Else) → IsNamedElse program in_main names o seen → FitAside (else_code p local o)
      else_fits seen no_else h = All-nil FitsAside
      else_fits seen (else_block b) h = statements_fit seen b h
