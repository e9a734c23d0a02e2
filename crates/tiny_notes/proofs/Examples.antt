-- A worked program whose names are known, and an image in which it is laid out.
use Rattle.tiny_notes.proofs.Common.{◌≡◌, ◌≢◌, ℕ, zero, suc, ◌+◌, ◌≤◌, List, [], ◌∷◌, Some, refl, subst, arith, slice_get, same_Some, All-nil, Instr, instr_at}
use Rattle.tiny_notes.proofs.Common.{of_bytes, row_of, size_of, ImageView, params, others, Operator, Plus, Minus}
use Rattle.tiny_tree.specs.Prelude.{Term, Number, Variable, Called, Expr, Sum, no_steps, step, Different, Statement, Var, Assign, While, Return, Put, Function, Program, arguments_of, statements_of, IsNamed, IsNamedFunction}
use Rattle.tiny_code.specs.Prelude.{Places, code_size, main_code, method_code, CodeAt, IsMethodAt, IsLaidOut}

abbrev alone : Term → Expr
alone t = Sum t no_steps

abbrev two : Term → Operator → Term → Expr
two a op b = Sum a (step op b no_steps)

abbrev add : Function
add = record { parameters = 2; body = statements_of (Return (two (Variable 0) Plus (Variable 1)) ∷ []) }

abbrev body : List Statement
body =
    Put (alone (Called 0 (arguments_of (alone (Number 64) ∷ alone (Variable 0) ∷ []))))
    ∷ Assign 0 (two (Variable 0) Minus (Number 1)) ∷ []

abbrev main : Function
main = record {
  parameters = 0;
  body = statements_of (Var 0 (alone (Number 3)) ∷ While 1 (Different (alone (Variable 0)) (alone (Number 0))) (statements_of body) ∷ []);
}

-- fn add(a, b) { return a + b; } fn main() { var n = 3; while n != 0 { put add(64, n); n = n - 1; } }
abbrev countdown : Program
countdown = record { functions = add ∷ main ∷ []; main = 1 }

abbrev places : Places
places = record { constant = λ n. 0; entry = λ f. 1 }

abbrev image : ImageView
image = record {
  text =
      16 ∷ 3 ∷ 54 ∷ 0 ∷ 21 ∷ 0 ∷ 16 ∷ 0 ∷ 159 ∷ 0 ∷ 24 ∷ 19 ∷ 0 ∷ 0 ∷ 16 ∷ 64 ∷ 21 ∷ 0 ∷ 182 ∷ 0 ∷ 1 ∷ 253 ∷ 21 ∷ 0 ∷ 16 ∷ 1 ∷ 100 ∷ 54 ∷ 0
      ∷ 167 ∷ 255 ∷ 231 ∷ 255
      ∷ 0 ∷ 3 ∷ 0 ∷ 0 ∷ 21 ∷ 1 ∷ 21 ∷ 2 ∷ 96 ∷ 172 ∷ 16 ∷ 0 ∷ 172 ∷ [];
  pool = 0 ∷ 33 ∷ [];
}

zero_other : ◌≢◌ {A = ℕ} 0 1
zero_other h = absurd (omega (arith, h))

add_named : IsNamedFunction countdown 0 add
add_named = record { few = omega arith; body = ((((refl, omega arith), ((refl, omega arith), tt)), refl), tt) }

main_named : IsNamedFunction countdown 1 main
main_named = record {
  few = omega arith;
  body = (
    ((omega arith, tt), omega arith),
    (
      (
        (((refl, omega arith), tt), (omega arith, tt)),
        (
          ((record { function = add; is = refl; counts = refl; other = zero_other }, ((omega arith, tt), (((refl, omega arith), tt), tt))), tt),
          ((((refl, omega arith), ((omega arith), tt)), refl, omega arith), tt),
        ),
      ),
      tt,
    ),
  );
}

named : IsNamed countdown
named = record { main = main; main_is = refl; no_parameters = refl; functions = named_by }
  where
    named_by : (f : ℕ) (g : Function) → slice_get (add ∷ main ∷ []) f ≡ Some g → IsNamedFunction countdown f g
    named_by zero g h = subst (IsNamedFunction countdown 0) (same_Some add g h) add_named
    named_by (suc zero) g h = subst (IsNamedFunction countdown 1) (same_Some main g h) main_named
    named_by (suc (suc f)) g h = cc

abbrev AreRead : List ℕ → ℕ → List Instr → Type 0
AreRead text at [] = Unit {0}
AreRead text at (i ∷ is) = (instr_at text at ≡ Some i) × AreRead text (at + size_of (row_of i)) is

stands : (text : List ℕ) (at : ℕ) (is : List Instr) → at + code_size is ≤ 65536 → AreRead text at is → CodeAt text at is
stands text at [] h r = omega (arith, h)
stands text at (i ∷ is) h r = (omega (arith, h), r.0, stands text (at + size_of (row_of i)) is (omega (arith, h)) r.1)

add_at : IsMethodAt image places 33 0 add
unfolding of_bytes instr_at params others
add_at = record {
  entry = refl;
  inside = omega arith;
  params = refl;
  others = refl;
  code = stands image.text 37 (method_code places add) (omega arith) assumption;
}

laid_out : IsLaidOut image places countdown
unfolding of_bytes instr_at params others
laid_out = record {
  object = refl;
  numbers = All-nil _;
  main = main;
  main_is = refl;
  main_at = stands image.text 0 (main_code places main) (omega arith) assumption;
  methods = (add_at, tt);
}
