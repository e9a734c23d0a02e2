-- An image in which a program is laid out: main's code from address 0 on, then the other functions in order, each with its header.
use Rattle.std.specs.Prelude.{◌≡◌, ◌≢◌, ◌<◌, ◌≤◌, ℕ, ◌+◌, List, [], ◌∷◌, length, slice_get, Some, All}
use Rattle.tiny_code.specs.Common.{flat_map, Instr, row_of, size_of, instr_at, ImageView, params, others}
use Rattle.tiny_tree.specs.Prelude.{Function, Program, vars_of}
use Rattle.tiny_code.specs.Code.{Places, code_size, main_code, method_code, method_size, methods, function_numbers}

-- the instructions stand at this address, one after the other
abbrev pub CodeAt : List ℕ → ℕ → List Instr → Type 0
CodeAt text at [] = at ≤ 65536
CodeAt text at (i ∷ is) = (at ≤ 65536) × (instr_at text at ≡ Some i) × CodeAt text (at + size_of (row_of i)) is

-- the pool has these numbers at their places
abbrev pub HasNumbers : ImageView → Places → List ℕ → Type 0
HasNumbers image p ns = All (λ n. slice_get image.pool (p.constant n) ≡ Some n) ns

-- the function at this position stands in the image as a method that begins at this address
pub record IsMethodAt (image : ImageView) (p : Places) (begin f : ℕ) (g : Function) : Type 0 where
  pub entry : slice_get image.pool (p.entry f) ≡ Some begin
  pub inside : begin + 4 < length image.text
  pub params : params image.text begin ≡ g.parameters + 1
  pub others : others image.text begin ≡ vars_of g.body
  pub code : CodeAt image.text (begin + 4) (method_code p g)

-- these functions stand one after the other, from this address on
abbrev pub AreMethodsAt : ImageView → Places → ℕ → List (ℕ × Function) → Type 0
AreMethodsAt image p begin [] = Unit {0}
AreMethodsAt image p begin (m ∷ ms) = IsMethodAt image p begin m.0 m.1 × AreMethodsAt image p (begin + method_size p m.1) ms

pub record IsLaidOut (image : ImageView) (p : Places) (program : Program) : Type 0 where
  -- the object reference of calls
  pub object : slice_get image.pool 0 ≡ Some 0
  pub numbers : HasNumbers image p (flat_map function_numbers program.functions)
  pub main : Function
  pub main_is : slice_get program.functions program.main ≡ Some main
  pub main_at : CodeAt image.text 0 (main_code p main)
  pub methods : AreMethodsAt image p (code_size (main_code p main)) (methods program)

-- what a run takes from the image, function by function
pub record Holds (image : ImageView) (p : Places) (program : Program) : Type 0 where
  pub object : slice_get image.pool 0 ≡ Some 0
  pub numbers : (f : ℕ) (g : Function) → slice_get program.functions f ≡ Some g → HasNumbers image p (function_numbers g)
  pub main : Function
  pub main_is : slice_get program.functions program.main ≡ Some main
  pub main_at : CodeAt image.text 0 (main_code p main)
  pub methods : (f : ℕ) (g : Function) → slice_get program.functions f ≡ Some g → f ≢ program.main →
      (begin : ℕ) × IsMethodAt image p begin f g
