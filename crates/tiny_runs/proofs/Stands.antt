-- Code that stands in a text.
use Rattle.tiny_runs.proofs.Common.{◌≡◌, ◌≤◌, ℕ, ◌+◌, List, [], ◌∷◌, ◌++◌, Some, refl, arith, Instr, row_of, size_of, instr_at}
use Rattle.tiny_code.specs.Prelude.{code_size, CodeAt, back_at, front_at, size_append}

-- the code stands from the first address up to the second
pub record Spans (text : List ℕ) (at end : ℕ) (is : List Instr) : Type 0 where
  pub has : CodeAt text at is
  pub ends : end ≡ at + code_size is

far_at : (text : List ℕ) (at : ℕ) (is : List Instr) → CodeAt text at is → at + code_size is ≤ 65536
far_at text at [] h = omega (arith, h)
far_at text at (i ∷ is) h = omega (arith, far_at text (at + size_of (row_of i)) is h.2)

module _ {text : List ℕ} {at end : ℕ} where
  pub front : (a b : List Instr) → Spans text at end (a ++ b) → Spans text at (at + code_size a) a
  front a b s = record { has = front_at text at a b s.has; ends = refl }

  pub back : (a b : List Instr) → Spans text at end (a ++ b) → Spans text (at + code_size a) end b
  back a b s = record { has = back_at text at a b s.has; ends = omega (arith, s.ends, size_append a b) }

  pub here : (i : Instr) (is : List Instr) → Spans text at end (i ∷ is) → instr_at text at ≡ Some i
  here i is s = s.has.1

  pub next : (i : Instr) (is : List Instr) → Spans text at end (i ∷ is) → Spans text (at + size_of (row_of i)) end is
  next i is s = record { has = s.has.2; ends = omega (arith, s.ends) }

  pub none : Spans text at end [] → at ≡ end
  none s = omega (arith, s.ends)

  pub near : (is : List Instr) → Spans text at end is → end ≤ 65536
  near is s = omega (arith, s.ends, far_at text at is s.has)
