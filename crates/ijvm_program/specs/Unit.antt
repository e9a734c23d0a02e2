-- What contracts see of a unit.
use Rattle.std.specs.Prelude.{ℕ, List, Option}
use Rattle.ijvm_program.specs.declared.line.CodeLine.{CodeLine}
use Rattle.ijvm_program.specs.declared.line.Label.{Label}

pub record UnitView : Type 0 where
  -- none for main
  pub name : Option (List ℕ)
  pub parameters : List (List ℕ)
  pub locals : List (List ℕ)
  pub lines : List CodeLine
  pub labels : List Label

abbrev pub unit_of : Option (List ℕ) → List (List ℕ) → List (List ℕ) → List CodeLine → List Label → UnitView
unit_of name parameters locals lines labels = record { name = name; parameters = parameters; locals = locals; lines = lines; labels = labels }
