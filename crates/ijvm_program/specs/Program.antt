-- What contracts see of a program, and what holds of each.
use Rattle.std.specs.Prelude.{◌≡◌, ℕ, ◌+◌, ◌<◌, ◌≤◌, List, [], length, None, IsSome, All}
use Rattle.ijvm_program.specs.declared.line.Constant.{Constant}
use Rattle.ijvm_program.specs.declared.line.Operation.{Operation}
use Rattle.ijvm_program.specs.declared.line.Operation.TheVariants as operations
use Rattle.ijvm_program.specs.Unit.{UnitView}

pub record ProgramView : Type 0 where
  pub constants : List Constant
  pub main : UnitView
  pub methods : List UnitView

-- the position that an operation names is one of this many constants, methods or code lines
abbrev pub NamesPosition : ℕ → ℕ → ℕ → Operation → Type 0
NamesPosition constants methods lines (operations.Plain instr) = Unit {0}
NamesPosition constants methods lines (operations.Constant index) = index < constants
NamesPosition constants methods lines (operations.Call index) = index < methods
NamesPosition constants methods lines (operations.To jump target) = target < lines

-- the most parameters and locals of a unit: with the object reference they have numbers of two bytes
abbrev pub most_names : ℕ
most_names = 65534

-- a unit of a program of this many constants and methods: its lines and labels name positions that there are, and its parameters
-- and locals are few enough for the counts of a header
pub record IsUnit (constants methods : ℕ) (unit : UnitView) : Type 0 where
  pub lines : All (λ line. NamesPosition constants methods (length unit.lines) line.operation) unit.lines
  pub labels : All (λ label. label.at < length unit.lines) unit.labels
  pub few_locals : length unit.parameters + length unit.locals ≤ most_names

pub record IsProgram (program : ProgramView) : Type 0 where
  pub main : IsUnit (length program.constants) (length program.methods) program.main
  pub methods : All (IsUnit (length program.constants) (length program.methods)) program.methods
  pub main_name : program.main.name ≡ None
  pub main_parameters : program.main.parameters ≡ []
  pub method_names : All (λ method. IsSome method.name) program.methods
