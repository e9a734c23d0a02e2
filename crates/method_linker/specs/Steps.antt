-- What the linker's steps need and leave. Places are addresses in a unit's own code.
use Rattle.std.specs.Prelude.{ℕ, ◌+◌, ◌<◌, ◌≤◌, ℤ, List, [], ◌∷◌, length, map, All}
use Rattle.std.specs.List.{range_with_len, flat_map}
use Rattle.ijvm_text.specs.declared.text.Text.{Text}
use Rattle.ijvm_text.specs.Prelude.{Adds, code_bytes}
use Rattle.ijvm_program.specs.declared.line.CodeLine.{CodeLine}
use Rattle.ijvm_program.specs.declared.line.Operation.{Operation}
use Rattle.ijvm_program.specs.declared.line.Operation.TheVariants.{Plain, Constant, Call, To}
use Rattle.ijvm_program.specs.Prelude.{instr_of, line_address, UnitView}
use Rattle.method_linker.specs.Linked.{jumps_at, line_instr, line_jumps, unit_code, unit_jumps}

-- the places of a unit's lines
unfoldable pub line_places : List CodeLine → List ℕ
line_places lines = map (line_address lines) (range_with_len 0 (length lines))

-- the pool's index that an operation has is one of 16 bits
abbrev pub HasIndex : ℕ → Operation → Type 0
HasIndex first (Plain instr) = Unit {0}
HasIndex first (Constant index) = index < 65536
HasIndex first (Call index) = first + index < 65536
HasIndex first (To jump target) = Unit {0}

-- the line that an operation jumps to is one of this many
abbrev pub HasTarget : ℕ → Operation → Type 0
HasTarget lines (Plain instr) = Unit {0}
HasTarget lines (Constant index) = Unit {0}
HasTarget lines (Call index) = Unit {0}
HasTarget lines (To jump target) = target < lines

pub record IsLinkable (first lines : ℕ) (line : CodeLine) : Type 0 where
  pub index : HasIndex first line.operation
  pub target : HasTarget lines line.operation

-- what a unit needs to be linked: operations that have their indices and targets, and counts of 16 bits
pub record IsLinkableUnit (first : ℕ) (unit : UnitView) : Type 0 where
  pub lines : All (IsLinkable first (length unit.lines)) unit.lines
  pub few_locals : length unit.parameters + length unit.locals ≤ 65534

-- the instruction of a line that jumps so far is added
abbrev pub AddsLine : ℕ → Text → Text → CodeLine → ℤ → Type 0
AddsLine first old new line distance =
    Adds old new (code_bytes (instr_of first distance line.operation ∷ [])) (jumps_at line.line distance line.operation)

-- the instructions of these of the lines are added, each with its position
abbrev pub AddsLines : ℕ → List CodeLine → Text → Text → List (ℕ × CodeLine) → Type 0
AddsLines first lines old new some = Adds old new (code_bytes (map (line_instr first lines) some)) (flat_map (line_jumps lines) some)

-- the code of a unit is added
abbrev pub AddsUnit : ℕ → Text → Text → List CodeLine → Type 0
AddsUnit first old new lines = Adds old new (code_bytes (unit_code first lines)) (unit_jumps lines)
