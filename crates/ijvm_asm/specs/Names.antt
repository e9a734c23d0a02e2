-- How names stand for positions: what an instruction of a unit stands for, given the constants and the methods, and which program a source is.
use Rattle.std.specs.Prelude.{◌≡◌, ◌⊎◌, ◌≤◌, ℕ, ◌+◌, List, [], ◌∷◌, Option, Some, None, is_some, if◌then◌else◌, IsSomeAnd, map, take, drop, ⊤}
use Rattle.ijvm_asm.specs.Common.{slice_get, zip, Constant, Label, Operation, ProgramView, UnitView, Instruction, access_instr, increment_instr, place_of_name}
use Rattle.ijvm_program.specs.declared.line.CodeLine.{CodeLine}
use Rattle.ijvm_program.specs.declared.line.Operation.TheVariants as operations
use Rattle.ijvm_line.specs.declared.instruction.Instruction.TheVariants as instructions
use Rattle.ijvm_asm.specs.declared.draft.DraftLine.{DraftLine}
use Rattle.ijvm_asm.specs.Drafts.{DraftView}
use Rattle.ijvm_asm.specs.Making.{Declarations}

-- the lists have the same length, and each two elements at one place are so
abbrev pub Pairwise : {A B : Type 0} → (A → B → Type 0) → List A → List B → Type 0
Pairwise R [] [] = ⊤
Pairwise R (x ∷ xs) (y ∷ ys) = R x y × Pairwise R xs ys
Pairwise R _ _ = ⊥

-- main's locals are numbered from 0; a method's parameters from 1, and its locals after them
abbrev pub first_index : DraftView → ℕ
first_index u = if is_some u.name then 1 else 0

-- the parameter or local of this name has this index
abbrev pub IsLocal : DraftView → List ℕ → ℕ → Type 0
IsLocal u name index = (place : ℕ) × (place_of_name u.names name ≡ Some place) × (index ≡ place + first_index u)

-- the label stands before the code line at this position
abbrev pub IsLabel : DraftView → List ℕ → ℕ → Type 0
IsLabel u label position = (place : ℕ) × (place_of_name u.labels label ≡ Some place) × (slice_get u.label_positions place ≡ Some position)

-- the instruction stands for the operation; the wide forms are taken where they are forced, and where index or number need them
abbrev pub StandsFor : List (List ℕ) → List (List ℕ) → DraftView → Instruction → Operation → Type 0
StandsFor constants methods u (instructions.Plain instr) operation = operation ≡ operations.Plain instr
StandsFor constants methods u (instructions.Constant name) operation = (i : ℕ) × (place_of_name constants name ≡ Some i) × (operation ≡ operations.Constant i)
StandsFor constants methods u (instructions.Local access wide name) operation = (i : ℕ) × IsLocal u name i
    × (operation ≡ operations.Plain (access_instr access wide i))
StandsFor constants methods u (instructions.Increment wide name by) operation = (i : ℕ) × IsLocal u name i
    × (operation ≡ operations.Plain (increment_instr wide i by))
StandsFor constants methods u (instructions.Jump jump label) operation = (i : ℕ) × IsLabel u label i × (operation ≡ operations.To jump i)
StandsFor constants methods u (instructions.Call name) operation = (i : ℕ) × (place_of_name methods name ≡ Some i) × (operation ≡ operations.Call i)

-- the instruction names what is not declared as what it asks for
abbrev pub NamesNone : List (List ℕ) → List (List ℕ) → DraftView → Instruction → Type 0
NamesNone constants methods u instruction = (operation : Operation) → StandsFor constants methods u instruction operation → ⊥

-- the line of the program that a line of the source stands for
pub record IsLineOf (constants methods : List (List ℕ)) (u : DraftView) (draft : DraftLine) (line : CodeLine) : Type 0 where
  pub number : line.line ≡ draft.line
  pub operation : StandsFor constants methods u draft.instruction line.operation

abbrev pub labels_of : DraftView → List Label
labels_of u = map (λ p. record { name = p.0; at = p.1 }) (zip u.labels u.label_positions)

-- the unit of the program that a unit of the source stands for
pub record IsUnitOf (constants methods : List (List ℕ)) (u : DraftView) (unit : UnitView) : Type 0 where
  pub name : unit.name ≡ u.name
  pub parameters : unit.parameters ≡ take u.parameters u.names
  pub locals : unit.locals ≡ drop u.parameters u.names
  pub labels : unit.labels ≡ labels_of u
  pub lines : Pairwise (IsLineOf constants methods u) u.lines unit.lines

abbrev pub constants_of : Declarations → List Constant
constants_of d = map (λ p. record { name = p.0; value = p.1 }) (zip d.constants d.values)

-- the program of what a source declares: its constants in order with their values, its main, and its methods in order
pub record IsProgramOf (d : Declarations) (p : ProgramView) : Type 0 where
  pub constants : p.constants ≡ constants_of d
  pub main : IsSomeAnd d.main (λ u. IsUnitOf d.constants d.methods u p.main)
  pub methods : Pairwise (IsUnitOf d.constants d.methods) d.units p.methods

-- ---- names that are not declared

-- the line has this number and names what is not declared
abbrev pub IsUnknownLine : List (List ℕ) → List (List ℕ) → DraftView → DraftLine → ℕ → Type 0
IsUnknownLine constants methods u draft k = (draft.line ≡ k) × NamesNone constants methods u draft.instruction

-- one of these lines of a unit has this number and names what is not declared
abbrev pub IsUnknownIn : List (List ℕ) → List (List ℕ) → DraftView → List DraftLine → ℕ → Type 0
IsUnknownIn constants methods u [] k = ⊥
IsUnknownIn constants methods u (d ∷ ds) k = IsUnknownLine constants methods u d k ⊎ IsUnknownIn constants methods u ds k

-- a line of one of these units has this number and names what is not declared
abbrev pub IsUnknownAt : List (List ℕ) → List (List ℕ) → List DraftView → ℕ → Type 0
IsUnknownAt constants methods [] k = ⊥
IsUnknownAt constants methods (u ∷ us) k = IsUnknownIn constants methods u u.lines k ⊎ IsUnknownAt constants methods us k

abbrev pub all_units : Option DraftView → List DraftView → List DraftView
all_units None us = us
all_units (Some main) us = main ∷ us

-- the number has the property, and none below it has
pub record IsLowest (P : ℕ → Type 0) (k : ℕ) : Type 0 where
  pub holds : P k
  pub lowest : (j : ℕ) → P j → k ≤ j

-- line `k` names what is not declared
abbrev pub NamesUnknown : Declarations → ℕ → Type 0
NamesUnknown d k = IsUnknownAt d.constants d.methods (all_units d.main d.units) k
