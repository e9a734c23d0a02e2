-- How the reader looks names up: what an instruction stands for, the lowest line that names what is not declared, and the whole program.
-- Computes the rules of `Names`.
use Rattle.std.specs.Prelude.{ℕ, ◌+◌, List, [], ◌∷◌, ◌++◌, Option, Some, None, Result, Ok, Err, if◌then◌else◌, nat_le, take, drop, option_map, option_and_then}
use Rattle.ijvm_asm.specs.Common.{slice_get, Constant, Operation, UnitView, ProgramView, Place, Instruction, access_instr, increment_instr, place_of_name}
use Rattle.ijvm_program.specs.declared.line.CodeLine.{CodeLine}
use Rattle.ijvm_program.specs.declared.line.Operation.TheVariants as operations
use Rattle.ijvm_line.specs.declared.place.Place.TheVariants as places
use Rattle.ijvm_line.specs.declared.instruction.Instruction.TheVariants as instructions
use Rattle.ijvm_asm.specs.declared.draft.DraftLine.{DraftLine}
use Rattle.ijvm_asm.specs.declared.error.AsmError.{AsmError}
use Rattle.ijvm_asm.specs.declared.error.AsmError.TheVariants as errors
use Rattle.ijvm_asm.specs.Drafts.{DraftView}
use Rattle.ijvm_asm.specs.Names.{constants_of, first_index, labels_of}
use Rattle.ijvm_asm.specs.Source.{declarations_of, Source}

-- ---- one line

abbrev pub index_of : DraftView → List ℕ → Option ℕ
index_of u name = option_map (λ place. place + first_index u) (place_of_name u.names name)

abbrev pub label_of : DraftView → List ℕ → Option ℕ
label_of u label = option_and_then (λ place. slice_get u.label_positions place) (place_of_name u.labels label)

abbrev pub operation_of : List (List ℕ) → List (List ℕ) → DraftView → Instruction → Option Operation
operation_of constants methods u (instructions.Plain instr) = Some (operations.Plain instr)
operation_of constants methods u (instructions.Constant name) = option_map (λ place. operations.Constant place) (place_of_name constants name)
operation_of constants methods u (instructions.Local access wide name) =
    option_map (λ index. operations.Plain (access_instr access wide index)) (index_of u name)
operation_of constants methods u (instructions.Increment wide name by) =
    option_map (λ index. operations.Plain (increment_instr wide index by)) (index_of u name)
operation_of constants methods u (instructions.Jump jump label) = option_map (λ position. operations.To jump position) (label_of u label)
operation_of constants methods u (instructions.Call name) = option_map (λ place. operations.Call place) (place_of_name methods name)

-- ---- the lowest line that names what is not declared

abbrev pub lower : Option ℕ → ℕ → Option ℕ
lower None line = Some line
lower (Some least) line = if nat_le least line then Some least else Some line

abbrev pub or_line : Option ℕ → ℕ → Option Operation → Option ℕ
or_line least line None = lower least line
or_line least line (Some operation) = least

-- the lowest of one that is known and those of these lines
abbrev pub unknown_lines : List (List ℕ) → List (List ℕ) → DraftView → Option ℕ → List DraftLine → Option ℕ
unknown_lines constants methods u least [] = least
unknown_lines constants methods u least (d ∷ ds) = unknown_lines constants methods u (or_line least d.line (operation_of constants methods u d.instruction)) ds

abbrev pub unknown_units : List (List ℕ) → List (List ℕ) → Option ℕ → List DraftView → Option ℕ
unknown_units constants methods least [] = least
unknown_units constants methods least (u ∷ us) = unknown_units constants methods (unknown_lines constants methods u least u.lines) us

abbrev pub unknown_main : List (List ℕ) → List (List ℕ) → Option DraftView → Option ℕ
unknown_main constants methods None = None
unknown_main constants methods (Some u) = unknown_lines constants methods u None u.lines

abbrev pub unknown : Source → Option ℕ
unknown s = unknown_units s.constants s.methods (unknown_main s.constants s.methods s.main) s.units

-- ---- units

-- the lines after those that are done
abbrev pub lines_from : List (List ℕ) → List (List ℕ) → DraftView → List CodeLine → List DraftLine → Option (List CodeLine)
lines_from constants methods u done [] = Some done
lines_from constants methods u done (d ∷ ds) =
    option_and_then (λ o. lines_from constants methods u (done ++ (record { line = d.line; operation = o }) ∷ []) ds)
    (operation_of constants methods u d.instruction)

abbrev pub unit_with : DraftView → List CodeLine → UnitView
unit_with u lines =
    record { name = u.name; parameters = take u.parameters u.names; locals = drop u.parameters u.names; lines = lines; labels = labels_of u }

abbrev pub unit_of : List (List ℕ) → List (List ℕ) → DraftView → Option UnitView
unit_of constants methods u = option_map (unit_with u) (lines_from constants methods u [] u.lines)

abbrev pub units_from : List (List ℕ) → List (List ℕ) → List UnitView → List DraftView → Option (List UnitView)
units_from constants methods done [] = Some done
units_from constants methods done (u ∷ us) = option_and_then (λ v. units_from constants methods (done ++ v ∷ []) us) (unit_of constants methods u)

-- ---- the whole source

-- the line that began the innermost section that is open
abbrev pub missing_at : Place → Source → Option ℕ
missing_at places.Outside s = None
missing_at places.Constants s = Some s.section
missing_at places.Locals s = Some s.inner
missing_at places.Code s = Some s.section

abbrev pub missing : Source → Option ℕ
missing s = missing_at s.place s

abbrev pub program_with : List Constant → Option UnitView → Option (List UnitView) → Option ProgramView
program_with constants (Some main) (Some methods) = Some (record { constants = constants; main = main; methods = methods })
program_with constants _ _ = None

abbrev pub or_no_main : Option ProgramView → Result ProgramView AsmError
or_no_main None = Err errors.NoMain
or_no_main (Some p) = Ok p

abbrev pub by_main : Source → Option DraftView → Result ProgramView AsmError
by_main s None = Err errors.NoMain
by_main s (Some u) = or_no_main
    (program_with (constants_of (declarations_of s)) (unit_of s.constants s.methods u)
    (units_from s.constants s.methods [] s.units))

abbrev pub by_unknown : Source → Option ℕ → Result ProgramView AsmError
by_unknown s (Some k) = Err (errors.UnknownName k)
by_unknown s None = by_main s s.main

abbrev pub by_missing : Source → Option ℕ → Result ProgramView AsmError
by_missing s (Some k) = Err (errors.MissingEnd k)
by_missing s None = by_unknown s (unknown s)

-- the program, or the first refusal of the whole source
unfoldable pub whole_program : Source → Result ProgramView AsmError
whole_program s = by_missing s (missing s)
