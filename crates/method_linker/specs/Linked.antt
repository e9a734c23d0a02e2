-- The image of a program: its parts are main's code and the methods with their headers, its pool the constants and then the methods'
-- entries. And when a program has no image.
use Rattle.std.specs.Prelude.{ℕ, ◌+◌, ℤ, pos, ◌-ℤ◌, List, [], ◌∷◌, ◌++◌, length, map}
use Rattle.std.specs.List.{flat_map, enumerate_from}
use Rattle.ijvm_instr.specs.declared.instr.Instr.{Instr}
use Rattle.ijvm_instr.specs.Prelude.{Jump}
use Rattle.ijvm_image.specs.Prelude.{header, ImageView}
use Rattle.ijvm_text.specs.Prelude.{code_bytes, ExceedsJump, ExceedsPool, ExceedsText, IsImageOf, Layout, Part, begins}
use Rattle.ijvm_program.specs.declared.line.CodeLine.{CodeLine}
use Rattle.ijvm_program.specs.declared.line.Operation.{Operation}
use Rattle.ijvm_program.specs.declared.line.Operation.TheVariants.{Plain, Constant, Call, To}
use Rattle.ijvm_program.specs.Prelude.{instr_of, line_address, UnitView, ProgramView}
use Rattle.method_linker.specs.declared.error.LinkError.{LinkError}
use Rattle.method_linker.specs.declared.error.LinkError.TheVariants.{PoolTooLong, TextTooLong, JumpTooFar, OutOfMemory}

-- ---- the code of a unit: `first` is the index of the first method's entry in the pool

-- how far the operation of the line at this position jumps: from its own address to its target's
abbrev pub distance : List CodeLine → ℕ → Operation → ℤ
distance lines position (To jump target) = pos (line_address lines target) -ℤ pos (line_address lines position)
distance lines position (Plain instr) = pos 0
distance lines position (Constant index) = pos 0
distance lines position (Call index) = pos 0

abbrev pub line_instr : ℕ → List CodeLine → ℕ × CodeLine → Instr
line_instr first lines (position, line) = instr_of first (distance lines position line.operation) line.operation

-- a jump has the number of its line in the source
abbrev pub jumps_at : ℕ → ℤ → Operation → List Jump
jumps_at line distance (To jump target) = (line, distance) ∷ []
jumps_at line distance _ = []

abbrev pub line_jumps : List CodeLine → ℕ × CodeLine → List Jump
line_jumps lines (position, line) = jumps_at line.line (distance lines position line.operation) line.operation

-- the code of a unit
unfoldable pub unit_code : ℕ → List CodeLine → List Instr
unit_code first lines = map (line_instr first lines) (enumerate_from 0 lines)

unfoldable pub unit_jumps : List CodeLine → List Jump
unit_jumps lines = flat_map (line_jumps lines) (enumerate_from 0 lines)

-- ---- the parts

-- the counts of a method: its parameters with the object reference, and its other locals
abbrev pub header_of : UnitView → List ℕ
header_of method = header (length method.parameters + 1) (length method.locals)

abbrev pub method_bytes : ℕ → UnitView → List ℕ
method_bytes first method = header_of method ++ code_bytes (unit_code first method.lines)

abbrev pub method_part : ℕ → UnitView → Part
method_part first method = record { bytes = method_bytes first method; jumps = unit_jumps method.lines }

unfoldable pub layout_of : ProgramView → Layout
layout_of program =
    record {
      main = record { bytes = code_bytes (unit_code (length program.constants) program.main.lines); jumps = unit_jumps program.main.lines };
      methods = map (method_part (length program.constants)) program.methods;
      before = map (λ c. c.value) program.constants;
      after = [];
    }

-- where the methods begin
abbrev pub entries_of : ProgramView → List ℕ
entries_of program = begins (length (layout_of program).main.bytes) (layout_of program).methods

abbrev pub pool_size : ProgramView → ℕ
pool_size program = length program.constants + length program.methods

-- ---- limits

-- the program is in the limits, and this is its image
abbrev pub IsLinked : ProgramView → ImageView → Type 0
IsLinked program image = IsImageOf (layout_of program) image

-- this is the first limit that the program exceeds; memory may end at any time
abbrev pub IsRefused : ProgramView → LinkError → Type 0
IsRefused program (PoolTooLong count) = ExceedsPool (layout_of program) count
IsRefused program (TextTooLong size) = ExceedsText (layout_of program) size
IsRefused program (JumpTooFar line far) = ExceedsJump (layout_of program) (line, far)
IsRefused program OutOfMemory = Unit {0}
