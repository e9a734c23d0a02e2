-- The sections of a source, and their lines: a section is its begin line, its lines and its end line, and blank lines may
-- stand anywhere.
use Rattle.std.specs.Prelude.{ℕ, List, [], ◌∷◌, ◌++◌, map, replicate, Option, Some, None}
use Rattle.ijvm_asm.specs.Common.{Constant, Instruction}
use Rattle.ijvm_line.specs.declared.place.Place.TheVariants as places
use Rattle.ijvm_line.specs.declared.place.Mark.TheVariants as marks
use Rattle.ijvm_asm.specs.Said.{BlankAt, Codes, Declares, Defines, Dotted, Heads, Said}

-- a label, an instruction, or both
pub record CodeItem : Type 0 where
  pub label : Option (List ℕ)
  pub instruction : Option Instruction

-- the `.var` section of a unit, after this many blank lines; `None` is a blank line
pub record Locals : Type 0 where
  pub blank_lines : ℕ
  pub names : List (Option (List ℕ))

-- a unit: perhaps a `.var` section, then its code lines; `None` is a blank line
pub record Body : Type 0 where
  pub locals : Option Locals
  pub code : List (Option CodeItem)

pub data Section : Type 0 where
  -- a blank line between sections
  Between : Section
  Constants : (items : List (Option Constant)) → Section
  Main : (body : Body) → Section
  Method : (name : List ℕ) → (parameters : List (List ℕ)) → (body : Body) → Section

abbrev pub constant_line : Option Constant → Said
constant_line None = BlankAt places.Constants
constant_line (Some c) = Defines c.name c.value

abbrev pub local_line : Option (List ℕ) → Said
local_line None = BlankAt places.Locals
local_line (Some name) = Declares name

abbrev pub code_line : Option CodeItem → Said
code_line None = BlankAt places.Code
code_line (Some c) = Codes c.label c.instruction

-- each of these is the lines of a part, followed by the lines `following`
abbrev pub locals_lines : Option Locals → List Said → List Said
locals_lines None following = following
locals_lines (Some d) following = replicate d.blank_lines (BlankAt places.Code)
    ++ (Dotted marks.BeginLocals ∷ (map local_line d.names ++ (Dotted marks.EndLocals ∷ following)))

abbrev pub body_lines : Body → List Said → List Said
body_lines b following = locals_lines b.locals (map code_line b.code ++ following)

abbrev pub section_lines : Section → List Said → List Said
section_lines Between following = BlankAt places.Outside ∷ following
section_lines (Constants items) following = Dotted marks.BeginConstants ∷ (map constant_line items ++ (Dotted marks.EndConstants ∷ following))
section_lines (Main body) following = Dotted marks.BeginMain ∷ body_lines body (Dotted marks.EndMain ∷ following)
section_lines (Method name ps body) following = Heads name ps ∷ body_lines body (Dotted marks.EndMethod ∷ following)

-- the lines of all sections
abbrev pub lines_of : List Section → List Said
lines_of [] = []
lines_of (x ∷ xs) = section_lines x (lines_of xs)
