-- What is emitted of a program.
use Rattle.std.specs.Prelude.{◌≡◌, ℕ, ◌+◌, List, map, slice_get, Some}
use Rattle.ijvm_image.specs.Prelude.{header}
use Rattle.ijvm_text.specs.declared.text.Text.{Text}
use Rattle.ijvm_text.specs.declared.units.Units.{Units}
use Rattle.ijvm_text.specs.Prelude.{Adds, AddsCode, AddsParts, AreUnits}
use Rattle.tiny_tree.specs.declared.tree.Function as declared
use Rattle.tiny_tree.specs.Prelude.{Function, Program, vars_of, block_tree, function_tree}
use Rattle.tiny_code.specs.Prelude.{Places, main_code, layout_of, method_part, statements_lines}

abbrev pub program_of : List declared.Function → ℕ → Program
program_of functions main = record { functions = map function_tree functions; main = main }

-- a method's header: how many words it takes with its link word, and how many variables it has
abbrev pub header_of : declared.Function → List ℕ
header_of f = header (f.parameters + 1) (vars_of (block_tree f.body))

abbrev pub AddsMain : Places → Text → Text → Function → Type 0
AddsMain p old new g = AddsCode old new (main_code p g) (statements_lines g.body)

-- a method with its header, whose code does not depend on the position of its function
abbrev pub AddsMethod : Places → Text → Text → Function → Type 0
AddsMethod p old new g = Adds old new (method_part p (0, g)).bytes (method_part p (0, g)).jumps

-- these methods, each with its header
abbrev pub AddsMethods : Places → Units → Units → List (ℕ × Function) → Type 0
AddsMethods p old new ms = AddsParts old new (map (method_part p) ms)

-- the units are the program's, whatever its main is
abbrev pub AreUnitsOf : Program → Units → Type 0
AreUnitsOf program units = (main : Function) → slice_get program.functions program.main ≡ Some main → AreUnits (layout_of program main) units
