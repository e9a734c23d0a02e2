-- How a command ends that works over the program that a Tiny file compiles to.
use Rattle.std.specs.Prelude.{ℕ, List, length}
use Rattle.cli_programs.specs.Common.{file_of, VerifiedView, OutsideView, Ends, WritesThenPrints, sizes, IsCompiled}
use Rattle.cli_programs.specs.TinyRefusals.{IsRefusedTiny}

-- over the program that a file compiles to
abbrev pub EndsOverTiny : (VerifiedView → OutsideView → OutsideView → ℕ → Type 0) → List ℕ → OutsideView → OutsideView → ℕ → Type 0
EndsOverTiny = Ends IsRefusedTiny IsCompiled

-- its image is written to the target as that of a source is, and then its sizes are printed
abbrev pub Compiles : List ℕ → List ℕ → OutsideView → OutsideView → ℕ → Type 0
Compiles target = EndsOverTiny (λ program.
    WritesThenPrints target (file_of program.image) (sizes (length program.image.text) (length program.image.pool)))
