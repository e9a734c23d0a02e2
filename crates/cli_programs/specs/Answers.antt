-- How a command ends that works over the program of a file.
use Rattle.std.specs.Prelude.{ℕ, List, length}
use Rattle.cli_programs.specs.Common.{MemoryMap, file_of, VerifiedView, OutsideView, Ends, WritesThenPrints, sizes}
use Rattle.cli_programs.specs.Program.{IsNoSource, IsAcceptedProgram, IsRefusedProgram, IsSource}

-- over the accepted program that a file holds
abbrev pub EndsOver : MemoryMap → (VerifiedView → OutsideView → OutsideView → ℕ → Type 0) → List ℕ → OutsideView → OutsideView → ℕ → Type 0
EndsOver map = Ends (IsRefusedProgram map) (IsAcceptedProgram map)

-- the image of a source is written to the target, and then its sizes are printed
abbrev pub Assembles : List ℕ → List ℕ → OutsideView → OutsideView → ℕ → Type 0
Assembles target = Ends IsNoSource IsSource (λ image. WritesThenPrints target (file_of image) (sizes (length image.text) (length image.pool)))
