-- The lines of a console's bytes. A newline ends a line; so do its 256th byte, and the end of the bytes.
use Rattle.std.specs.Prelude.{◌≡◌, ◌<◌, ℕ, zero, suc, ◌-◌, ◌==◌, if◌then◌else◌, List, [], ◌∷◌, ◌++◌, length, Result, Ok, Err, Option, Some, IfSome}
use Rattle.cli_session.specs.declared.line.Read.{Read}
use Rattle.cli_session.specs.declared.line.Read.TheVariants as reads

-- the first line of some bytes, of at most this many
abbrev pub line_in : ℕ → List ℕ → List ℕ
line_in zero bytes = []
line_in (suc n) [] = []
line_in (suc n) (b ∷ bytes) = if b == 10 then [] else b ∷ line_in n bytes

-- what follows that line, and the newline that ended it
abbrev pub after_line : ℕ → List ℕ → List ℕ
after_line zero bytes = bytes
after_line (suc n) [] = []
after_line (suc n) (b ∷ bytes) = if b == 10 then bytes else after_line n bytes

-- a line was read of these bytes
pub record IsFirstLine (told line : List ℕ) (left : Option (List ℕ)) : Type 0 where
  pub some : 0 < length told
  pub line_is : line ≡ line_in 256 told
  pub rest : left ≡ Some (after_line 256 told)

-- a failing console cuts a line after these bytes of it
pub record IsCutLine (told line : List ℕ) (left : Option (List ℕ)) : Type 0 where
  pub rest : List ℕ
  pub left_is : left ≡ Some rest
  pub told_is : told ≡ line ++ rest
  pub short : length line < 256
  pub unended : line_in 256 told ≡ line ++ line_in (256 - length line) rest

abbrev pub ReadsLineOf : {E : Type 0} → List ℕ → List ℕ → Result Read E → Option (List ℕ) → Type 0
ReadsLineOf told line (Ok reads.Line) left = IsFirstLine told line left
ReadsLineOf told line (Ok reads.Last) left = IsFirstLine told line left × (after_line 256 told ≡ [])
ReadsLineOf told line (Ok reads.Nothing) left = (told ≡ []) × (left ≡ Some [])
ReadsLineOf told line (Err e) left = IsCutLine told line left

-- what came of reading a line, where the console's bytes are known
abbrev pub ReadsLine : {E : Type 0} → Option (List ℕ) → List ℕ → Result Read E → Option (List ℕ) → Type 0
ReadsLine old line result new = IfSome old (λ told. ReadsLineOf told line result new)
