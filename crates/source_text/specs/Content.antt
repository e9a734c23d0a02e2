-- The content of a line: the part before its comment, which begins with `//`. Lines are those of std: a carriage return
-- before a newline is no part of its line, and the last newline may be missing.
use Rattle.std.specs.Prelude.{ℕ, ◌==◌, ◌&&◌, Bool, false, List, [], ◌∷◌, map, if◌then◌else◌}
use Rattle.std.specs.Str.Lines.{lines}

abbrev pub begins_comment : List ℕ → Bool
begins_comment (a ∷ b ∷ rest) = a == 47 && b == 47
begins_comment _ = false

abbrev pub without_comment : List ℕ → List ℕ
without_comment [] = []
without_comment (b ∷ rest) = if begins_comment (b ∷ rest) then [] else b ∷ without_comment rest

-- the contents of the lines of a text
abbrev pub contents : List ℕ → List (List ℕ)
contents text = map without_comment (lines text)
