-- The lines that are printed of a file, as bytes.
use Rattle.std.specs.Prelude.{ℕ, List, [], ◌∷◌, ◌++◌, codes}
use Rattle.std.specs.Fmt.{decimal}

-- The line that says why a file is refused. The reason begins with its colon, or with the line of the file that it is about.
abbrev pub message : List ℕ → List ℕ → List ℕ
message file reason = codes "mic: " ++ file ++ reason ++ 10 ∷ []

-- a reason that is about the whole file
abbrev pub of_file : List ℕ → List ℕ
of_file text = codes ": " ++ text

-- a reason that is about one line of the file
abbrev pub of_line : ℕ → List ℕ → List ℕ
of_line line text = codes ":" ++ decimal line ++ codes ": " ++ text

abbrev pub out_of_memory : List ℕ
out_of_memory = codes "mic: out of memory\n"

abbrev pub cannot_read : List ℕ
cannot_read = of_file (codes "cannot read")

abbrev pub cannot_write : List ℕ
cannot_write = of_file (codes "cannot write")

abbrev pub too_many_bytes : List ℕ
too_many_bytes = of_file (codes "longer than 1048576 bytes")
