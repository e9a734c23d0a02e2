-- What a page gives for a call: one list of bytes, and the stretches of it that are words, names and contents.
use Rattle.std.specs.Prelude.{ℕ, ◌≤◌, List, length, slice_range, All, IsUtf8}
use Rattle.mic_web.specs.declared.given.Span.{Span}
use Rattle.mic_web.specs.declared.given.FileSpans.{FileSpans}

-- the bytes of a stretch
abbrev pub stretch : List ℕ → Span → List ℕ
stretch given span = slice_range given span.start span.end

-- a file's name and contents
abbrev pub file_given : List ℕ → FileSpans → List ℕ × List ℕ
file_given given file = (stretch given file.name, stretch given file.contents)

-- the stretch lies within the bytes
pub record IsWithin (given : List ℕ) (span : Span) : Type 0 where
  pub forward : span.start ≤ span.end
  pub inside : span.end ≤ length given

-- a text lies there
pub record IsTextAt (given : List ℕ) (span : Span) : Type 0 where
  pub within : IsWithin given span
  pub text : IsUtf8 (stretch given span)

-- a file lies there, whose name is a text
pub record IsFileAt (given : List ℕ) (file : FileSpans) : Type 0 where
  pub name : IsTextAt given file.name
  pub contents : IsWithin given file.contents

-- what is given is a call
pub record IsCallGiven (given : List ℕ) (spans : List Span) (rows : List FileSpans) : Type 0 where
  pub words : All (IsTextAt given) spans
  pub files : All (IsFileAt given) rows
