-- The files that a call has written, as a page finds them: names and contents in one list of bytes, and a table of where they lie.
use Rattle.std.specs.Prelude.{◌≡◌, ℕ, ◌+◌, ◌<◌, ◌≤◌, ◌⊎◌, List, length, take, All, Some, sum_by}
use Rattle.mic_base.specs.Files.{Contents, file_in}
use Rattle.mic_web.specs.declared.given.Span.{Span}
use Rattle.mic_web.specs.declared.given.FileSpans.{FileSpans}
use Rattle.mic_web.specs.Given.{stretch}

-- a row of the table: a file's name and its contents lie within the first bytes, this many
pub record IsRow (files : Contents) (written : List ℕ) (end : ℕ) (row : FileSpans) : Type 0 where
  pub name : row.name.end ≤ end
  pub contents : row.contents.end ≤ end
  pub file : file_in files (stretch written row.name) ≡ Some (stretch written row.contents)

abbrev pub AreRows : Contents → List ℕ → ℕ → List FileSpans → Type 0
AreRows files written end rows = All (IsRow files written end) rows

-- the bytes of a file's name and contents
abbrev pub file_size : List ℕ × List ℕ → ℕ
file_size file = length file.0 + length file.1

-- files, this many, whose names and contents have this many bytes
pub record AreFiles (contents : Contents) (number bytes : ℕ) : Type 0 where
  pub files : List (List ℕ × List ℕ)
  pub are : All (λ file. file_in contents file.0 ≡ Some file.1) files
  pub count : length files ≡ number
  pub size : sum_by file_size files ≡ bytes

-- files are more than there are rows, or longer than there is room
pub record AreTooMany (contents : Contents) (rows room : ℕ) : Type 0 where
  pub count : ℕ
  pub size : ℕ
  pub files : AreFiles contents count size
  pub many : (rows < count) ⊎ (room < size)

-- the bytes lie from the start on, and all before it is as it was
pub record IsPut (old new : List ℕ) (from : ℕ) (bytes : List ℕ) (span : Span) : Type 0 where
  pub start : span.start ≡ from
  pub end : span.end ≡ from + length bytes
  pub inside : span.end ≤ length new
  pub is : stretch new span ≡ bytes
  pub before : take from new ≡ take from old

-- a file lies from the start on, and all before it is as it was
pub record IsRowOf (old new : List ℕ) (from : ℕ) (named bytes : List ℕ) (row : FileSpans) : Type 0 where
  pub name_end : row.name.end ≤ row.contents.end
  pub end : row.contents.end ≡ from + (length named + length bytes)
  pub inside : row.contents.end ≤ length new
  pub name : stretch new row.name ≡ named
  pub contents : stretch new row.contents ≡ bytes
  pub before : take from new ≡ take from old
