-- Rows of the table stay as they are while more is written after them.
use Rattle.std.proofs.Common.{◌≡◌, ◌∙◌, ℕ, ◌+◌, ◌≤◌, ◌∷◌, ◌++◌, ◌⊎◌, [], List, ◌<◌, length, take, drop, set, Some, sum_by, arith, ap, sym, subst, zero-add}
use Rattle.std.proofs.Math.ListN.{length-set}
use Rattle.std.proofs.lemmas.List.{take-take, take_more_set, length-append}
use Rattle.std.proofs.lemmas.List.Elements.{All-push, All-weaker}
use Rattle.std.proofs.lemmas.List.Sums.{sum_by-append}
use Rattle.std.proofs.lemmas.Slice.{between_is}
use Rattle.mic_base.specs.Files.{Contents, file_in}
use Rattle.mic_web.specs.Given.{stretch}
use Rattle.mic_web.specs.Written.{AreFiles, AreRows, AreTooMany, IsRow, IsRowOf, file_size}
use Rattle.mic_web.specs.declared.given.Span.{Span}
use Rattle.mic_web.specs.declared.given.FileSpans.{FileSpans}

-- a stretch lies in what stays
pub stretch_kept : (old new : List ℕ) (end : ℕ) (span : Span) → span.end ≤ end → take end new ≡ take end old → stretch new span ≡ stretch old span
stretch_kept old new end span within same =
    between_is new span.start span.end ∙ ap (drop span.start) (sym (take-take span.end end new within) ∙ ap (take span.end) same ∙ take-take span.end end old within)
    ∙ sym (between_is old span.start span.end)

pub row_kept : (files : Contents) (old new : List ℕ) (end more : ℕ) → end ≤ more → take end new ≡ take end old →
    (row : FileSpans) → IsRow files old end row → IsRow files new more row
row_kept files old new end more later same row r = record {
  name = omega (arith, r.name);
  contents = omega (arith, r.contents);
  file = ap (file_in files) (stretch_kept old new end row.name r.name same) ∙ r.file ∙ ap Some (sym (stretch_kept old new end row.contents r.contents same));
}

-- a row after those before it
pub rows_more : (files : Contents) (old new named bytes : List ℕ) (end : ℕ) (rows : List FileSpans) (row : FileSpans) →
    AreRows files old end rows → IsRowOf old new end named bytes row → file_in files named ≡ Some bytes →
    AreRows files new row.contents.end (rows ++ row ∷ [])
rows_more files old new named bytes end rows row are is found =
    let later : end ≤ row.contents.end = omega (arith, is.end) in
    All-push (IsRow files new row.contents.end) rows row
    (All-weaker (IsRow files old end) (IsRow files new row.contents.end) (row_kept files old new end row.contents.end later is.before) rows are)
    (record { name = is.name_end; contents = omega arith; file = ap (file_in files) is.name ∙ found ∙ ap Some (sym is.contents) })

-- one file more
pub files_more : (files : Contents) (number bytes : ℕ) (file : List ℕ × List ℕ) → AreFiles files number bytes → file_in files file.0 ≡ Some file.1 →
    AreFiles files (number + 1) (bytes + file_size file)
files_more files number bytes file are found = record {
  files = are.files ++ file ∷ [];
  are = All-push (λ f. file_in files f.0 ≡ Some f.1) are.files file are.are found;
  count = length-append are.files (file ∷ []) ∙ ap (λ n. n + 1) are.count;
  size = sum_by-append file_size are.files (file ∷ []) ∙ ap (λ n. n + sum_by file_size (file ∷ [])) are.size ∙ ap (λ n. bytes + n) (zero-add (file_size file));
}

-- the files so far: their rows in the table's front, and their bytes up to the end
pub record IsLaid (files : Contents) (written : List ℕ) (table : List FileSpans) (count end : ℕ) : Type 0 where
  pub in_table : count ≤ length table
  pub in_bytes : end ≤ length written
  pub rows : AreRows files written end (take count table)
  pub are : AreFiles files count end

pub laid_more : (files : Contents) (old new named bytes : List ℕ) (table : List FileSpans) (count end : ℕ) (row : FileSpans) →
    IsLaid files old table count end → count < length table → IsRowOf old new end named bytes row → file_in files named ≡ Some bytes →
    IsLaid files new (set table count row) (count + 1) row.contents.end
laid_more files old new named bytes table count end row laid below is found =
    let Rows : List FileSpans → Type 0 = AreRows files new row.contents.end in
    let Size : ℕ → Type 0 = AreFiles files (count + 1) in
    record {
      in_table = simp length-set (omega arith);
      in_bytes = is.inside;
      rows = subst Rows (sym (take_more_set table count row below)) (rows_more files old new named bytes end (take count table) row laid.rows is found);
      are = subst Size (sym is.end) (files_more files count end (named, bytes) laid.are found);
    }

-- one file more than there are rows, or than there is room for
pub too_many : (files : Contents) (named bytes : List ℕ) (count end rows room : ℕ) → AreFiles files count end → file_in files named ≡ Some bytes →
    (rows < count + 1) ⊎ (room < end + (length named + length bytes)) → AreTooMany files rows room
too_many files named bytes count end rows room are found many =
    record { count = count + 1; size = end + file_size (named, bytes); files = files_more files count end (named, bytes) are found; many = many }
