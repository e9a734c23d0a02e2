-- What a call from a page finds, and what the page is told of it.
use Rattle.std.specs.Prelude.{◌≡◌, ℕ, ◌<◌, ◌≤◌, List, [], ◌∷◌, ◌++◌, length, map, take, Some, None, IsSomeAnd}
use Rattle.mic_base.specs.Files.{Contents, file_in, KeepsOthers}
use Rattle.cli_words.specs.Words.{request_of}
use Rattle.cli_outside.specs.Outside.{OutsideView, source_state, sink_state}
use Rattle.cli_call.specs.CallEnds.{CallEnds}
use Rattle.cli_call.specs.Answers.{IsAnswer}
use Rattle.cli_check.specs.CheckEnds.{CheckEnds}
use Rattle.cli_check.specs.Words.{asked_in}
use Rattle.mic_web.specs.Given.{stretch, file_given}
use Rattle.mic_web.specs.Written.{AreRows, AreTooMany}
use Rattle.mic_web.specs.declared.given.Span.{Span}
use Rattle.mic_web.specs.declared.given.FileSpans.{FileSpans}
use Rattle.mic_web.specs.declared.told.Told.{Told}

-- the files of these names and contents, each put over those before it, and no others
pub data Filled : List (List ℕ × List ℕ) → Contents → Type 0 where
  Empty : (contents : Contents) → ((name : List ℕ) → file_in contents name ≡ None) → Filled [] contents
  Added : (files : List (List ℕ × List ℕ)) (file : List ℕ × List ℕ) (old new : Contents) → Filled files old →
      file_in new file.0 ≡ Some file.1 → KeepsOthers old file.0 new → Filled (files ++ file ∷ []) new

-- the outside as the call finds it: the files and the console input that are given, and nothing printed
pub record IsGiven (given : List ℕ) (rows : List FileSpans) (input : List ℕ) (old : OutsideView) : Type 0 where
  pub files : IsSomeAnd old.files.contents (Filled (map (file_given given) rows))
  pub faults : old.files.faults ≡ 0
  pub console : old.console ≡ source_state (Some input) 0
  pub out : old.out ≡ sink_state (Some []) (Some []) 0
  pub err : old.err ≡ sink_state (Some []) (Some []) 0

-- the words and the outside are those that are given
pub record IsReady (given : List ℕ) (spans : List Span) (rows : List FileSpans) (input : List ℕ) (asked : List (List ℕ)) (old : OutsideView) : Type 0 where
  pub words : asked ≡ map (stretch given) spans
  pub outside : IsGiven given rows input old

-- the call of `mic` with these words over that outside ends as it is defined to
pub record IsMicCall (words : List (List ℕ)) (old new : OutsideView) (code : ℕ) : Type 0 where
  pub ends : CallEnds (request_of words) old new code
  pub answer : IsAnswer (request_of words) old new code

-- the same of `mic-check`
abbrev pub IsCheckCall : List (List ℕ) → OutsideView → OutsideView → ℕ → Type 0
IsCheckCall words = CheckEnds (asked_in words)

-- What the page is told of the outside as the call left it, and of the status: lengths, what was printed in the fronts of
-- `out` and `err`, and files that were written, by the front of the table.
pub record IsTold (told : Told) (printed messages written : List ℕ) (table : List FileSpans) (new : OutsideView) (code : ℕ) : Type 0 where
  pub status : told.status ≡ code
  pub out : new.out.held ≡ Some (take told.out printed)
  pub err : new.err.held ≡ Some (take told.err messages)
  pub left : IsSomeAnd new.console.left (λ left. length left ≡ told.left)
  pub count : told.files ≤ length table
  pub files : IsSomeAnd new.files.contents (λ contents. AreRows contents written (length written) (take told.files table))

-- what came of the call does not fit: what was printed, or files
pub data DoesNotFit (out err written : List ℕ) (table : List FileSpans) (new : OutsideView) : Type 0 where
  Out : IsSomeAnd new.out.held (λ held. length out < length held) → DoesNotFit out err written table new
  Err : IsSomeAnd new.err.held (λ held. length err < length held) → DoesNotFit out err written table new
  Files : IsSomeAnd new.files.contents (λ contents. AreTooMany contents (length table) (length written)) → DoesNotFit out err written table new

-- A program: how a call of it ends, by its words, the outside before and after it, and its status.
module _ (Ends : List (List ℕ) → OutsideView → OutsideView → ℕ → Type 0) where
  -- the call was made, and the page is told what came of it
  abbrev pub IsMade : List (List ℕ) → OutsideView → Told → List ℕ → List ℕ → List ℕ → List FileSpans → Type 0
  IsMade words old told out err written table =
      (new : OutsideView) × (Ends words old new told.status × IsTold told out err written table new told.status)

  -- the call was made, and what came of it does not fit
  abbrev pub IsUnfitAfter : List (List ℕ) → OutsideView → List ℕ → List ℕ → List ℕ → List FileSpans → Type 0
  IsUnfitAfter words old out err written table =
      (new : OutsideView) × ((code : ℕ) × (Ends words old new code × DoesNotFit out err written table new))

  -- a call was made of what is given, and the page is told what came of it
  abbrev pub IsCalled : List ℕ → List Span → List FileSpans → List ℕ → Told → List ℕ → List ℕ → List ℕ → List FileSpans → Type 0
  IsCalled given spans rows input told out err written table =
      (old : OutsideView) × (IsGiven given rows input old × IsMade (map (stretch given) spans) old told out err written table)

  -- a call was made of what is given, and what came of it does not fit
  abbrev pub IsUnfit : List ℕ → List Span → List FileSpans → List ℕ → List ℕ → List ℕ → List ℕ → List FileSpans → Type 0
  IsUnfit given spans rows input out err written table =
      (old : OutsideView) × (IsGiven given rows input old × IsUnfitAfter (map (stretch given) spans) old out err written table)

-- nothing was written to the page's slices
pub record IsUntouched (old_out old_err old_written : List ℕ) (old_table : List FileSpans) (new_out new_err new_written : List ℕ)
    (new_table : List FileSpans) : Type 0 where
  pub out : new_out ≡ old_out
  pub err : new_err ≡ old_err
  pub written : new_written ≡ old_written
  pub table : new_table ≡ old_table
