-- What files contain, where it is known, and what a read and a write of one of them do.
use Rattle.std.specs.Prelude.{◌≡◌, ◌≢◌, ℕ, ◌<◌, ◌≤◌, List, length, Option, Some, None, IfSome, IsSomeAnd, MatchOption, Result, Err, IfOk, OnOk, IsErrOf, Vec}
use Rattle.std.specs.FinMap.{find}
use Rattle.std.specs.Ordering.{nat_cmp}
use Rattle.std.specs.Cmp.Lexicographic.{slice_cmp}
use Rattle.std.specs.declared.alloc.Global.{Global}
use Rattle.mic_base.specs.declared.files.FileError.{FileError}
use Rattle.mic_base.specs.declared.files.FileError.TheVariants.{Failed, TooLong}
use Rattle.mic_base.specs.Causes.{Rose}

-- names with the bytes of their files
abbrev pub Contents : Type 0
Contents = List (List ℕ × List ℕ)

-- the bytes of the file of this name, or none where there is no such file
abbrev pub file_in : Contents → List ℕ → Option (List ℕ)
file_in contents name = find (slice_cmp nat_cmp) name contents

-- the most bytes of a file that is read
abbrev pub most_bytes : ℕ
most_bytes = 1_048_576

-- the file of this name has these bytes, where the contents are known
abbrev pub Tells : Option Contents → List ℕ → List ℕ → Type 0
Tells told name bytes = IfSome told (λ contents. file_in contents name ≡ Some bytes)

-- every file is as it was
abbrev pub KeepsAll : Contents → Contents → Type 0
KeepsAll old new = (name : List ℕ) → file_in new name ≡ file_in old name

-- every file but the one of this name is as it was
abbrev pub KeepsOthers : Contents → List ℕ → Contents → Type 0
KeepsOthers old name new = (other : List ℕ) → other ≢ name → file_in new other ≡ file_in old other

-- the file's bytes were read, unless they are too many
pub record Reads (told : Option Contents) (name : List ℕ) (result : Result (Vec ℕ Global) FileError) : Type 0 where
  pub whole : IfOk result (λ bytes. Tells told name bytes.items)
  pub short : IfOk result (λ bytes. length bytes.items ≤ most_bytes)
  pub long : IsErrOf result TooLong → IfSome told (λ contents. IsSomeAnd (file_in contents name) (λ bytes. most_bytes < length bytes))

-- the file's bytes were written, unless that failed, and no other file was changed
pub record Writes (old new : Option Contents) (name bytes : List ℕ) (result : Result Unit FileError) : Type 0 where
  pub written : OnOk result (Tells new name bytes)
  pub others : MatchOption old (new ≡ None) (λ before. IsSomeAnd new (KeepsOthers before name))
  pub never_long : result ≢ Err TooLong

-- there is a Failed only where the count rose, and every other result leaves the count
pub record HasFileCause {T : Type 0} (before now : ℕ) (result : Result T FileError) : Type 0 where
  pub later : before ≤ now
  pub failed : IsErrOf result Failed → Rose before now
  pub quiet : result ≢ Err Failed → now ≡ before
