-- What a refused file contains.
use Rattle.std.proofs.Common.{◌≡◌, ◌≢◌, ◌<◌, ℕ, List, Option, Some, None, length, arith, refl, Result, Err}
use Rattle.std.specs.Prelude.{IfSome, IsSomeAnd, replicate}
use Rattle.std.proofs.lemmas.List.{length-replicate}
use Rattle.mic_base.specs.Prelude.{Contents, Tells, file_in, most_bytes}
use Rattle.mic_base.specs.declared.files.FileError.{FileError}
use Rattle.mic_base.specs.declared.files.FileError.TheVariants as errors

in_file : (found : Option (List ℕ)) → IsSomeAnd found (λ bytes. most_bytes < length bytes) → (bytes : List ℕ) × (found ≡ Some bytes) × (most_bytes < length bytes)
in_file None h = absurd h
in_file (Some bytes) h = (bytes, refl, h)

list_of : (n : ℕ) → (bytes : List ℕ) × (length bytes ≡ n)
list_of n = (replicate n 0, length-replicate n 0)

-- the file has too many bytes, or may have
pub too_long : (told : Option Contents) (name : List ℕ) → IfSome told (λ contents. IsSomeAnd (file_in contents name) (λ bytes. most_bytes < length bytes)) →
    (bytes : List ℕ) × Tells told name bytes × (most_bytes < length bytes)
too_long None name h = let list : (bytes : List ℕ) × (length bytes ≡ 1048577) = list_of 1048577 in (list.0, tt, omega (arith, list.1))
too_long (Some contents) name h = in_file (file_in contents name) h

-- A call that returned another error did not fail.

pub long_is_no_failure : {T : Type 0} (result : Result T FileError) → result ≡ Err errors.TooLong → result ≢ Err errors.Failed
long_is_no_failure result is failed = cc
