-- The store file: the magic of the machine, then the 512 words, five bytes each with the most significant first.
use Rattle.std.specs.Prelude.{◌≡◌, ◌≢◌, ℕ, ◌+◌, ◌*◌, ◌/◌, ◌%◌, ◌^◌, ◌<◌, Bool, not, if◌then◌else◌, List, [], ◌∷◌, ◌++◌, Option, Some, None, Result, Err, length, slice_index, codes, nat_eq, IsTrue, ◌⊎◌}
use Rattle.std.specs.List.{flat_map, starts_with}
use Rattle.mic_words.specs.declared.machine.Machine.{Machine}
use Rattle.mic_words.specs.declared.machine.Machine.TheVariants.{Mic1, Mic2}
use Rattle.micro_word.specs.declared.statement.Placed.{Placed}
use Rattle.micro_word.specs.Prelude.{microword_of, is_canonical, is_valid, ControlStore, IsStore}
use Rattle.store_placement.specs.declared.store_error.StoreError.{StoreError}
use Rattle.store_placement.specs.declared.store_error.StoreError.TheVariants as errors
use Rattle.store_placement.specs.First.{Never, IsFirst}

abbrev pub magic : Machine → List ℕ
magic Mic1 = codes "MIC1"
magic Mic2 = codes "MIC2"

abbrev pub word_bytes : ℕ → List ℕ
word_bytes word = word / 2 ^ 32 % 256 ∷ word / 2 ^ 24 % 256 ∷ word / 2 ^ 16 % 256 ∷ word / 2 ^ 8 % 256 ∷ word % 256 ∷ []

unfoldable pub store_file : ControlStore → List ℕ
store_file s = magic s.machine ++ flat_map word_bytes s.words

-- this holds of each control store whose file has these bytes
abbrev pub IfFileOf : List ℕ → (ControlStore → Type 0) → Type 0
IfFileOf bytes Holds = (s : ControlStore) → IsStore s → bytes ≡ store_file s → Holds s

-- the machine whose magic a file begins with
unfoldable pub machine_of : List ℕ → Option Machine
machine_of bytes =
    if starts_with nat_eq bytes (magic Mic1) then Some Mic1 else
    if starts_with nat_eq bytes (magic Mic2) then Some Mic2 else None

-- the number of five bytes
abbrev pub number_at : List ℕ → ℕ → ℕ
number_at bytes k =
    slice_index bytes k * 2 ^ 32 + slice_index bytes (k + 1) * 2 ^ 24 + slice_index bytes (k + 2) * 2 ^ 16
    + slice_index bytes (k + 3) * 2 ^ 8 + slice_index bytes (k + 4)

-- the word that a file has for an address
unfoldable pub word_at : List ℕ → ℕ → ℕ
word_at bytes address = number_at bytes (4 + 5 * address)

-- the word is not canonical
abbrev pub is_bad : Machine → List ℕ → ℕ → Bool
is_bad machine bytes address = not (is_canonical machine (word_at bytes address))

-- the word is canonical, and decodes to the statement
abbrev pub DecodesCanonical : Machine → ℕ → Placed → Type 0
DecodesCanonical machine word p = IsTrue (is_canonical machine word) × IsTrue (is_valid machine p) × (microword_of machine p ≡ word)

-- each refusal, where no earlier one holds
abbrev pub RefusesFile : List ℕ → StoreError → Type 0
RefusesFile bytes errors.BadMagic = machine_of bytes ≡ None
RefusesFile bytes (errors.BadLength n) = (machine : Machine) × (machine_of bytes ≡ Some machine) × (n ≡ length bytes) × (n ≢ 2564)
RefusesFile bytes (errors.BadWord address) =
    (machine : Machine) × (machine_of bytes ≡ Some machine) × (length bytes ≡ 2564) × IsFirst (is_bad machine bytes) 512 address
RefusesFile bytes errors.OutOfMemory = ⊥

abbrev pub IsShortage : StoreError → Type 0
IsShortage e = e ≡ errors.OutOfMemory

-- the error is returned, unless memory runs out
abbrev pub IsErrUnlessShort : {T : Type 0} → Result T StoreError → StoreError → Type 0
IsErrUnlessShort result e = (result ≡ Err e) ⊎ (result ≡ Err errors.OutOfMemory)

-- up to the address the words are those of the file, and canonical
pub record IsReadFrom (bytes : List ℕ) (machine : Machine) (upto : ℕ) (s : ControlStore) : Type 0 where
  pub machine_is : s.machine ≡ machine
  pub full : length s.words ≡ 512
  pub words : (address : ℕ) → address < upto → slice_index s.words address ≡ word_at bytes address
  pub good : Never (is_bad machine bytes) upto
