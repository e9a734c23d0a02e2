-- What an access reaches, and what a read has under way after the writes of a path.
use Rattle.std.specs.Prelude.{◌≡◌, ◌≢◌, ◌⊎◌, ◌≤◌, ◌<◌, ◌+◌, drop, slice_index, slice_set, ℕ, List, length}
use Rattle.mic1_cycles.specs.Common.{signed_byte, byte_in, console_at, next_byte, Environment}
use Rattle.mic1_cycles.specs.declared.symbols.Byte.{Byte}
use Rattle.mic1_cycles.specs.declared.symbols.Write.{Write}
use Rattle.mic1_cycles.specs.declared.site.Site.{Site}
use Rattle.mic1_cycles.specs.declared.site.Site.TheVariants as sites
use Rattle.mic1_cycles.specs.Trail.{written_by}

-- past memory, and not at the console
pub record IsNowhere (e : Environment) (at : ℕ) : Type 0 where
  pub past : length e.start.words ≤ e.word at
  pub no_console : e.word at ≢ console_at

abbrev pub IsSite : Environment → ℕ → Site → Type 0
IsSite e at sites.Memory = e.word at < length e.start.words
IsSite e at sites.Console = e.word at ≡ console_at
IsSite e at sites.Nowhere = IsNowhere e at
IsSite e at (sites.Asks answer) = Unit {0}

-- after this write one number has the word at this address, if another number had it before
abbrev pub IsAfterWrite : Environment → Write → ℕ → ℕ → ℕ → Type 0
IsAfterWrite e w at before after =
    (words : List ℕ) → e.word at < length words → e.word before ≡ slice_index words (e.word at) →
    e.word after ≡ slice_index (slice_set words (e.word w.at) (e.word w.value)) (e.word at)

-- the byte is the one at this byte address of these words
pub record IsByteIn (e : Environment) (words : List ℕ) (at : ℕ) (b : Byte) : Type 0 where
  pub plain : e.word b.plain ≡ byte_in words (e.word at)
  pub signed : e.word b.signed ≡ signed_byte (e.word b.plain)

-- a read of memory, which takes no byte
pub record ReadsMemory (e : Environment) (at : ℕ) (writes : List Write) (taken word taken' : ℕ) : Type 0 where
  pub inside : e.word at < length e.start.words
  pub value : e.word word ≡ slice_index (written_by e.word writes e.start.words) (e.word at)
  pub count : taken' ≡ taken

-- a read of the console, which takes a byte
pub record TakesByte (e : Environment) (at taken word taken' : ℕ) : Type 0 where
  pub there : e.word at ≡ console_at
  pub value : e.word word ≡ next_byte (drop taken e.start.untaken)
  pub count : taken' ≡ taken + 1

abbrev pub Reads : Environment → ℕ → List Write → ℕ → ℕ → ℕ → Type 0
Reads e at writes taken word taken' = ReadsMemory e at writes taken word taken' ⊎ TakesByte e at taken word taken'
