-- The fetch unit of Mic-2 (chapter 4): a queue of instruction bytes in front of memory. When it samples a word is this profile's.
use Rattle.std.specs.Prelude.{◌≡◌, ℕ, ◌/◌, ◌%◌, ◌<◌, ◌≤◌, Bool, true, nat_le, if◌then◌else◌, List, [], ◌∷◌, ◌++◌, length, drop, slice_index, Option, Some, None, Result, is_some}
use Rattle.std.specs.Option.{option_map}
use Rattle.mic_words.specs.Prelude.{next}
use Rattle.console_port.specs.Prelude.{IsDoneUnless, Refusal, byte_of, word_refusal}
use Rattle.console_port.specs.declared.fault.BusFault.{BusFault}

pub record Prefetch : Type 0 where
  -- the queue, the front byte first
  pub bytes : List ℕ
  -- the word address of the pending word, or of the next one where none is pending
  pub imar : ℕ
  -- how many bytes of the pending word do not reach the queue
  pub skip : ℕ
  -- the word that was sampled, which the next edge appends
  pub pending : Option ℕ

-- a word's bytes, the most significant first
abbrev pub bytes_of_word : ℕ → List ℕ
bytes_of_word word = byte_of word 0 ∷ byte_of word 1 ∷ byte_of word 2 ∷ byte_of word 3 ∷ []

-- an edge by its three parts: t bytes leave the front,

abbrev pub without : ℕ → Prefetch → Prefetch
without t u = record u { bytes = drop t u.bytes }

-- a pending word is appended without the bytes that are skipped,

abbrev pub appended : List ℕ → ℕ → ℕ → Option ℕ → Prefetch
appended bytes imar skip None = record { bytes = bytes; imar = imar; skip = skip; pending = None }
appended bytes imar skip (Some word) = record { bytes = bytes ++ drop skip (bytes_of_word word); imar = next imar; skip = 0; pending = None }

abbrev pub with_pending : Prefetch → Prefetch
with_pending u = appended u.bytes u.imar u.skip u.pending

-- and where the queue has at most two bytes then, the word at IMAR is sampled.

abbrev pub is_short : Prefetch → Bool
is_short u = nat_le (length u.bytes) 2

abbrev pub sampled_by : Prefetch → Option ℕ
sampled_by u = if is_short u then Some u.imar else None

-- the word address that an edge samples, if it samples one
abbrev pub sampled_at : ℕ → Prefetch → Option ℕ
sampled_at t u = sampled_by (with_pending (without t u))

-- an edge that takes t bytes, over these memory words
unfoldable pub edge : List ℕ → ℕ → Prefetch → Prefetch
edge words t u = record (with_pending (without t u)) { pending = option_map (λ at. slice_index words at) (sampled_at t u) }

-- A jump to a byte address drops what the queue has, and samples the word there.
unfoldable pub jump : List ℕ → ℕ → Prefetch
jump words pc = record { bytes = []; imar = pc / 4; skip = pc % 4; pending = Some (slice_index words (pc / 4)) }

-- why the unit may not sample, if it samples
abbrev pub sample_refusal : ℕ → Option ℕ → Option Refusal
sample_refusal stack_end None = None
sample_refusal stack_end (Some at) = word_refusal stack_end at

-- why an edge is refused
unfoldable pub edge_refusal : ℕ → ℕ → Prefetch → Option Refusal
edge_refusal stack_end t u = sample_refusal stack_end (sampled_at t u)

-- why a jump is refused
abbrev pub jump_refusal : ℕ → ℕ → Option Refusal
jump_refusal stack_end pc = word_refusal stack_end (pc / 4)

-- the unit has an edge that takes t bytes, unless it is refused
abbrev pub HasEdge : {T : Type 0} → List ℕ → ℕ → Prefetch → Prefetch → Result T BusFault → Type 0
HasEdge words t u u' result = IsDoneUnless (edge_refusal (length words) t u) u (edge words t u) u' result

-- the unit jumps to a byte address, unless that is refused
abbrev pub Jumps : {T : Type 0} → List ℕ → ℕ → Prefetch → Prefetch → Result T BusFault → Type 0
Jumps words pc u u' result = IsDoneUnless (jump_refusal (length words) pc) u (jump words pc) u' result

-- a unit after a reset, over a memory whose first word is `first`
abbrev pub at_start : ℕ → Prefetch
at_start first = record { bytes = []; imar = 0; skip = 0; pending = Some first }

-- what holds of every unit
pub record IsUnit (u : Prefetch) : Type 0 where
  pub few : length u.bytes ≤ 6
  pub skip : u.skip < 4
  -- only in front of an empty queue, a pending word is skipped in part
  pub skips : 0 < u.skip → (length u.bytes ≡ 0) × (is_some u.pending ≡ true)
  -- a word is pending exactly where the queue has at most two bytes
  pub asks : is_some u.pending ≡ is_short u
