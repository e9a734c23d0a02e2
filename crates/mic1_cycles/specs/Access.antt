-- The accesses of a cycle of symbols: a write or a read, and then a fetch.
use Rattle.std.specs.Prelude.{◌≡◌, ◌<◌, ◌≤◌, ◌/◌, ◌+◌, ◌++◌, ℕ, Bool, true, false, [], ◌∷◌, Option, Some, None, length, slice_index, drop}
use Rattle.mic1_cycles.specs.Common.{World, byte_in, next_byte, console_at, Mem, written, sampled, word_under_way, byte_under_way, memory_refusal, byte_refusal}
use Rattle.mic1_cycles.specs.Common.{Ports, signed_byte}
use Rattle.micro_word.specs.declared.statement.Mem.TheVariants as mems
use Rattle.mic1_cycles.specs.declared.symbols.Byte.{Byte}
use Rattle.mic1_cycles.specs.Symbols.{word_in, byte_in as byte_symbol, IsSignedIn}
use Rattle.mic1_cycles.specs.Trail.{Trail, world_of, written_by}
use Rattle.mic1_cycles.specs.Cycle.{IsAccessed}

module _ (word : ℕ → ℕ) (start : World) where
  -- a write or a read leads the first trail to the second
  pub record IsTransferred (mem : Mem) (p : Ports) (t : Trail) (read : Option ℕ) (t' : Trail) : Type 0 where
    pub clear : memory_refusal (length start.words) mem p.mar ≡ None
    pub its_word : word_under_way (length start.words) mem p (written (length start.words) mem p (world_of word start t)) ≡ word_in word read
    pub after : sampled (length start.words) mem p (written (length start.words) mem p (world_of word start t)) ≡ world_of word start t'
    pub words : (written (length start.words) mem p (world_of word start t)).words ≡ (world_of word start t').words

  pub record IsFetched (fetch : Bool) (p : Ports) (t : Trail) (byte : Option Byte) : Type 0 where
    pub clear : byte_refusal (length start.words) fetch p.pc ≡ None
    pub its_byte : byte_under_way fetch p (world_of word start t) ≡ byte_symbol word byte
    pub signed : IsSignedIn word byte

  pub record AccessLaws : Type 0 where
    pub joined : (mem : Mem) (fetch : Bool) (p : Ports) (t t' : Trail) (read : Option ℕ) (byte : Option Byte) →
        IsTransferred mem p t read t' → IsFetched fetch p t' byte → IsAccessed word start mem fetch p t read byte t'
    pub nothing : (p : Ports) (t : Trail) → IsTransferred mems.None p t None t
    pub reads : (p : Ports) (t : Trail) (read : ℕ) → p.mar < length start.words →
        word read ≡ slice_index (written_by word t.writes start.words) p.mar → IsTransferred mems.Read p t (Some read) t
    pub writes : (p : Ports) (t : Trail) (at value : ℕ) → p.mar ≡ word at → p.mdr ≡ word value → p.mar < length start.words →
        IsTransferred mems.Write p t None (record t { writes = t.writes ++ record { at = at; value = value } ∷ [] })
    pub takes : (p : Ports) (t : Trail) (read : ℕ) → p.mar ≡ console_at → length start.words ≤ p.mar →
        word read ≡ next_byte (drop t.taken start.untaken) → IsTransferred mems.Read p t (Some read) (record t { taken = t.taken + 1 })
    pub gives : (p : Ports) (t : Trail) (value : ℕ) → p.mar ≡ console_at → p.mdr ≡ word value → length start.words ≤ p.mar →
        IsTransferred mems.Write p t None (record t { given = t.given ++ value ∷ [] })
    pub no_fetch : (p : Ports) (t : Trail) → IsFetched false p t None
    pub fetches : (p : Ports) (t : Trail) (byte : Byte) → p.pc / 4 < length start.words →
        word byte.plain ≡ byte_in (written_by word t.writes start.words) p.pc → word byte.signed ≡ signed_byte (word byte.plain) →
        IsFetched true p t (Some byte)

-- Where accesses lead, by the place that they reach.
abbrev pub AccessLaw : Type 0
AccessLaw = (word : ℕ → ℕ) (start : World) → AccessLaws word start
