-- A verified image that a machine runs: its memory when the run begins, and the states that its run comes to.
use Rattle.std.specs.Prelude.{◌≡◌, ℕ, ◌+◌, ◌<◌, [], length, slice_index}
use Rattle.ijvm_simulation.specs.Common.{byte_in, Instr, IsImage, State, IsWord, AreWords, start_of, Timing, TimedImage, ComesTo, Finds, VerifiedView}
use Rattle.ijvm_simulation.specs.Common.{IsAccepted}
use Rattle.ijvm_simulation.specs.Stands.{Origin}
use Rattle.ijvm_simulation.specs.Bytes.{Reads}

-- what a machine's run of it runs
abbrev pub program : Timing → VerifiedView → TimedImage
program timing v = record { image = v.image; stack_end = v.map.stack_end; timing = timing }

-- a verified image stands in the memory that a run begins over, each of whose words is below 2^32, and main's locals are 0
pub record Loads (v : VerifiedView) (o : Origin) : Type 0 where
  pub accepted : IsAccepted v
  pub image : IsImage v.image
  pub words : (at : ℕ) → IsWord (slice_index o.words at)
  pub bytes : (at : ℕ) → at < length v.image.text → byte_in o.words at ≡ slice_index v.image.text at
  pub pool : (k : ℕ) → k < length v.image.pool → slice_index o.words (0x4000 + k) ≡ slice_index v.image.pool k
  pub zeros : (k : ℕ) → k < v.main_locals → slice_index o.words (0x8000 + k) ≡ 0
  pub long : length o.words ≡ v.map.stack_end

-- a state that a run of a verified image may come to
pub record Fine (v : VerifiedView) (s : State) : Type 0 where
  pub reached : ComesTo v.image v.map.stack_end (start_of v.main_locals []) s
  pub words : AreWords s

-- an instruction comes next: its bytes stand in the memory, and it finds what it needs
pub record IsNext (v : VerifiedView) (o : Origin) (s : State) (i : Instr) : Type 0 where
  pub begins : s.at < length v.image.text
  pub finds : Finds v.image s i
  pub reads : Reads (byte_in o.words s.at) (byte_in o.words (s.at + 1)) (byte_in o.words (s.at + 2))
      (byte_in o.words (s.at + 3)) (byte_in o.words (s.at + 4)) (byte_in o.words (s.at + 5)) i
