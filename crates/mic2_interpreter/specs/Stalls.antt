-- What an instruction takes of Mic-2 with its stalls: after the boot only a call stalls.
use Rattle.std.specs.Prelude.{ℕ, ◌%◌, ◌==◌, if◌then◌else◌, List}
use Rattle.mic_words.specs.declared.machine.Machine.TheVariants.{Mic2}
use Rattle.ijvm_image.specs.Prelude.{ImageView}
use Rattle.ijvm_instr.specs.declared.instr.Instr.{Instr}
use Rattle.ijvm_instr.specs.declared.instr.Instr.TheVariants.{Invokevirtual}
use Rattle.ijvm_meaning.specs.Prelude.{State, timing_of, entry_of}
use Rattle.verifier_facts.specs.Prelude.{VerifiedView}
use Rattle.mic2_datapath.specs.Prelude.{Micro, mic2_meaning}
use Rattle.ijvm_simulation.specs.Prelude.{Origin, Moment, Loads}
use Rattle.ijvm_simulation.specs.Stalls as simulation
use Rattle.mal_shipped.specs.Prelude.{HasShipped}
use Rattle.mic2_interpreter.specs.Stands.{Stands}

-- The stalls of an instruction: one of a call, or two where the method's entry is the last byte of a word.
abbrev pub stalls_of : ImageView → Instr → ℕ
stalls_of image (Invokevirtual k) = if entry_of image.pool (Invokevirtual k) % 4 == 3 then 2 else 1
stalls_of image i = 0

-- `program` has the words of a control store, and a run is over this origin.
module _ (program : List ℕ) (o : Origin) where
  abbrev pub MovesWithStalls : Moment Micro → ℕ → ℕ → State → Type 0
  MovesWithStalls = simulation.MovesWithStalls mic2_meaning program (Stands o) o.given

  abbrev pub OverrunsWithStalls : Moment Micro → ℕ → State → Type 0
  OverrunsWithStalls = simulation.OverrunsWithStalls mic2_meaning program (Stands o) o.given

  abbrev pub TakesWithStalls : VerifiedView → (Instr → Type 0) → Type 0
  TakesWithStalls v Has = simulation.TakesWithStalls mic2_meaning program (Stands o) o.given (timing_of Mic2) stalls_of v o Has

  -- with one stall
  abbrev pub BootsWithStall : VerifiedView → List ℕ → Type 0
  BootsWithStall v input = simulation.BootsWithStalls mic2_meaning program Stands 0x002 (timing_of Mic2) 1 v o input

-- Over the store that ships and every verified image that stands in the memory:

-- what the instructions of a group take, with the stalls of each
abbrev pub GroupStalls : (Instr → Type 0) → Type 0
GroupStalls Has = (store : List ℕ) (o : Origin) (v : VerifiedView) → HasShipped Mic2 store → Loads v o → TakesWithStalls store o v Has

-- a reset comes to the first boundary with one stall
abbrev pub BootStallsOnce : Type 0
BootStallsOnce =
    (store : List ℕ) (o : Origin) (v : VerifiedView) (input : List ℕ) → HasShipped Mic2 store → Loads v o → BootsWithStall store o v input
