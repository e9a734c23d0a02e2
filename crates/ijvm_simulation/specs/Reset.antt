-- A board at its reset, with a verified image loaded.
use Rattle.std.specs.Prelude.{◌≡◌, ℕ, ◌+◌, ◌-◌, List, [], replicate, Option, None, false}
use Rattle.console_port.specs.Prelude.{World, Shows, HasTextWords, IsLoaded}
use Rattle.mic_clock.specs.Prelude.{Meaning, BoardView, MicroRun, start_run, start_buses, start_counts, ShowsRun}
use Rattle.ijvm_image.specs.Prelude.{IsImage}
use Rattle.verifier_facts.specs.Prelude.{VerifiedView, IsAccepted}

-- the clocked run at its reset: MPC at the entry, and SP before the first operand of main, which has this many locals
abbrev pub reset_run : {S : Type 0} → Meaning S → ℕ → ℕ → World → MicroRun S
reset_run m entry main_locals w = start_run m entry (0x8000 + main_locals - 1) w

-- The image is in memory, and nothing was given, taken or counted yet.
pub record IsAtReset {M State : Type 0} (state : M → State) (m : Meaning State) (entry : ℕ) (program : VerifiedView) (board : BoardView M) : Type 0 where
  pub shows : (left held : Option (List ℕ)) (w : World) → Shows left held board.bus w →
      ShowsRun state left held board (reset_run m entry program.main_locals w)
  pub accepted : IsAccepted program
  pub image : IsImage program.image
  pub loaded : IsLoaded program.image.text program.image.pool (replicate program.map.stack_end 0) board.bus.words
  pub text : HasTextWords program.image.text board.bus.words
  pub kept : board.bus.console.kept ≡ []
  pub ended : board.bus.console.ended ≡ false
  pub counts : board.counts ≡ start_counts
  pub buses : board.buses ≡ start_buses
  pub end : board.end ≡ None
