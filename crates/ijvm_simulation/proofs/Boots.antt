-- From the reset of a machine to its first boundary.
use Rattle.ijvm_simulation.proofs.Common.{◌≡◌, ℕ, ◌<◌, Some, false, List, refl, arith, nat_tests, World, Meaning, MicroRun, turns, reset_run}
use Rattle.ijvm_meaning.specs.Prelude.{State, start_of, TimedImage, first_point}
use Rattle.ijvm_simulation.specs.Prelude.{Origin, ShowsState, Boots, reset_moment}
use Rattle.ijvm_simulation.proofs.Turns.{IsReady, inside_pass}
use Rattle.ijvm_simulation.proofs.Instruction.{Arrives, arrives}

module _ {S : Type 0} (m : Meaning S) (words : List ℕ) (IsAt : State → S → World → Type 0) (p : TimedImage) (entry main_locals : ℕ) (o : Origin) (input : List ℕ)
    (b : Boots m words IsAt o.given p.timing (reset_moment m entry main_locals o input) (start_of main_locals input))
    (shows : (s : State) (x : S) (w : World) → IsAt s x w → ShowsState m words IsAt o.given s x w) (bound : ℕ) where
  abbrev pub start : MicroRun S
  start = reset_run m entry main_locals (record { words = o.words; untaken = input; given = o.given })

  pub ready : IsReady m bound start
  ready =
      let off : m.is_boundary start.state ≡ false = b.off in
      record { no_bound = grind (arith, nat_tests); no_halt = b.moves.begins.no_halt; no_err = b.moves.begins.no_err; not_ended = refl }

  pub booted : Arrives m words IsAt o.given shows bound start (first_point p main_locals input) p.timing.boot b.moves.there.stalls
  booted = arrives m words IsAt o.given shows bound start (first_point p main_locals input) b.moves ready (omega (arith, b.moves.short)) (omega arith) refl

  pub quiet : (n : ℕ) → 0 < n → n < p.timing.boot → m.is_boundary (turns m words (Some bound) n start).state ≡ false
  quiet n pos l =
      inside_pass m words bound b.moves.n start b.moves.there ready (omega (arith, b.moves.short)) b.moves.passes n pos (omega (arith, b.moves.spent_is))
