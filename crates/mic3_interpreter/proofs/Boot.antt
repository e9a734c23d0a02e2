-- From the reset of a Mic-3 to its first boundary.
use Rattle.mic3_interpreter.proofs.Common.{◌≡◌, ℕ, ◌+◌, List, [], ◌∷◌, refl, arith, ◌∙◌, ap, plus, byte_in, mic3_meaning, Pipeline, mic3_timing, Stands}
use Rattle.mic3_interpreter.proofs.Common.{start_of, Jumped, WaitsFirst, map, first, VerifiedView}
use Rattle.mic3_interpreter.proofs.Store.{Known}
use Rattle.mic3_interpreter.proofs.Guided.{Issues, HeldUp, Lacks, Short, moment_of, clocked, Arrives, IsSmooth, pass-clocked}
use Rattle.mic3_interpreter.proofs.Boundaries.{stands_at}
use Rattle.ijvm_simulation.specs.Prelude.{Origin, IsMemory, Moment, pass, Boots, reset_moment, Loads}
use Rattle.ijvm_simulation.specs.Places.{Place, place_at, place_on}

module _ (program : List ℕ) (has : Known program) (o : Origin) (v : VerifiedView) (loads : Loads v o) (input : List ℕ) where
  abbrev start : Moment Pipeline
  start = reset_moment mic3_meaning 0x002 v.main_locals o input

  -- the reset as a symbolic state
  abbrev reset : Short
  reset = record { state = start.state; queue = Jumped; world = start.world; stalls = 0 }

  starts : start ≡ moment_of o.words reset 0
  starts = λ i. record {
    state = record start.state { micro = record start.state.micro { unit = has.queue.start o.words i } };
    world =
        start.world;
    stalls = 0;
  }

  -- three cycles issue nothing: one lacks the first word of the text, and two wait until the first dispatch retires
  pub boots : Boots mic3_meaning program (Stands o) o.given mic3_timing start (start_of v.main_locals input)
  boots =
      let p0 : Place o.words 0 0 = place_at o.words 0 0 refl (omega arith) in
      let p1 : Place o.words (plus 0 1) (0 + 1) = place_on 1 (0 + 1) p0 refl (omega arith) in
      let stands = first v o input start.state.micro.sp start.state.micro.tos loads (omega arith) in
      let memory : IsMemory o.words o.words = record { kept = λ a l. refl; long = refl } in
      let smooth : IsSmooth o.words (Lacks WaitsFirst ∷ Issues ∷ HeldUp ∷ HeldUp ∷ []) (byte_in o.words 0 ∷ []) reset = assumption in
      let t : Short = clocked o.words (Lacks WaitsFirst ∷ Issues ∷ HeldUp ∷ HeldUp ∷ []) (byte_in o.words 0 ∷ []) reset in
      let a : Arrives o.words (pass mic3_meaning program 3 (moment_of o.words reset 0)) t =
      pass-clocked program has o.words (map v o loads).low (Lacks WaitsFirst) (Issues ∷ HeldUp ∷ HeldUp ∷ [])
      (byte_in o.words 0 ∷ []) reset 0 memory refl smooth in
      record {
        off = refl;
        moves = record {
          n = 3;
          spent_is = refl;
          short = omega arith;
          begins = record { no_halt = refl; no_err = refl };
          there = moment_of o.words t a.have;
          passes = ap (pass mic3_meaning program 3) starts ∙ a.is;
          stands = stands_at has.queue o (start_of v.main_locals input) t a.have (assumption) a.held;
        };
      }
