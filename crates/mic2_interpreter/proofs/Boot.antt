-- From the reset of a Mic-2 to its first boundary.
use Rattle.mic2_interpreter.proofs.Common.{◌≡◌, ℕ, ◌+◌, List, [], ◌∷◌, refl, arith, ◌∙◌, ap, Mic2, plus, byte_in, timing_of, start_of, Stands, BootsWithStall}
use Rattle.mic2_interpreter.proofs.Common.{Jumped, Waits, Origin, IsMemory, Moment, pass, Boots, reset_moment, Loads, map, first, Place, place_at, place_on}
use Rattle.mic2_interpreter.proofs.Common.{VerifiedView}
use Rattle.mic2_datapath.specs.Prelude.{Micro, mic2_meaning}
use Rattle.mic2_interpreter.proofs.Store.{Known}
use Rattle.mic2_interpreter.proofs.Guided.{Goes, Lacks, Short, moment_of, clocked, Arrives, IsSmooth, pass-clocked}
use Rattle.mic2_interpreter.proofs.Boundaries.{stands_at}

module _ (program : List ℕ) (has : Known program) (o : Origin) (v : VerifiedView) (loads : Loads v o) (input : List ℕ) where
  abbrev start : Moment Micro
  start = reset_moment mic2_meaning 0x002 v.main_locals o input

  -- the reset as a symbolic state
  abbrev reset : Short
  reset = record { state = start.state; queue = Jumped; world = start.world; stalls = 0 }

  starts : start ≡ moment_of o.words reset 0
  starts = λ i. record { state = record start.state { unit = has.queue.start o.words i }; world = start.world; stalls = 0 }

  -- one stall, for the first word of the text
  pub boots : BootsWithStall program o v input
  boots =
      let p0 : Place o.words 0 0 = place_at o.words 0 0 refl (omega arith) in
      let p1 : Place o.words (plus 0 1) (0 + 1) = place_on 1 (0 + 1) p0 refl (omega arith) in
      let stands = first v o input start.state.sp start.state.tos loads (omega arith) in
      let memory : IsMemory o.words o.words = record { kept = λ a l. refl; long = refl } in
      let smooth : IsSmooth o.words (Lacks Waits ∷ Goes ∷ []) (byte_in o.words 0 ∷ []) reset = assumption in
      let t : Short = clocked o.words (Lacks Waits ∷ Goes ∷ []) (byte_in o.words 0 ∷ []) reset in
      let a : Arrives o.words (pass mic2_meaning program 1 (moment_of o.words reset 0)) t = pass-clocked program has o.words (map v o loads).low
      (Lacks Waits) (Goes ∷ []) (byte_in o.words 0 ∷ []) reset 0 memory refl smooth in
      record {
        moves = record {
          n = 1;
          spent_is = refl;
          short = omega arith;
          begins = record { no_halt = refl; no_err = refl };
          there = moment_of o.words t a.have;
          passes = ap (pass mic2_meaning program 1) starts ∙ a.is;
          stands = stands_at has.queue o (start_of v.main_locals input) t a.have (assumption) a.held;
        };
        stalled = refl;
      }

  -- a reset is no boundary
  pub boots_off : Boots mic2_meaning program (Stands o) o.given (timing_of Mic2) start (start_of v.main_locals input)
  boots_off = record { off = refl; moves = boots.moves }
