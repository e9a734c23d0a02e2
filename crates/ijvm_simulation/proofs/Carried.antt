-- From the reset of a machine over a loaded image to its end: the machine's promises carry its whole run.
use Rattle.ijvm_simulation.proofs.Common.{◌≡◌, ℕ, zero, suc, ◌+◌, ◌≤◌, List, length, replicate, refl, arith, ◌∙◌, inr, slice_index, length-replicate, IsLoaded}
use Rattle.ijvm_simulation.proofs.Common.{World, Meaning, IsImage, VerifiedView, IsAccepted, reset_run}
use Rattle.ijvm_meaning.specs.Prelude.{start_of, Timing, first_point}
use Rattle.ijvm_simulation.specs.Prelude.{Origin, IsAt, program, Loads, Fine, Promises, Law, Boots, reset_moment, Simulates}
use Rattle.ijvm_simulation.proofs.Instruction.{Law as BoundaryLaw}
use Rattle.ijvm_simulation.proofs.Next.{Known, fine_start, keeps, boundary_law}
use Rattle.ijvm_simulation.proofs.Boots.{booted, quiet}
use Rattle.ijvm_simulation.proofs.Whole.{simulates}

zero_word : (n k : ℕ) → slice_index (replicate n 0) k ≡ 0
zero_word zero k = refl
zero_word (suc n) zero = refl
zero_word (suc n) (suc k) = zero_word n k

module _ (v : VerifiedView) (image : IsImage v.image) (accepted : IsAccepted v) (words : List ℕ) (loaded : IsLoaded v.image.text v.image.pool (replicate v.map.stack_end 0) words) (before : List ℕ) where
  abbrev pub origin : Origin
  origin = record { words = words; given = before }

  pub loads : Loads v origin
  loads =
      let text_fits : length v.image.text ≤ 65536 = image.limits.text_fits in
      let pool_fits : length v.image.pool ≤ 16384 = image.limits.pool_fits in
      record {
        accepted = accepted;
        image = image;
        words = loaded.words;
        bytes = λ b l. loaded.text_bytes b (omega arith);
        pool = loaded.pool_words;
        zeros = λ k l. loaded.others (0x8000 + k) (omega arith) (inr (omega arith)) ∙ zero_word v.map.stack_end (0x8000 + k);
        long = loaded.size ∙ length-replicate {A = ℕ} v.map.stack_end 0;
      }

  module _ {S : Type 0} (m : Meaning S) (IsReady : ℕ → List ℕ → ℕ → S → World → Type 0) (IsShipped : List ℕ → Type 0) (entry : ℕ) (timing : Timing) (promises : Promises m IsReady IsShipped entry timing) (known : Known) where
    pub simulated : (store : List ℕ) (has : IsShipped store) (bound : ℕ) (input : List ℕ) →
        Simulates m (IsAt m IsReady entry origin) store bound (program timing v) (first_point (program timing v) v.main_locals input) before
        (reset_run m entry v.main_locals (record { words = words; untaken = input; given = before }))
    simulated store has bound input =
        let law : Law m store (IsAt m IsReady entry origin) before timing v origin = promises.law store origin v has loads in
        let each : BoundaryLaw m store (IsAt m IsReady entry origin) before (program timing v) (Fine v) = boundary_law v origin loads known m store (IsAt m IsReady entry origin) timing law in
        let b : Boots m store (IsAt m IsReady entry origin) before timing (reset_moment m entry v.main_locals origin input) (start_of v.main_locals input) = promises.boots store origin v input has loads in
        simulates m store (IsAt m IsReady entry origin) before (program timing v) (Fine v) each (keeps v timing accepted image known) bound (first_point (program timing v) v.main_locals input)
        (reset_run m entry v.main_locals (record { words = words; untaken = input; given = before }))
        (booted m store (IsAt m IsReady entry origin) (program timing v) entry v.main_locals origin input b law.shows bound).is (fine_start v known input)
        (quiet m store (IsAt m IsReady entry origin) (program timing v) entry v.main_locals origin input b law.shows bound)
