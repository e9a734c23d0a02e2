-- One microstep of a pass.
use Rattle.mic1_passes.proofs.Common.{◌≡◌, ◌≢◌, ◌+◌, ◌==◌, ◌||◌, ℕ, suc, Bool, true, false, not, List, Option, Some, None, IsTrue, refl, sym, ap, ◌∙◌, arith}
use Rattle.mic1_passes.proofs.Common.{slice_index, Mic1, microword_of, is_valid, Placed, Micro, mic1_meaning, driven, StepsAsSpelled, Moment, pass, last}
use Rattle.mic1_passes.proofs.Common.{onward, outcome_at, stalls_at, is_inside, Environment, Path, LeadsOn, MeetsRefusal, refusal_of, Stop, StopsAt, moment}
use Rattle.mic_clock.specs.Meaning.{Done, Refused}

-- no stall on Mic-1
never_stalls : (words : List ℕ) (q : Moment Micro) → stalls_at mic1_meaning words q ≡ q.stalls
unfolding driven
never_stalls words q = let e : q.stalls + 0 ≡ q.stalls = omega arith in e

module _ (law : StepsAsSpelled) (words : List ℕ) (e : Environment) (stalls entry : ℕ) (p : Placed) (old new : Path) (valid : IsTrue (is_valid Mic1 p))
    (spelled : microword_of Mic1 p ≡ slice_index words old.symbols.mpc) (l : LeadsOn e p old new) where
  done : outcome_at mic1_meaning words (moment e stalls entry old) ≡ Done (moment e stalls entry new).state (moment e stalls entry new).world
  done =
      ap (λ (word : ℕ). mic1_meaning.step word (moment e stalls entry old).state (moment e stalls entry old).world) (sym spelled)
      ∙ (law p valid (moment e stalls entry old).state (moment e stalls entry old).world ∙ l.leads.step entry true)

  pub arrives : pass mic1_meaning words 0 (moment e stalls entry old) ≡ Some (moment e stalls entry new)
  arrives = λ i. last mic1_meaning words (never_stalls words (moment e stalls entry old) i) (done i)

  pub goes_on : (k : ℕ) → is_inside mic1_meaning (moment e stalls entry new).state ≡ true → pass mic1_meaning words (suc k) (moment e stalls entry old) ≡ pass mic1_meaning words k (moment e stalls entry new)
  goes_on k inside =
      (λ i. onward mic1_meaning words (pass mic1_meaning words k) (never_stalls words (moment e stalls entry old) i) (done i))
      ∙ ap (λ (b : Bool). elim b as (λ (x : Bool). Option (Moment Micro)) [ true ↦ pass mic1_meaning words k (moment e stalls entry new) | false ↦ None ]) inside

-- n + 1 cycles lead from the first path to the second, inside an instruction
pub record Came (e : Environment) (words : List ℕ) (stalls entry n : ℕ) (old new : Path) : Type 0 where
  pub passes : pass mic1_meaning words n (moment e stalls entry old) ≡ Some (moment e stalls entry new)
  pub inside : is_inside mic1_meaning (moment e stalls entry new).state ≡ true

-- where the next cycle is refused, it stops there
pub came_to_stop : StepsAsSpelled → (words : List ℕ) (e : Environment) (stalls entry n : ℕ) (p : Placed) (why : Stop) (first old new : Path) → IsTrue (is_valid Mic1 p) →
    microword_of Mic1 p ≡ slice_index words old.symbols.mpc → Came e words stalls entry n first old → MeetsRefusal e p why old → new ≡ old → StopsAt e words stalls entry n why first new
came_to_stop law words e stalls entry n p why first old new valid spelled came meets stays =
    let same : moment e stalls entry old ≡ moment e stalls entry new = ap (λ (q : Path). moment e stalls entry q) (sym stays) in
    let refused : outcome_at mic1_meaning words (moment e stalls entry old) ≡ Refused (refusal_of why meets.at) =
    ap (λ (word : ℕ). mic1_meaning.step word (moment e stalls entry old).state (moment e stalls entry old).world) (sym spelled)
    ∙ (law p valid (moment e stalls entry old).state (moment e stalls entry old).world ∙ meets.step entry true) in
    record {
      passes = came.passes ∙ ap (λ (q : Moment Micro). Some q) same;
      inside = ap (λ (q : Moment Micro). is_inside mic1_meaning q.state) (sym same) ∙ came.inside;
      at = meets.at;
      refused = ap (λ (q : Moment Micro). outcome_at mic1_meaning words q) (sym same) ∙ refused;
    }

pub is_within : (mpc entry : ℕ) → (mpc == entry) ≡ false → (mpc == 254) ≡ false → (mpc == 255) ≡ false → not ((mpc == entry) || (mpc == 254) || (mpc == 255)) ≡ true
is_within mpc entry a b c = rw a (rw b (rw c refl))

pub is_off : (a b : ℕ) → a ≢ b → (a == b) ≡ false
is_off a b h = grind (arith, h)
