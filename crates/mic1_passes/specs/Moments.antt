-- The moment that a path stands for, and where a pass stops.
use Rattle.std.specs.Prelude.{◌≡◌, ℕ, true, List, Some}
use Rattle.mic_clock.specs.Meaning.{Refused}
use Rattle.mic1_datapath.specs.Micro.{Micro}
use Rattle.mic1_datapath.specs.Mic1.{mic1_meaning}
use Rattle.ijvm_simulation.specs.Passes.{Moment, pass, is_inside, outcome_at}
use Rattle.micro_terms.specs.Environment.{Environment}
use Rattle.mic1_cycles.specs.Symbols.{micro_of}
use Rattle.mic1_cycles.specs.Trail.{world_of}
use Rattle.mic1_cycles.specs.declared.path.Path.{Path}
use Rattle.mic1_cycles.specs.declared.refusal.Stop.{Stop}
use Rattle.mic1_cycles.specs.Paths.{trail_of, refusal_of}

abbrev pub moment : Environment → ℕ → ℕ → Path → Moment Micro
moment e stalls entry p = record { state = micro_of e.word entry true p.symbols; world = world_of e.word e.start (trail_of p); stalls = stalls }

-- n + 1 cycles lead from the first path inside an instruction to the second, where the next cycle is refused
pub record StopsAt (e : Environment) (words : List ℕ) (stalls entry n : ℕ) (why : Stop) (old new : Path) : Type 0 where
  pub passes : pass mic1_meaning words n (moment e stalls entry old) ≡ Some (moment e stalls entry new)
  pub inside : is_inside mic1_meaning (moment e stalls entry new).state ≡ true
  pub at : ℕ
  pub refused : outcome_at mic1_meaning words (moment e stalls entry new) ≡ Refused (refusal_of why at)
