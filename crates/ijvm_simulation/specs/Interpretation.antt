-- A machine as an interpreter of IJVM, with the store that ships for it.
use Rattle.std.specs.Prelude.{◌≡◌, ℕ, List}
use Rattle.ijvm_simulation.specs.Common.{World, Meaning, Timing}

-- a machine's meaning, when its next instruction is ready, the words of its store, where a run begins, and what is spent
pub record Interpretation (M S : Type 0) : Type 1 where
  pub state : M → S
  pub meaning : Meaning S
  pub IsReady : ℕ → List ℕ → ℕ → S → World → Type 0
  pub IsShipped : List ℕ → Type 0
  pub entry : ℕ
  pub timing : Timing

-- the interpretation of these parts
abbrev pub interpretation : {M S : Type 0} → (M → S) → Meaning S → (ℕ → List ℕ → ℕ → S → World → Type 0) → (List ℕ → Type 0) → ℕ → Timing → Interpretation M S
interpretation state m IsReady IsShipped entry timing =
    record { state = state; meaning = m; IsReady = IsReady; IsShipped = IsShipped; entry = entry; timing = timing }

-- How a run under some microprogram is read: what is seen of a machine's state where an instruction comes next, and what is spent.
pub record Reading (S T : Type 0) : Type 0 where
  pub seen : S → T
  pub timing : Timing

-- a machine with a store of just these words, where what is seen of its state says when the next instruction is ready
abbrev pub interpretation_with : {M S T : Type 0} → (M → S) → Meaning S → (ℕ → List ℕ → ℕ → T → World → Type 0) → List ℕ → ℕ → Reading S T → Interpretation M S
interpretation_with state m IsReady store entry reading =
    interpretation state m (λ main words at s w. IsReady main words at (reading.seen s) w) (λ words. words ≡ store) entry reading.timing
