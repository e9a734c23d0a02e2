-- What holds of a checked store holds of equal words and an equal entry.
use Rattle.mic1_checker.proofs.Common.{◌≡◌, ℕ, List, Option, subst, Result, BoardView, VerifiedView, Mic1, RunsAsDefined, IsCutWhereReadFails}
use Rattle.mic1_checker.proofs.Common.{IsCutWhereWriteFails, Costs, checked_with}

pub along : (P : List ℕ → ℕ → Type 0) {words words' : List ℕ} {entry entry' : ℕ} → words ≡ words' → entry ≡ entry' → P words entry → P words' entry'
along P {words} {words'} {entry} {entry'} e f h = subst (λ (n : ℕ). P words' n) f (subst (λ (ws : List ℕ). P ws entry) e h)

module _ {words words' : List ℕ} {entry entry' : ℕ} (e : words ≡ words') (f : entry ≡ entry') (costs : Costs) {A B E : Type 0} (v : VerifiedView)
    (bound : ℕ) (left : A → Option (List ℕ)) (held : B → Option (List ℕ)) (source source' : A) (sink sink' : B) (result : Result (BoardView Mic1) E) where
  pub runs_along : RunsAsDefined (checked_with words entry costs) v bound left held source sink source' sink' result →
      RunsAsDefined (checked_with words' entry' costs) v bound left held source sink source' sink' result
  runs_along h = along (λ ws n. RunsAsDefined (checked_with ws n costs) v bound left held source sink source' sink' result) e f h

  pub reads_along : IsCutWhereReadFails (checked_with words entry costs) v bound left held source sink source' sink' result →
      IsCutWhereReadFails (checked_with words' entry' costs) v bound left held source sink source' sink' result
  reads_along h = along (λ ws n. IsCutWhereReadFails (checked_with ws n costs) v bound left held source sink source' sink' result) e f h

  pub writes_along : IsCutWhereWriteFails (checked_with words entry costs) v bound left held source sink source' sink' result →
      IsCutWhereWriteFails (checked_with words' entry' costs) v bound left held source sink source' sink' result
  writes_along h = along (λ ws n. IsCutWhereWriteFails (checked_with ws n costs) v bound left held source sink source' sink' result) e f h
