-- Lemmas on a clock edge that fails, and on what a call returns for it.
use Rattle.std.proofs.Common.{◌≡◌, ℕ, List, Option, Result, Ok, Err, sym, subst}
use Rattle.std.specs.Prelude.{IsErrAnd}
use Rattle.mic_clock.specs.Common.{BusView, BusFault}
use Rattle.mic_clock.specs.Edge.{IsEdge}
use Rattle.mic_clock.specs.Meaning.{Meaning}

-- the fault that a call passes on
pub handed_on : {T : Type 0} (r : Result T BusFault) (e : BusFault) → IsErrAnd r (λ f. f ≡ e) → Err e ≡ r
handed_on (Ok told) e h = absurd h
handed_on (Err f) e h = λ i. Err (sym h i)

module _ {State : Type 0} (m : Meaning State) (word : ℕ) (s : State) (left held : Option (List ℕ)) (bus : BusView) where
  -- an edge that fails, with the result that a call returns for it
  pub edge_passed : {T U : Type 0} (s' : State) (left' held' : Option (List ℕ)) (bus' : BusView) (e : BusFault) (r : Result U BusFault) →
      IsErrAnd r (λ f. f ≡ e) → IsEdge m word s left held bus {T = T} s' left' held' bus' (Err e) → IsEdge m word s left held bus {T = U} s' left' held' bus' r
  edge_passed {T} {U} s' left' held' bus' e r hands edge =
      subst (λ (x : Result U BusFault). IsEdge m word s left held bus {T = U} s' left' held' bus' x) (handed_on r e hands)
      (record {
        ok = tt;
        others = tt;
        refusal = λ w f shows refused. let same = edge.refusal w f shows refused in cc;
        err = edge.err;
        state = edge.state;
        stands = edge.stands;
      })
