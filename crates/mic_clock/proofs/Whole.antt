-- What the parts of a cycle come to: what its edge is handed, and that this edge is one of the same word and state, with the
-- result that the cycle returns.
use Rattle.mic_clock.proofs.Common.{◌≡◌, ℕ, List, Option, Result, Ok, Err, slice_index, ap, sym, subst, ◌∙◌, BusView, BusFault, Machine, Lines, Computed, Drive}
use Rattle.std.specs.Prelude.{⊤, IsErrAnd}
use Rattle.mic_clock.specs.Prelude.{IsAtEdge, IsDecoded, IsEdgeOver, Meaning, edge_passed, word_at}

module _ {State : Type 0} (m : Meaning State) (s : State) where
  pub word_there : (words : List ℕ) (word mpc : ℕ) → word ≡ slice_index words mpc → mpc ≡ (m.registers s).mpc → word ≡ word_at m words s
  word_there words word mpc is at = is ∙ ap (slice_index words) at

  module _ (word : ℕ) (lines : Lines) (its_machine : Machine) (same : its_machine ≡ m.machine) (decoded : IsDecoded its_machine word lines) where
    pub decoded_there : IsDecoded m.machine word lines
    decoded_there = subst (λ (k : Machine). IsDecoded k word lines) same decoded

    module _ (s' : State) (stays : s' ≡ s) (d : Drive) (drove : d ≡ m.drives word s) where
      pub drove_there : d ≡ m.drives word s'
      drove_there = drove ∙ sym (ap (m.drives word) stays)

      pub at_edge : (v : Computed) → v ≡ m.computes word s' → IsAtEdge m word lines s' d v
      at_edge v computes = record { decoded = decoded_there; drives = drove_there; computes = computes }

module _ {State S K : Type 0} (m : Meaning State) (left : S → Option (List ℕ)) (held : K → Option (List ℕ)) (word word' : ℕ) (s s' : State)
    (same : word' ≡ word) (stays : s' ≡ s) (bus : BusView) (source : S) (sink : K) (t : State) (bus' : BusView) (source' : S) (sink' : K) where
  over_for : (r : Result ⊤ BusFault) → IsEdgeOver m left held word' s' bus source sink t bus' source' sink' r →
      IsEdgeOver m left held word s bus source sink t bus' source' sink' r
  over_for r over =
      subst (λ (w : ℕ). IsEdgeOver m left held w s bus source sink t bus' source' sink' r) same
      (subst (λ (x : State). IsEdgeOver m left held word' x bus source sink t bus' source' sink' r) stays over)

  pub over_told : {T : Type 0} (told : T) → IsEdgeOver m left held {T = ⊤} word' s' bus source sink t bus' source' sink' (Ok tt) →
      IsEdgeOver m left held {T = T} word s bus source sink t bus' source' sink' (Ok told)
  over_told told over =
      let o = over_for (Ok tt) over in
      let edge = o.edge in
      record {
        edge = record {
          ok = edge.ok;
          others = edge.others;
          refusal = λ w e shows refused. absurd (let is = edge.refusal w e shows refused in cc);
          err = tt;
          state = tt;
          stands = tt;
        };
        waits = o.waits;
      }

  pub over_failed : {T : Type 0} (e : BusFault) (r : Result T BusFault) → IsErrAnd r (λ f. f ≡ e) →
      IsEdgeOver m left held {T = ⊤} word' s' bus source sink t bus' source' sink' (Err e) →
      IsEdgeOver m left held {T = T} word s bus source sink t bus' source' sink' r
  over_failed {T} e r hands over =
      let o = over_for (Err e) over in
      record { edge = edge_passed m word s (left source) (held sink) bus t (left source') (held sink') bus' e r hands o.edge; waits = o.waits }
