-- States of the one run, one after the other.
use Rattle.cli_rewind.proofs.Common.{◌≡◌, ◌+◌, ◌-◌, ◌++◌, ℕ, zero, suc, List, [], ◌∷◌, drop, length, refl, sym, ap, ◌∙◌, arith, Meaning, MicroRun, Snapshot}
use Rattle.cli_rewind.proofs.Common.{state_at, states_from}

-- the last of some states, at most this many
abbrev pub latest : ℕ → List Snapshot → List Snapshot
latest depth ss = drop (length ss - depth) ss

abbrev first_or : Snapshot → List Snapshot → Snapshot
first_or s [] = s
first_or s (t ∷ ts) = t

abbrev rest_of : List Snapshot → List Snapshot
rest_of [] = []
rest_of (t ∷ ts) = ts

module _ {State : Type 0} (m : Meaning State) (words : List ℕ) (start : MicroRun State) where
  abbrev from : ℕ → ℕ → List Snapshot
  from = states_from m words start

  pub same_states : (a b x y : ℕ) → a ≡ b → x ≡ y → from a x ≡ from b y
  same_states a b x y e f = λ i. from (e i) (f i)

  states_length : (at n : ℕ) → length (from at n) ≡ n
  states_length at zero = refl
  states_length at (suc n) = ap suc (states_length (suc at) n)

  -- one more state at the end
  pub states_more : (at n : ℕ) → from at n ++ state_at m words start (at + n) ∷ [] ≡ from at (suc n)
  states_more at zero = let e : at + zero ≡ at = omega arith in ap (λ (j : ℕ). state_at m words start j ∷ []) e
  states_more at (suc n) =
      let e : at + suc n ≡ suc at + n = omega arith in
      ap (λ (l : List Snapshot). state_at m words start at ∷ l)
      (ap (λ (j : ℕ). from (suc at) n ++ state_at m words start j ∷ []) e ∙ states_more (suc at) n)

  states_drop : (k at n : ℕ) → drop k (from at n) ≡ from (at + k) (n - k)
  states_drop zero at n = same_states at (at + zero) n (n - zero) (omega arith) (omega arith)
  states_drop (suc k) at zero = let e : zero ≡ zero - suc k = omega arith in ap (λ (j : ℕ). from (at + suc k) j) e
  states_drop (suc k) at (suc n) =
      states_drop k (suc at) n ∙ same_states (suc at + k) (at + suc k) (n - k) (suc n - suc k) (omega arith) (omega arith)

  -- the first of some states
  pub states_split : (at n : ℕ) (h : Snapshot) (t : List Snapshot) → from at n ≡ h ∷ t →
      (k : ℕ) × (n ≡ suc k) × (h ≡ state_at m words start at) × (t ≡ from (suc at) k)
  states_split at zero h t e = absurd (cc)
  states_split at (suc k) h t e = (k, refl, sym (ap (first_or h) e), sym (ap rest_of e))

  -- the last of some states
  pub states_last : (at n : ℕ) (h : Snapshot) (t : List Snapshot) → from at n ≡ t ++ h ∷ [] →
      (k : ℕ) × (n ≡ suc k) × (h ≡ state_at m words start (at + k)) × (t ≡ from at k)
  states_last at zero h [] e = absurd (cc)
  states_last at zero h (x ∷ t) e = absurd (cc)
  states_last at (suc zero) h [] e =
      let j : at ≡ at + zero = omega arith in
      (zero, refl, sym (ap (first_or h) e) ∙ ap (λ (i : ℕ). state_at m words start i) j, refl)
  states_last at (suc (suc n)) h [] e = let e' : from (suc at) (suc n) ≡ [] = ap rest_of e in absurd (cc)
  states_last at (suc n) h (x ∷ t) e =
      let more = states_last (suc at) n h t (ap rest_of e) in
      let j : suc at + more.0 ≡ at + suc more.0 = omega arith in (
        suc more.0,
        ap suc more.1,
        more.2 ∙ ap (λ (i : ℕ). state_at m words start i) j,
        (λ i. sym (ap (first_or x) e) i ∷ more.3 i),
      )

  pub states_none : (at n : ℕ) → from at n ≡ [] → n ≡ zero
  states_none at zero e = refl
  states_none at (suc n) e = absurd (cc)

  -- the states that one more cycle leaves, of at most this many
  pub states_kept : (depth first k clocked : ℕ) → first ≡ clocked - depth → first + k ≡ clocked →
      latest depth (from first k ++ state_at m words start clocked ∷ []) ≡ from (suc clocked - depth) (suc clocked - (suc clocked - depth))
  states_kept depth first k clocked is at =
      ap (λ (j : ℕ). latest depth (from first k ++ state_at m words start j ∷ [])) (sym at)
      ∙ (ap (latest depth) (states_more first k)
      ∙ (ap (λ (j : ℕ). drop (j - depth) (from first (suc k))) (states_length first (suc k))
      ∙ (states_drop (suc k - depth) first (suc k)
      ∙ same_states (first + (suc k - depth)) (suc clocked - depth) (suc k - (suc k - depth)) (suc clocked - (suc clocked - depth))
      (omega (arith, is, at)) (omega (arith, is, at)))))
