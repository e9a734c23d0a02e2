-- A walk over lines gives the last state where no line is refused, else the first refusal.
use Rattle.std.proofs.Common.{◌≡◌, ℕ, ◌+◌, List, [], ◌∷◌, ◌++◌, length, refl, sym, ap, subst, ◌∙◌, arith, append_assoc, length-append, Ok, Err, append-nil}
use Rattle.source_text.specs.Prelude.{Step, go_on, walk, Leads, FirstRefused, StopsAt}

module _ {S E : Type 0} (step : Step S E) where
  pub leads_walk : (ls : List (List ℕ)) (k : ℕ) (s t : S) → Leads step k s ls t → walk step k s ls ≡ Ok t
  unfolding walk
  leads_walk [] k s t m = ap Ok m
  leads_walk (l ∷ ls) k s t (u, h, more) = ap (go_on (λ t. walk step (k + 1) t ls)) h ∙ leads_walk ls (k + 1) u t more

  walk_front : (front rest : List (List ℕ)) (k : ℕ) (s before : S) → Leads step k s front before → walk step k s (front ++ rest) ≡ walk step (k + length front) before rest
  unfolding walk
  walk_front [] rest k s before m = let z : k + 0 ≡ k = omega arith in rw (z, m) refl
  walk_front (l ∷ front) rest k s before (u, h, more) =
      let n : k + 1 + length front ≡ k + length (l ∷ front) = omega arith in
      ap (go_on (λ t. walk step (k + 1) t (front ++ rest))) h ∙ (walk_front front rest (k + 1) u before more ∙ ap (λ i. walk step i before rest) n)

  pub refused_walk : (ls : List (List ℕ)) (k : ℕ) (s : S) (e : E) → FirstRefused step k s ls e → walk step k s ls ≡ Err e
  unfolding walk
  refused_walk ls k s e (before, r) =
      ap (walk step k s) r.split ∙ (walk_front r.front (r.line ∷ r.others) k s before r.leads ∙ ap (go_on (λ t. walk step (k + length r.front + 1) t r.others)) r.refused)

-- ---- a loop over the lines

module _ {S E : Type 0} (step : Step S E) where
  leads_more : (front : List (List ℕ)) (k : ℕ) (s t u : S) (l : List ℕ) → Leads step k s front t → step (k + length front) t l ≡ Ok u → Leads step k s (front ++ l ∷ []) u
  leads_more [] k s t u l m h = let z : k + 0 ≡ k = omega arith in (u, rw (m, ← z) h, refl)
  leads_more (x ∷ front) k s t u l (v, e, more) h =
      let z : k + length (x ∷ front) ≡ k + 1 + length front = omega arith in
      (v, e, leads_more front (k + 1) v t u l more (rw (← z) h))

  -- the lines before the rest are this many, and lead to the state
  pub record AreBefore (s : S) (all rest : List (List ℕ)) (number : ℕ) (t : S) : Type 0 where
    pub front : List (List ℕ)
    pub split : all ≡ front ++ rest
    pub count : number ≡ length front
    pub leads : Leads step 1 s front t

  pub before_none : (s : S) (all : List (List ℕ)) → AreBefore s all all 0 s
  before_none s all = record { front = []; split = refl; count = refl; leads = refl }

  pub before_more : (s t u : S) (all rest after : List (List ℕ)) (number : ℕ) (l : List ℕ) → rest ≡ l ∷ after → step (number + 1) t l ≡ Ok u → AreBefore s all rest number t → AreBefore s all after (number + 1) u
  before_more s t u all rest after number l e h b =
      let n : 1 + length b.front ≡ number + 1 = omega (arith, b.count) in
      record {
        front = b.front ++ l ∷ [];
        split = b.split ∙ (ap (λ r. b.front ++ r) e ∙ sym (append_assoc b.front (l ∷ []) after));
        count = simp length-append (omega (arith, b.count));
        leads = leads_more b.front 1 s t u l b.leads (rw n h);
      }

  pub before_all : (s t : S) (all rest : List (List ℕ)) (number : ℕ) → rest ≡ [] → AreBefore s all rest number t → Leads step 1 s all t
  before_all s t all rest number e b = subst (λ ls. Leads step 1 s ls t) (sym (b.split ∙ (ap (λ r. b.front ++ r) e ∙ append-nil b.front))) b.leads

  pub before_stop : (s t : S) (all rest after : List (List ℕ)) (number : ℕ) (l : List ℕ) (x : E) → rest ≡ l ∷ after → step (number + 1) t l ≡ Err x → AreBefore s all rest number t → StopsAt step 1 s all x t
  before_stop s t all rest after number l x e h b =
      let n : 1 + length b.front ≡ number + 1 = omega (arith, b.count) in
      record { front = b.front; line = l; others = after; split = b.split ∙ ap (λ r. b.front ++ r) e; leads = b.leads; refused = rw n h }
