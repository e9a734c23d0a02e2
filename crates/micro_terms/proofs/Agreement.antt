-- Environments that agree on the numbers of a sum.
use Rattle.micro_terms.proofs.Common.{◌≡◌, ℕ, ◌+◌, ◌*◌, ◌<◌, List, [], ◌∷◌, refl, sym, ap, ◌∙◌, All, All-head, All-tail, sum_by-cons, wrap, NamesSumBelow}
use Rattle.micro_terms.proofs.Common.{value, weight, Part, Term}
use Rattle.micro_terms.proofs.Weights.{part_weight}

-- two environments have the same words below n
abbrev pub Agree : ℕ → (ℕ → ℕ) → (ℕ → ℕ) → Type 0
Agree n env env' = (i : ℕ) → i < n → env i ≡ env' i

agree : (n : ℕ) (env env' : ℕ → ℕ) (ps : List Part) → All (λ p. p.number < n) ps → Agree n env env' → weight env ps ≡ weight env' ps
agree n env env' [] h same = refl
agree n env env' (p ∷ ps) h same =
    let P : Part → Type 0 = λ p. p.number < n in
    sum_by-cons (part_weight env) p ps
    ∙ (ap (λ x. p.coefficient * x + weight env ps) (same p.number (All-head P p ps h))
    ∙ (ap (λ w. part_weight env' p + w) (agree n env env' ps (All-tail P p ps h) same)
    ∙ sym (sum_by-cons (part_weight env') p ps)))

pub values_agree : (n : ℕ) (env env' : ℕ → ℕ) (t : Term) → NamesSumBelow n t → Agree n env env' → value env t ≡ value env' t
unfolding value
values_agree n env env' t h same = ap (λ w. wrap (t.constant + w)) (agree n env env' t.parts.items h same)
