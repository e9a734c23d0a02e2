-- Parts that are written alike.
use Rattle.micro_terms.proofs.Common.{◌≡◌, ◌&&◌, eqb, ap, ◌∙◌, Decides, Decides-and, Decides-eqb, Decides-like, Part}

one : (a b : Part) → (a.coefficient ≡ b.coefficient) × (a.number ≡ b.number) → a ≡ b
one a b h =
    let e : a.coefficient ≡ b.coefficient = h.0 in
    let f : a.number ≡ b.number = h.1 in
    let first : a ≡ record { coefficient = b.coefficient; number = a.number } = ap (λ n. record { coefficient = n; number = a.number }) e in
    first ∙ ap (λ n. record { coefficient = b.coefficient; number = n }) f

pub part_decides : (a b : Part) → Decides (eqb a.coefficient b.coefficient && eqb a.number b.number) (a ≡ b)
part_decides a b =
    Decides-like _ (one a b) (λ e. (ap (λ p. p.coefficient) e, ap (λ p. p.number) e))
    (Decides-and _ _ (Decides-eqb a.coefficient b.coefficient) (Decides-eqb a.number b.number))
