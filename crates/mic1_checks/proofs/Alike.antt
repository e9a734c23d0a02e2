-- The comparison of two writes decides whether they are one.
use Rattle.mic1_checks.proofs.Common.{◌≡◌, ◌&&◌, eqb, ap, ◌∙◌, Decides, Decides-and, Decides-eqb, Decides-like, Write}

one : (a b : Write) → (a.at ≡ b.at) × (a.value ≡ b.value) → a ≡ b
one a b h =
    let e : a.at ≡ b.at = h.0 in
    let f : a.value ≡ b.value = h.1 in
    let first : a ≡ record { at = b.at; value = a.value } = ap (λ n. record { at = n; value = a.value }) e in
    first ∙ ap (λ n. record { at = b.at; value = n }) f

pub write_decides : (a b : Write) → Decides (eqb a.at b.at && eqb a.value b.value) (a ≡ b)
write_decides a b =
    Decides-like _ (one a b) (λ e. (ap (λ p. p.at) e, ap (λ p. p.value) e))
    (Decides-and _ _ (Decides-eqb a.at b.at) (Decides-eqb a.value b.value))
