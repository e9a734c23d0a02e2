use Rattle.micro_terms.proofs.Common.{◌≡◌, ℕ, ◌+◌, ◌*◌, ◌<◌, List, [], ◌∷◌, length, ◌∙◌, arith, slice_index_or, wrap, weight, Part}
use Rattle.micro_terms.proofs.Modular.{wrap_once}
use Rattle.micro_terms.proofs.term.single_of.Goals as goal

alone : (env : ℕ → ℕ) (k : ℕ) (ps : List Part) (d : Part) → k ≡ 0 → length ps ≡ 1 → (slice_index_or ps 0 d).coefficient ≡ 1
    → env (slice_index_or ps 0 d).number < 4294967296 → wrap (k + weight env ps) ≡ env (slice_index_or ps 0 d).number
alone env k [] d z n one h = absurd (omega (arith, n))
alone env k (p ∷ []) d z n one h = (λ i. wrap (z i + (0 + one i * env p.number))) ∙ wrap_once (env p.number) h
alone env k (p ∷ q ∷ ps) d z n one h = absurd (omega (arith, n))

pub returns-then-part-eq1 : goal.returns-then-part-eq1
returns-then-part-eq1 c env h =
    let zero : c.args.constant ≡ 0 = omega (arith, c.if-constant-ne0.false) in
    let single : length c.args.parts.now ≡ 1 = omega (arith, c.if-parts-ne1.false) in
    alone env c.args.constant c.args.parts.now (record { coefficient = 0; number = 0 }) zero single c.if-part-eq1.true h
