use Rattle.micro_terms.proofs.Common.{◌≡◌, ℕ, ◌+◌, ◌<◌, length, List, ◌∙◌, ap, sym, refl, get_or, arith, rules, get_or_read, wrap, value, weight, Part}
use Rattle.micro_terms.proofs.Modular.{is_wrap, grown}
use Rattle.micro_terms.proofs.Weights.{part_weight, after_set, after_remove, after_insert}
use Rattle.micro_terms.proofs.term.Term.add_part.Goals as goal
use Rattle.micro_terms.proofs.term.Term.add_part.Goals.{then-coefficient-eq0, else-coefficient-eq0}

pub returns-then-index-part-clause-ok : goal.returns-then-index-part-clause-ok
unfolding value
returns-then-index-part-clause-ok c env =
    let t = c.args.self.now in
    let ps : List Part = t.parts.items in
    let i : ℕ = c.place_of-place.result in
    let none : Part = record { coefficient = 0; number = 0 } in
    let within : i < length ps = omega (arith, t.parts.ok.0) in
    let first : c.index.result.now ≡ get_or ps i none = get_or_read ps _ _ within c.index.ensures none in
    let second : c.index-then-index-part.result.now ≡ get_or ps i none = get_or_read ps _ _ within c.index-then-index-part.ensures none in
    let same : (get_or ps i none).number ≡ c.args.part.number = ap (λ p. p.number) (sym first) ∙ c.if-index-part.true in
    elim c.if-coefficient-eq0.branch [
      | then-coefficient-eq0 w ↦
          let gone : wrap ((get_or ps i none).coefficient + c.args.part.coefficient) ≡ 0 =
          ap (λ p. wrap (p.coefficient + c.args.part.coefficient)) (sym second) ∙ (sym (is_wrap _) ∙ w.if-coefficient-eq0.true) in
          ap (value env) w.self-is
          ∙ (ap (λ qs. wrap (t.constant + weight env qs)) w.remove.ensures.items
          ∙ grown t.constant _ (weight env ps) (part_weight env c.args.part) (after_remove env ps i none c.args.part within same gone))
      | else-coefficient-eq0 w ↦
          ap (value env) w.self-is ∙ grown t.constant _ (weight env ps) (part_weight env c.args.part)
          (after_set env ps i none c.args.part _ within same (is_wrap _ ∙ ap (λ p. wrap (p.coefficient + c.args.part.coefficient)) second) refl)
    ]

pub returns-in_err-insert-clause-err : goal.returns-in_err-insert-clause-err
unfolding value
returns-in_err-insert-clause-err c =
    let e : (env : ℕ → ℕ) → value env (record { constant = c.args.self.now.constant; parts = c.insert.new.self }) ≡ value env c.args.self.now =
    λ env. ap (λ ps. wrap (c.args.self.now.constant + weight env ps)) c.in_err-insert.ensures.items in
    search rules

pub returns-clause-ok : goal.returns-clause-ok
unfolding value
returns-clause-ok c env =
    let t = c.args.self.now in
    ap (λ qs. wrap (t.constant + weight env qs)) c.in_ok-insert.ensures.items
    ∙ grown t.constant _ (weight env t.parts.items) (part_weight env c.args.part) (after_insert env t.parts.items c.place_of-place.result c.args.part)
