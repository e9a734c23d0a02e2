use Rattle.micro_terms.proofs.Common.{◌+◌, [], ◌∷◌, ◌++◌, ap, ◌∙◌, wrap, value, weight, Part}
use Rattle.micro_terms.proofs.Modular.{wrap_once}
use Rattle.micro_terms.proofs.term.Term.once.Goals as goal

pub returns : goal.returns
unfolding value
returns c env h =
    let p : Part = record { coefficient = 1; number = c.args.number } in
    ap (λ ps. wrap (0 + weight env ps)) (c.in_ok-push.ensures.items ∙ ap (λ ps. ps ++ p ∷ []) c.new-parts.ensures.items)
    ∙ wrap_once (env c.args.number) h
