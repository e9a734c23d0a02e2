use Rattle.ijvm_reference.proofs.Common.{◌≡◌, ℕ, ◌-◌, List, [], ◌∷◌, ◌++◌, Option, Some, None, length, take, drop, map, replicate, sym, ◌∙◌, ap, take_rest}
use Rattle.ijvm_reference.proofs.Stacks.{method_locals as locals_of}
use Rattle.ijvm_reference.proofs.frame.method_locals.Goals as goal

pub returns : goal.returns
returns c =
    let values : List ℕ = drop (length c.args.operands.now - c.args.params) c.args.operands.now in
    let unset : List (Option ℕ) = replicate c.args.others None in
    let start : c.in_ok-locals.locals.items ≡ [] = c.in_ok-locals.ensures.items in
    let link : c.push.new.self.items ≡ c.in_ok-locals.locals.items ++ None ∷ [] = c.in_ok-push.ensures.items in
    let linked : c.push.new.self.items ≡ None ∷ [] = link ∙ ap (λ (xs : List (Option ℕ)). xs ++ None ∷ []) start in
    let from : ℕ = length c.args.operands.now - c.args.params in
    let part : take (length c.args.operands.now - from) values ≡ values = take_rest c.args.operands.now from in
    let params : c.push_set.new.locals.items ≡ c.push.new.self.items ++ map Some (take (length c.args.operands.now - from) values) = c.in_ok-push_set.ensures in
    let all : c.push_unset.new.locals.items ≡ c.push_set.new.locals.items ++ unset = c.in_ok-push_unset.ensures in
    all
    ∙ ap (λ (xs : List (Option ℕ)). xs ++ unset) (params ∙ ap (λ (xs : List ℕ). c.push.new.self.items ++ map Some xs) part ∙ ap (λ (xs : List (Option ℕ)). xs ++ map Some values) linked)
    ∙ sym (locals_of c.args.operands.now c.args.params c.args.others c.requires)
