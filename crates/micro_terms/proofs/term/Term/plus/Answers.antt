use Rattle.micro_terms.proofs.Common.{◌≡◌, ℕ, ◌+◌, ◌%◌, List, ◌∙◌, ap, sym, take, take_all, get_or, add-zero, sum_by_more, wrap, value, weight, Part, Term}
use Rattle.micro_terms.proofs.Modular.{is_wrap, wrap_word, both, one_more}
use Rattle.micro_terms.proofs.Weights.{part_weight, value_lt}
use Rattle.micro_terms.proofs.term.Term.plus.Goals as goal

pub loop-part-init : goal.loop-part-init
loop-part-init c env = sym (ap wrap (add-zero _) ∙ wrap_word _ (value_lt env _))

pub loop-part-preserved : goal.loop-part-preserved
loop-part-preserved c env =
    let ps : List Part = c.deref-part-items.result.now in
    let i : ℕ = c.loop-part.part-index in
    let none : Part = record { coefficient = 0; number = 0 } in
    let x : ℕ = part_weight env (get_or ps i none) in
    let start : Term = record { constant = (c.args.self.now.constant + c.args.other.now.constant) % 4294967296; parts = c.in_ok-from_slice.field-0 } in
    c.in_ok-add_part.ensures.ok env
    ∙ (ap (λ v. wrap (v + x)) (c.loop-part.invariant env)
    ∙ (one_more (value env start) (weight env (take i ps)) x
    ∙ ap (λ n. wrap (value env start + n)) (sym (sum_by_more (part_weight env) ps i none c.loop-part-test.true))))

pub returns : goal.returns
unfolding value
returns c env =
    let a = c.args.self.now in
    let b = c.args.other.now in
    let ps : List Part = c.deref-part-items.result.now in
    let all : take c.loop-part.part-index ps ≡ b.parts.items = take_all _ ps c.loop-part-test.false ∙ c.deref-part-items.ensures.value in
    c.loop-part.invariant env
    ∙ (ap (λ qs. wrap (wrap ((a.constant + b.constant) % 4294967296 + weight env c.in_ok-from_slice.field-0.items) + weight env qs)) all
    ∙ (ap (λ n. wrap (wrap (n + weight env c.in_ok-from_slice.field-0.items) + weight env b.parts.items)) (is_wrap (a.constant + b.constant))
    ∙ (ap (λ qs. wrap (wrap (wrap (a.constant + b.constant) + weight env qs) + weight env b.parts.items)) (c.in_ok-from_slice.ensures.items ∙ c.deref.ensures.value)
    ∙ both a.constant b.constant (weight env a.parts.items) (weight env b.parts.items))))
