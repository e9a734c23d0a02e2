use Rattle.micro_terms.proofs.Common.{ℕ, ◌+◌, ◌∙◌, ap, sym, wrap, value, alu, AluOp}
use Rattle.micro_terms.proofs.Modular.{sum_inc}
use Rattle.micro_terms.proofs.alu.linear.Goals as goal

pub returns-in_ok-term-in-SumInc : goal.returns-in_ok-term-in-SumInc
returns-in_ok-term-in-SumInc c env =
    let a = value env c.args.a.now in
    let b = value env c.args.b.now in
    c.in_ok-term-in-SumInc.ensures env
    ∙ (ap (λ (v : ℕ). wrap (v + 1)) (c.in_ok-sum-in-SumInc.ensures env)
    ∙ (sum_inc a b ∙ ap (λ (op : AluOp). alu op a b) (sym c.in-SumInc.is)))
