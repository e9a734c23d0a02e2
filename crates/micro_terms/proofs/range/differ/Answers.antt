use Rattle.micro_terms.proofs.Common.{◌≡◌, ◌<◌, ◌∙◌, ℕ, IsTrue, nat_lt, arith, value}
use Rattle.micro_terms.proofs.Modular.{no_difference}
use Rattle.micro_terms.proofs.Weights.{value_lt}
use Rattle.micro_terms.proofs.range.differ.Goals as goal

is_below : (a b : ℕ) → IsTrue (nat_lt a b) → a < b
is_below a b h = grind (arith, h)

pub returns-in-Some : goal.returns-in-Some
returns-in-Some c h env inside same =
    let a = value env c.args.a.now in
    let b = value env c.args.b.now in
    let zero : value env c.in_ok-difference.difference ≡ 0 = c.in_ok-difference.ensures env ∙ no_difference a b (value_lt env c.args.b.now) same in
    let positive : 0 < c.in-Some.range.low = is_below 0 c.in-Some.range.low h in
    omega (arith, zero, positive, (c.in-Some.ensures env inside).0)
