use Rattle.std.proofs.lemmas.Result.{on_ok_weaker}
use Rattle.tiny_pool.proofs.Walks.{adds_then}
use Rattle.tiny_pool.proofs.numbers.add_sides.Goals as goal

pub returns : goal.returns
returns c = on_ok_weaker c.add_expr-2.result (λ e. adds_then _ _ _ _ _ c.in_ok-add_expr.ensures e) c.add_expr-2.ensures
