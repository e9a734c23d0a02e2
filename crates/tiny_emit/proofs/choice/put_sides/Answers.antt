use Rattle.std.proofs.lemmas.Result.{on_ok_weaker}
use Rattle.tiny_emit.proofs.Bytes.{then_bytes}
use Rattle.tiny_emit.proofs.choice.put_sides.Goals as goal

pub returns : goal.returns
returns c = on_ok_weaker c.put_expr-2.result (λ e. then_bytes _ _ _ _ _ c.in_ok-put_expr.ensures e) c.put_expr-2.ensures
