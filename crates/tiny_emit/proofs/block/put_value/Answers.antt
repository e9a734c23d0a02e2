use Rattle.std.proofs.lemmas.Result.{on_ok_weaker}
use Rattle.tiny_emit.proofs.Bytes.{then_bytes}
use Rattle.tiny_emit.proofs.block.put_value.Goals as goal

pub returns : goal.returns
returns c = on_ok_weaker c.put.result (λ e. then_bytes _ _ _ _ _ c.in_ok-put_expr.ensures e) c.put.ensures
