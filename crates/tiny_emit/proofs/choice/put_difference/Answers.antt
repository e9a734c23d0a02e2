use Rattle.tiny_emit.proofs.Common.{◌++◌, [], ◌∷◌, on_ok_weaker, Isub, code_of_expr}
use Rattle.tiny_emit.proofs.Bytes.{then_bytes}
use Rattle.tiny_emit.proofs.choice.put_difference.Goals as goal

pub returns : goal.returns
returns c =
    let left = code_of_expr c.args.table.now c.args.local c.args.left.now in
    let right = code_of_expr c.args.table.now c.args.local c.args.right.now in
    on_ok_weaker c.put.result
    (λ e. then_bytes _ c.put_expr.new.bytes.items _ left (right ++ Isub ∷ []) c.in_ok-put_expr.ensures
    (then_bytes _ c.put_expr-2.new.bytes.items _ right (Isub ∷ []) c.in_ok-put_expr-2.ensures e))
    c.put.ensures
