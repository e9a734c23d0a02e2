use Rattle.tiny_emit.proofs.Common.{[], ◌∷◌, on_ok_weaker, Pop, code_of_call}
use Rattle.tiny_emit.proofs.Bytes.{then_bytes}
use Rattle.tiny_emit.proofs.block.put_call_alone.Goals as goal

pub returns : goal.returns
returns c =
    on_ok_weaker c.put.result
    (λ e. then_bytes _ c.put_call.new.bytes.items _
    (code_of_call c.args.table.now c.args.local c.args.function c.args.arguments.now) (Pop ∷ [])
    c.in_ok-put_call.ensures e) c.put.ensures
