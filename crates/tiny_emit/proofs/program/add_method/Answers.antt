use Rattle.tiny_emit.proofs.Common.{on_ok_weaker, places_in, function_tree}
use Rattle.tiny_emit.proofs.Texts.{method_added}
use Rattle.tiny_emit.proofs.program.add_method.Goals as goal

pub returns : goal.returns
returns c =
    on_ok_weaker c.add-2.result
    (λ e. method_added (places_in c.args.table.now) c.args.text.now c.add_header.new.text c.add_block.new.text c.add.new.self c.add-2.new.self
    (function_tree c.args.function.now) c.in_ok-add_header.ensures c.in_ok-add_block.ensures c.in_ok-add.ensures e) c.add-2.ensures
