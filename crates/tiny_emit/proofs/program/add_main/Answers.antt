use Rattle.tiny_emit.proofs.Common.{on_ok_weaker, places_in, function_tree}
use Rattle.tiny_emit.proofs.Texts.{main_added}
use Rattle.tiny_emit.proofs.program.add_main.Goals as goal

pub returns : goal.returns
returns c =
    on_ok_weaker c.add.result
    (λ e. main_added (places_in c.args.table.now) c.args.text.now c.add_block.new.text c.add.new.self (function_tree c.args.function.now)
    c.in_ok-add_block.ensures e) c.add.ensures
