use Rattle.tiny_pool.specs.Prelude.{places_in}
use Rattle.tiny_emit.proofs.Texts.{emitted}
use Rattle.tiny_emit.proofs.program.emit.Goals as goal

pub returns : goal.returns
returns c g found =
    emitted (places_in c.args.table.now) c.args.functions.now c.args.main c.index-functions-main.result g c.new-units.result.text
    (record { text = c.add_main.new.text; entries = c.new-units.result.entries }) c.add_methods.new.units c.requires.placed c.requires.known
    c.index-functions-main.is found c.new-units.ensures.empty c.new-units.ensures.near c.in_ok-add_main.ensures c.new-units.ensures.none
    c.in_ok-add_methods.ensures
