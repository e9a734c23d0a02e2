use Rattle.method_linker.proofs.Pushed.{units_all}
use Rattle.method_linker.proofs.image.units_of.Goals as goal

pub returns : goal.returns
returns c =
    let main = rw (c.constants.ensures.is, c.lines.ensures, c.main.ensures.is) at c.in_ok-push_code.ensures in
    let rest = rw (c.constants.ensures.is, c.methods.ensures.is) at c.in_ok-push_methods.ensures in
    units_all c.args.program.now c.new-units.result.text (record { text = c.push_code.new.text; entries = c.new-units.result.entries })
    c.push_methods.new.units c.new-units.ensures.empty c.new-units.ensures.near main c.new-units.ensures.none rest
