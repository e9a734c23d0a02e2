use Rattle.std.proofs.Common.{sym, ap, ◌∙◌}
use Rattle.ijvm_meaning.specs.Cost.{entry_of as entry}
use Rattle.ijvm_reference.proofs.Costs.{index_none}
use Rattle.ijvm_reference.proofs.cost.entry_of.Goals as goal

pub returns-in-None : goal.returns-in-None
returns-in-None c =
    sym (ap (entry c.args.plain.now.image.pool) c.in-Invokevirtual.is
    ∙ index_none c.args.plain.now.image.pool c.in-Invokevirtual.index (sym c.constant.ensures ∙ c.in-None.is))
