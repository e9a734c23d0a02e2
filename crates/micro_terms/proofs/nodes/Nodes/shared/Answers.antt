use Rattle.micro_terms.proofs.Common.{◌∙◌, and_comm}
use Rattle.micro_terms.proofs.nodes.Nodes.shared.Goals as goal

pub returns-then-right-left-clause-value : goal.returns-then-right-left-clause-value
returns-then-right-left-clause-value c e fits =
    c.in_ok-turned.ensures.value e fits ∙ and_comm (e.word c.args.right) (e.word c.args.left)
