use Rattle.micro_terms.proofs.Common.{List, sym, ◌∙◌, subst, IsLimited, Node}
use Rattle.micro_terms.proofs.Limits.{limited}
use Rattle.micro_terms.proofs.nodes.Nodes.are_apart.Goals as goal

pub returns : goal.returns
returns c h e fits inside same =
    let ranges = c.args.ranges.now in
    let limits : IsLimited e.word c.deref.result.now ranges =
    subst (λ (nodes : List Node). IsLimited e.word nodes ranges) (sym c.deref.ensures.value) (limited e c.args.self.now.nodes.items ranges fits inside) in
    c.in_ok-is.ensures h e.word limits (c.in_ok-first.ensures e fits ∙ (same ∙ sym (c.in_ok-second.ensures e fits)))
