use Rattle.verifier_locals.proofs.Common.{List, sym, subst, Node, IsShort}
use Rattle.verifier_locals.proofs.Shortcuts.{short_same}
use Rattle.verifier_locals.proofs.shortcut.shortened.Goals as goal

pub loop-round-init : goal.loop-round-init
loop-round-init c = subst (λ (xs : List Node). IsShort c.args.graph.now xs) (sym c.in_ok-short.ensures.items) (short_same c.args.graph.now)
