use Rattle.verifier_locals.specs.Prelude.{IsShort}
use Rattle.verifier_locals.proofs.shortcut.shorten.Given as goal

abbrev pub invariant-loop-at : goal.invariant-loop-at
invariant-loop-at l = IsShort l.graph l.short.items
