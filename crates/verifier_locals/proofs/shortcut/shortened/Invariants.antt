use Rattle.verifier_locals.specs.Prelude.{IsShort}
use Rattle.verifier_locals.proofs.shortcut.shortened.Given as goal

abbrev pub invariant-loop-round : goal.invariant-loop-round
invariant-loop-round l = IsShort l.graph l.short.items
