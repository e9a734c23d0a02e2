use Rattle.std.proofs.Common.{[], ◌∷◌, length}
use Rattle.tiny_grammar.specs.Prelude.{AName, MoreParameters, Parameters, Moves}
use Rattle.tiny_grammar.proofs.Lists.{words_with_commas}
use Rattle.tiny_grammar.proofs.function.parameters.Given as goal

abbrev pub invariant-loop-found : goal.invariant-loop-found
invariant-loop-found l = Moves 63 (Parameters ∷ []) l.tokens (words_with_commas l.found) 63 (AName ∷ MoreParameters ∷ []) l.rest

abbrev pub decreases-loop-found : goal.decreases-loop-found
decreases-loop-found l = length l.rest
