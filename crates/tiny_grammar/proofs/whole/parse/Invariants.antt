use Rattle.tiny_grammar.proofs.Common.{[], ◌∷◌, length, map, function_tree}
use Rattle.tiny_grammar.specs.Prelude.{spell_functions, Functions, Moves}
use Rattle.tiny_grammar.proofs.whole.parse.Given as goal

abbrev pub invariant-loop-after_fn : goal.invariant-loop-after_fn
invariant-loop-after_fn l = Moves 64 (Functions ∷ []) l.tokens (spell_functions (map function_tree l.found)) 64 (Functions ∷ []) l.rest

abbrev pub decreases-loop-after_fn : goal.decreases-loop-after_fn
decreases-loop-after_fn l = length l.rest
