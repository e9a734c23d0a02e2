use Rattle.tiny_grammar.proofs.Common.{◌+◌, ◌*◌, ◌++◌, [], ◌∷◌, length, map, steps_of, expr_tree, step_tree, term_tree}
use Rattle.tiny_grammar.specs.Prelude.{spell_steps, spell_term, AnExpr, Arguments, MoreArguments, Steps, Moves}
use Rattle.tiny_grammar.proofs.Lists.{with_commas}
use Rattle.tiny_grammar.proofs.expr.+expr.Given as goal

abbrev pub decreases-call : goal.decreases-call
decreases-call l = 5 * l.levels

abbrev pub decreases-group : goal.decreases-group
decreases-group l = 5 * l.levels

abbrev pub decreases-term : goal.decreases-term
decreases-term l = 5 * l.levels + 1

abbrev pub decreases-expr : goal.decreases-expr
decreases-expr l = 5 * l.levels + 2

abbrev pub decreases-arguments : goal.decreases-arguments
decreases-arguments l = 5 * l.levels + 3

abbrev pub invariant-arguments-loop-found : goal.invariant-arguments-loop-found
invariant-arguments-loop-found l = Moves l.levels (Arguments ∷ []) l.tokens (with_commas (map expr_tree l.found)) l.levels (AnExpr ∷ MoreArguments ∷ []) l.rest

abbrev pub decreases-arguments-loop-found : goal.decreases-arguments-loop-found
decreases-arguments-loop-found l = length l.rest

abbrev pub invariant-expr-loop-operator : goal.invariant-expr-loop-operator
invariant-expr-loop-operator l =
    Moves l.levels (AnExpr ∷ []) l.tokens (spell_term (term_tree l.first) ++ spell_steps (steps_of (map step_tree l.steps))) l.levels (Steps ∷ []) l.rest

abbrev pub decreases-expr-loop-operator : goal.decreases-expr-loop-operator
decreases-expr-loop-operator l = length l.rest
