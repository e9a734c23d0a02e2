use Rattle.tiny_grammar.proofs.Common.{◌+◌, ◌-◌, ◌*◌, ◌<◌, [], ◌∷◌, length, map, statements_of, statement_tree, Begin, End}
use Rattle.tiny_grammar.specs.Prelude.{sign, spell_statements, ABlock, Statements, Want, Moves}
use Rattle.tiny_grammar.proofs.block.+block.Given as goal

abbrev pub decreases-block : goal.decreases-block
decreases-block l = 4 * l.levels

abbrev pub decreases-otherwise : goal.decreases-otherwise
decreases-otherwise l = 4 * l.levels + 1

abbrev pub decreases-repeated : goal.decreases-repeated
decreases-repeated l = 4 * l.levels + 1

abbrev pub decreases-choice : goal.decreases-choice
decreases-choice l = 4 * l.levels + 2

abbrev pub decreases-statement : goal.decreases-statement
decreases-statement l = 4 * l.levels + 3

abbrev pub invariant-block-loop-outside : goal.invariant-block-loop-outside
invariant-block-loop-outside l =
    (0 < l.levels) × Moves l.levels (ABlock ∷ []) l.tokens (sign Begin ∷ spell_statements (statements_of (map statement_tree l.found))) (l.levels - 1) (Statements ∷ Want End ∷ []) l.rest

abbrev pub decreases-block-loop-outside : goal.decreases-block-loop-outside
decreases-block-loop-outside l = length l.rest
