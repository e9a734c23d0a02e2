use Rattle.source_text.proofs.Common.{◌≡◌, length, lex}
use Rattle.source_text.proofs.Lexing.{onto}
use Rattle.source_text.proofs.tokens.tokens_of.Given as goal

abbrev pub invariant-loop-first : goal.invariant-loop-first
invariant-loop-first g l = onto l.tokens.items (lex g.L.Language.table 0 l.rest) ≡ lex g.L.Language.table 0 l.line

abbrev pub decreases-loop-first : goal.decreases-loop-first
decreases-loop-first g l = length l.rest
