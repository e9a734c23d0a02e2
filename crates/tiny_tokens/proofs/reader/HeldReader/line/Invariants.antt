use Rattle.std.proofs.Common.{◌≡◌, length}
use Rattle.source_text.specs.Prelude.{lex}
use Rattle.tiny_lexemes.specs.Prelude.{read, tiny}
use Rattle.tiny_tokens.specs.Prelude.{add_read}
use Rattle.tiny_tokens.proofs.reader.HeldReader.line.Given as goal

abbrev pub invariant-loop-first : goal.invariant-loop-first
invariant-loop-first l = add_read l.number l.self (lex tiny 0 l.rest) ≡ add_read l.number l.fn.self (read l.line)

abbrev pub decreases-loop-first : goal.decreases-loop-first
decreases-loop-first l = length l.rest
