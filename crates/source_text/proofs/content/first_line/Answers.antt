use Rattle.source_text.proofs.Cutting.{line_more, line_last}
use Rattle.source_text.proofs.content.first_line.Goals as goal

pub returns-then-len-text-clause-value : goal.returns-then-len-text-clause-value
returns-then-len-text-clause-value c = rw c.strip_carriage_return.ensures (line_more c.args.text.now c.line_len-len.result c.line_len-len.ensures.value c.if-len-text.true)

pub returns-else-len-text-clause-value : goal.returns-else-len-text-clause-value
returns-else-len-text-clause-value c = line_last c.args.text.now c.line_len-len.result c.line_len-len.ensures.value c.requires c.if-len-text.false
