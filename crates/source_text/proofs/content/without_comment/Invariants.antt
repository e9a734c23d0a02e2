use Rattle.source_text.proofs.Comments.{IsPassed}
use Rattle.source_text.proofs.content.without_comment.Given as goal

abbrev pub invariant-loop-at : goal.invariant-loop-at
invariant-loop-at l = IsPassed l.line l.at
