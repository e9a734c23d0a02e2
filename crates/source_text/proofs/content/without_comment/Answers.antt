use Rattle.std.proofs.Common.{◌∙◌, sym}
use Rattle.source_text.proofs.Comments.{pass}
use Rattle.source_text.proofs.content.without_comment.Goals as goal

pub loop-at-preserved : goal.loop-at-preserved
loop-at-preserved c = pass c.args.line.now c.loop-at.at c.loop-at-test.true (sym c.begins_comment.ensures ∙ c.if-begins_comment.false) c.loop-at.invariant
