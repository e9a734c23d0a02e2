use Rattle.cli_programs.proofs.Common.{◌∙◌, ap, refusal_by}
use Rattle.cli_programs.proofs.Reasons.{no_image}
use Rattle.cli_programs.proofs.program.image_of.Goals as goal

pub returns-in-Err-clause-err : goal.returns-in-Err-clause-err
returns-in-Err-clause-err c =
    λ map. no_image map c.args.bytes.now c.in-Err.error c.by.result c.requires c.in-Err.ensures.err (c.by.ensures ∙ ap refusal_by c.image_reason.ensures)
