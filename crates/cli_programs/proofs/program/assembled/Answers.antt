use Rattle.cli_programs.proofs.Common.{◌∙◌, ap, refusal_by}
use Rattle.cli_programs.proofs.Reasons.{no_source, not_linked}
use Rattle.cli_programs.proofs.program.assembled.Goals as goal

pub returns-in-Err-clause-err : goal.returns-in-Err-clause-err
returns-in-Err-clause-err c =
    no_source c.args.text.now c.in-Err.error c.by.result c.in-Err.ensures.err (c.by.ensures ∙ ap refusal_by c.source_reason.ensures)

pub returns-clause-err : goal.returns-clause-err
returns-clause-err c =
    not_linked c.args.text.now c.in-Ok.source c.in-Err-link.error c.by-in-Err-link.result c.in-Ok.ensures.ok c.in-Err-link.ensures.refused
    (c.by-in-Err-link.ensures ∙ ap refusal_by c.link_reason.ensures)
