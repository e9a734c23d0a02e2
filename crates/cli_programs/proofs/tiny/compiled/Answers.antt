use Rattle.cli_programs.proofs.Common.{◌∙◌, ap, refusal_by}
use Rattle.cli_programs.proofs.TinyReasons.{no_code}
use Rattle.cli_programs.proofs.tiny.compiled.Goals as goal

pub returns-in-Err-clause-err : goal.returns-in-Err-clause-err
returns-in-Err-clause-err c =
    no_code c.args.text.now c.in-Err.error c.by.result c.in-Err.ensures.err (c.by.ensures ∙ ap refusal_by c.tiny_reason.ensures)
