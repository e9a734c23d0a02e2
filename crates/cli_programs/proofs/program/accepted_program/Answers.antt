use Rattle.cli_programs.proofs.Common.{rules, ◌∙◌, ap, IsRefusal, refusal_by, IsRefusedProgram}
use Rattle.cli_programs.proofs.Reasons.{not_accepted}
use Rattle.cli_programs.proofs.program.accepted_program.Goals as goal

pub returns-in_err-image-clause-err : goal.returns-in_err-image-clause-err
returns-in_err-image-clause-err c =
    let at_map : IsRefusal (IsRefusedProgram c.args.map) c.args.bytes.now c.in_err-image.field-0.0 = c.in_err-image.ensures.err c.args.map in search (rules, at_map)

pub returns-in-Err-clause-err : goal.returns-in-Err-clause-err
returns-in-Err-clause-err c =
    not_accepted c.args.map c.args.bytes.now c.in_ok-image.image c.in-Err.error c.by.result c.in_ok-image.ensures.ok c.in-Err.ensures.refused
    (c.by.ensures ∙ ap refusal_by c.verify_reason.ensures)
