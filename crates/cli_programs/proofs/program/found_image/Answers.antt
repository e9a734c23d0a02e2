use Rattle.std.proofs.Common.{◌∙◌, sym}
use Rattle.cli_programs.proofs.Reasons.{no_program_in}
use Rattle.cli_programs.proofs.program.found_image.Goals as goal

pub returns-else-begins_image-clause-err : goal.returns-else-begins_image-clause-err
returns-else-begins_image-clause-err c =
    no_program_in c.args.bytes.now c.assembled.result (sym c.begins_image.ensures ∙ c.if-begins_image.false) c.assembled.ensures.err
