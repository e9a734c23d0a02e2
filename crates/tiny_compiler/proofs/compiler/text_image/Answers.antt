use Rattle.tiny_names.specs.Prelude.{program_tree}
use Rattle.tiny_compiler.proofs.CodeImages.{on_err, too_large}
use Rattle.tiny_compiler.proofs.compiler.text_image.Goals as goal

pub returns-clause-err : goal.returns-clause-err
returns-clause-err c =
    on_err c.code_image.result _ _
    (λ e large known. too_large c.args.text.now (program_tree c.in_ok-program.program) c.functions.result.now c.main.result c.functions.ensures c.main.ensures
    c.in_ok-program.ensures.ok e (large known))
    c.code_image.ensures.err
