use Rattle.std.proofs.Common.{◌++◌, ap, ◌∙◌}
use Rattle.std.proofs.lemmas.Result.{on_ok_weaker}
use Rattle.ijvm_text.specs.Prelude.{one}
use Rattle.ijvm_text.proofs.text.put.Goals as goal

pub returns : goal.returns
returns c = on_ok_weaker c.push_instr.result (λ e. e ∙ ap (λ x. c.args.bytes.now.items ++ x) (one c.args.instr)) c.push_instr.ensures
