use Rattle.std.proofs.Common.{refl}
use Rattle.std.proofs.lemmas.Result.{on_ok_weaker}
use Rattle.cli_program_texts.specs.Prelude.{Instruction, instr_line}
use Rattle.cli_program_texts.proofs.listing.push_address.Goals as goal

pub returns-in-Start : goal.returns-in-Start
returns-in-Start c =
    on_ok_weaker c.push_instr.result
    (λ e. (instr_line c.start_instr.result c.args.at, Instruction c.start_instr.result c.in-Start.ensures c.start_instr.ensures refl, e))
    c.push_instr.ensures
