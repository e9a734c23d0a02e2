use Rattle.cli_clocked.proofs.Common.{◌∙◌, ap, refl, refusal_by, NoPlacement, names_inside, no_program}
use Rattle.cli_clocked.proofs.microprogram.placed_microprogram.Goals as goal

pub returns-in-Err-clause-err : goal.returns-in-Err-clause-err
returns-in-Err-clause-err c =
    no_program c.args.machine c.args.bytes.now c.in-Err.error c.by.result c.in-Err.ensures.err (c.by.ensures ∙ ap refusal_by c.mal_reason.ensures)

pub place_reason-requires : goal.place_reason-requires
place_reason-requires c =
    names_inside c.in-Ok.program c.in-Err-load_micro.error ((c.in-Err-load_micro.ensures.err c.in-Err-load_micro.error).0 refl)

pub returns-in-Err-load_micro-clause-err : goal.returns-in-Err-load_micro-clause-err
returns-in-Err-load_micro-clause-err c =
    NoPlacement c.in-Ok.program c.in-Err-load_micro.error c.in-Ok.ensures.ok
    ((c.in-Err-load_micro.ensures.err c.in-Err-load_micro.error).0 refl) c.place_reason.ensures

pub returns-in-Ok-load_micro-clause-machine : goal.returns-in-Ok-load_micro-clause-machine
returns-in-Ok-load_micro-clause-machine c = c.in-Ok.ensures.ok.program.machine_is
