use Rattle.cli_micro.proofs.Common.{◌∙◌, ap, refl, refusal_by, NoPlacement, names_inside, no_program}
use Rattle.cli_micro.proofs.Answering.{chosen_by, refused_by}
use Rattle.cli_micro.proofs.placing.made_of.Goals as goal

pub returns-in-Err-clause-err : goal.returns-in-Err-clause-err
returns-in-Err-clause-err c =
    no_program c.args.machine c.args.bytes.now c.in-Err.error c.by.result c.in-Err.ensures.err (c.by.ensures ∙ ap refusal_by c.mal_reason.ensures)

pub place_reason-requires : goal.place_reason-requires
place_reason-requires c =
    names_inside c.in-Ok.program c.in-Err-place.error
    (refused_by c.in-Ok.program c.constraints_of-constraints.result c.in-Err-place.error c.constraints_of-constraints.ensures.demands
    ((c.in-Err-place.ensures.err c.in-Err-place.error).0 refl))

pub returns-in-Err-place-clause-err : goal.returns-in-Err-place-clause-err
returns-in-Err-place-clause-err c =
    NoPlacement c.in-Ok.program c.in-Err-place.error c.in-Ok.ensures.ok
    (refused_by c.in-Ok.program c.constraints_of-constraints.result c.in-Err-place.error c.constraints_of-constraints.ensures.demands
    ((c.in-Err-place.ensures.err c.in-Err-place.error).0 refl))
    c.place_reason.ensures

pub returns-clause-ok : goal.returns-clause-ok
returns-clause-ok c =
    record {
      placed = record { program = c.in-Ok.program; addresses = c.in-Ok-place.placement; store = c.fill-store.result };
      is = record {
        spelled = c.in-Ok.ensures.ok;
        chosen = chosen_by c.in-Ok.program c.constraints_of-constraints.result c.in-Ok-place.placement c.constraints_of-constraints.ensures.demands c.in-Ok-place.ensures.chosen;
        stored = record { machine = c.fill-store.ensures.machine; store = c.store_law.ensures; filled = c.fill-store.ensures.words };
      };
      made = record { file_is = c.in_ok-store_bytes.ensures; text_is = c.in_ok-placement_text.ensures };
    }
