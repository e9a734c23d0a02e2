use Rattle.cli_programs.specs.Prelude.{NoRoom}
use Rattle.cli_programs.proofs.soaking.soak.Goals as goal

pub returns-in-Ok : goal.returns-in-Ok
returns-in-Ok g c =
    c.run_soak.ensures c.args.seed c.args.size (record { image_is = c.in-Ok.ensures.image; map_is = c.in-Ok.ensures.map; accepted = c.in-Ok.ensures.accepted })

pub returns-in-Err : goal.returns-in-Err
returns-in-Err g c = record { names = c.no_memory.ensures.names; does = NoRoom c.no_memory.ensures.does }
