use Rattle.std.proofs.Common.{refl}
use Rattle.cli_debug.proofs.debug.begun.Goals as goal

pub returns : goal.returns
returns g c =
    rw c.new.ensures
    (record {
      reset = record { loaded = c.args.prepared.micro.is_loaded; store = c.in_ok-board.ensures.store; reset = c.in_ok-board.ensures.reset };
      begun = refl;
    })
