use Rattle.std.proofs.lemmas.Result.{err_from_is_err_and}
use Rattle.cli_clocked.proofs.Ending.{no_microprogram, no_program}
use Rattle.cli_clocked.proofs.preparing.prepare.Goals as goal

pub returns-in_err-program-clause-unprepared : goal.returns-in_err-program-clause-unprepared
returns-in_err-program-clause-unprepared g c =
    let p = err_from_is_err_and c.from_residual.result c.from_residual.ensures.1 in
    rw (p.1, p.2) (no_program c.in_err-program.ensures.not_had)

pub returns-clause-prepared : goal.returns-clause-prepared
returns-clause-prepared g c =
    record { had = c.in_ok-program.ensures.had; chosen = rw c.in_ok-program.ensures.same at c.in_ok-micro.ensures.chosen }

pub returns-in_err-micro-clause-unprepared : goal.returns-in_err-micro-clause-unprepared
returns-in_err-micro-clause-unprepared g c =
    let p = err_from_is_err_and c.from_residual-in_err-micro.result c.from_residual-in_err-micro.ensures.1 in
    rw (p.1, p.2) (no_microprogram c.in_ok-program.program c.in_ok-program.ensures.had (rw c.in_ok-program.ensures.same at c.in_err-micro.ensures.none))
