use Rattle.std.proofs.lemmas.Result.{err_from_is_err_and}
use Rattle.cli_outside.specs.Prelude.{refused, unread}
use Rattle.cli_clocked.proofs.choice.own_microprogram.Goals as goal

pub returns-in_err-bytes-clause-not_had : goal.returns-in_err-bytes-clause-not_had
returns-in_err-bytes-clause-not_had g c =
    let p = err_from_is_err_and c.from_residual.result c.from_residual.ensures.1 in
    rw (p.1, p.2) (unread c.in_err-bytes.ensures.unread)

pub returns-in-Ok-clause-had : goal.returns-in-Ok-clause-had
returns-in-Ok-clause-had g c =
    record { bytes = c.in_ok-bytes.bytes.items; read = c.in_ok-bytes.ensures.read; is = rw c.deref.ensures.value at c.in-Ok.ensures.ok }

pub returns-clause-not_had : goal.returns-clause-not_had
returns-clause-not_had g c =
    refused c.in-Err.refusal c.in_ok-bytes.ensures.read (rw c.deref.ensures.value at c.in-Err.ensures.err)
    (rw c.in_ok-bytes.ensures.same at c.refuse.ensures)
