use Rattle.cli_programs.proofs.Common.{err_from_is_err_and, refused, unread}
use Rattle.cli_programs.proofs.tiny.program_in_tiny.Goals as goal

pub returns-in_err-text-clause-not_had : goal.returns-in_err-text-clause-not_had
returns-in_err-text-clause-not_had g c =
    let p = err_from_is_err_and c.from_residual.result c.from_residual.ensures.1 in
    rw (p.1, p.2) (unread c.in_err-text.ensures.unread)

pub returns-in-Ok-clause-had : goal.returns-in-Ok-clause-had
returns-in-Ok-clause-had g c =
    record { bytes = c.in_ok-text.text.items; read = c.in_ok-text.ensures.read; is = rw c.deref.ensures.value at c.in-Ok.ensures.ok }

pub returns-clause-not_had : goal.returns-clause-not_had
returns-clause-not_had g c =
    refused c.in-Err.refusal c.in_ok-text.ensures.read (rw c.deref.ensures.value at c.in-Err.ensures.err)
    (rw c.in_ok-text.ensures.same at c.refuse.ensures)
