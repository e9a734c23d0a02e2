use Rattle.cli_session.proofs.input.chosen_input.Goals as goal

pub returns-in-Some-clause-err : goal.returns-in-Some-clause-err
returns-in-Some-clause-err g c = rw c.in-Some.is c.read.ensures.unread
