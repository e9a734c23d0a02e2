use Rattle.cli_call.proofs.print.print_asked.Goals as goal

pub returns-in-Some : goal.returns-in-Some
returns-in-Some g c = rw c.in-Some.is c.print_micro.ensures

pub returns-in-None : goal.returns-in-None
returns-in-None g c = rw c.in-None.is c.print_shipped.ensures
