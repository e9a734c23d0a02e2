use Rattle.cli_clocked.proofs.choice.chosen_microprogram.Goals as goal

pub returns-in-Err-clause-none : goal.returns-in-Err-clause-none
returns-in-Err-clause-none g c = record { names = c.no_memory.ensures.names; does = rw c.in-None.is c.no_memory.ensures.does }
