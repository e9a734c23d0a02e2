use Rattle.cli_outside.proofs.outside.Outside.refuse.Goals as goal

pub returns-in-Refused : goal.returns-in-Refused
returns-in-Refused g c = rw c.in-Refused.is (rw c.bytes.ensures.value at c.tell_of.ensures)

pub returns-in-OutOfMemory : goal.returns-in-OutOfMemory
returns-in-OutOfMemory g c = rw c.in-OutOfMemory.is c.no_memory.ensures
