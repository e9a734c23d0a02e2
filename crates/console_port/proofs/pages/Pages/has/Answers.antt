use Rattle.std.proofs.Common.{arith}
use Rattle.std.proofs.lemmas.Grind.{common_steps}
use Rattle.console_port.proofs.Paging.{length-words_of}
use Rattle.console_port.proofs.pages.Pages.has.Goals as goal

pub returns : goal.returns
returns c = rw (← c.self.view_is, length-words_of) (search (arith, common_steps))
