-- When a Mic-3 at a boundary stands for a state of the plain machine.
use Rattle.console_port.specs.Prelude.{World}
use Rattle.ijvm_meaning.specs.Prelude.{State}
use Rattle.mic3_datapath.specs.Prelude.{Pipeline, mic3_meaning, IsReady}
use Rattle.ijvm_simulation.specs.Prelude.{Origin, IsAt}

-- with Main1 at 0x002
abbrev pub Stands : Origin → State → Pipeline → World → Type 0
Stands = IsAt mic3_meaning IsReady 0x002
