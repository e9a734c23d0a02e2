-- When a Mic-1 at a boundary stands for a state of the plain machine.
use Rattle.console_port.specs.Prelude.{World}
use Rattle.ijvm_meaning.specs.Prelude.{State}
use Rattle.mic1_datapath.specs.Prelude.{Micro, mic1_meaning, IsReady}
use Rattle.ijvm_simulation.specs.Prelude.{Origin, IsAt}

-- with Main1 at 0x002
abbrev pub Stands : Origin → State → Micro → World → Type 0
Stands = IsAt mic1_meaning IsReady 0x002
