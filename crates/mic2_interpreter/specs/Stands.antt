-- When a Mic-2 at a boundary stands for a state of the plain machine.
use Rattle.console_port.specs.Prelude.{World}
use Rattle.ijvm_meaning.specs.Prelude.{State}
use Rattle.mic2_datapath.specs.Prelude.{Micro, mic2_meaning, IsReady}
use Rattle.ijvm_simulation.specs.Prelude.{Origin, IsAt}

-- with Main1 at 0x002
abbrev pub Stands : Origin → State → Micro → World → Type 0
Stands = IsAt mic2_meaning IsReady 0x002
