-- When a Mic-1 with a checked control store is ready for an instruction: the opcode has arrived or is on the way, and registers and memory hold words.
use Rattle.std.specs.Prelude.{ℕ, List}
use Rattle.console_port.specs.World.{World}
use Rattle.mic1_datapath.specs.Micro.{Micro}
use Rattle.mic1_checks.specs.Ready.{IsReadyOrArriving}
use Rattle.mic1_checks.specs.Words.{HasWords}

pub record IsReadyInWords (main : ℕ) (words : List ℕ) (at : ℕ) (m : Micro) (w : World) : Type 0 where
  pub ready : IsReadyOrArriving main words at m w
  pub words_are : HasWords m w
