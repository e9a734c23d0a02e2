-- Mic-1 as an interpreter of IJVM, with the microprogram that ships for it, whose Main1 is at 0x002.
use Rattle.mic_words.specs.declared.machine.Machine.TheVariants as machines
use Rattle.ijvm_meaning.specs.Prelude.{timing_of}
use Rattle.mal_shipped.specs.Prelude.{HasShipped}
use Rattle.mic1_datapath.specs.Prelude.{Micro, mic1_meaning, IsReady, micro_of}
use Rattle.mic1_datapath.specs.declared.mic1.Mic1.{Mic1}
use Rattle.ijvm_simulation.specs.Prelude.{Interpretation, interpretation}

abbrev pub mic1 : Interpretation Mic1 Micro
mic1 = interpretation micro_of mic1_meaning IsReady (HasShipped machines.Mic1) 0x002 (timing_of machines.Mic1)
