-- Mic-2 as an interpreter of IJVM, with the microprogram that ships for it, whose Main1 is at 0x002.
use Rattle.mic_words.specs.declared.machine.Machine.TheVariants as machines
use Rattle.ijvm_meaning.specs.Prelude.{timing_of}
use Rattle.mal_shipped.specs.Prelude.{HasShipped}
use Rattle.mic2_datapath.specs.Prelude.{Micro, mic2_meaning, IsReady, micro_of}
use Rattle.mic2_datapath.specs.declared.mic2.Mic2.{Mic2}
use Rattle.ijvm_simulation.specs.Prelude.{Interpretation, interpretation}

abbrev pub mic2 : Interpretation Mic2 Micro
mic2 = interpretation micro_of mic2_meaning IsReady (HasShipped machines.Mic2) 0x002 (timing_of machines.Mic2)
