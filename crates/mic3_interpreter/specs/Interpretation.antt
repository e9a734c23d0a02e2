-- Mic-3 as an interpreter of IJVM, with the microprogram that ships for Mic-2, whose Main1 is at 0x002.
use Rattle.mic_words.specs.declared.machine.Machine.TheVariants as machines
use Rattle.mic3_interpreter.specs.Timing.{mic3_timing}
use Rattle.mal_shipped.specs.Prelude.{HasShipped}
use Rattle.mic3_datapath.specs.Prelude.{Pipeline, mic3_meaning, IsReady, pipeline_of}
use Rattle.mic3_datapath.specs.declared.mic3.Mic3.{Mic3}
use Rattle.ijvm_simulation.specs.Prelude.{Interpretation, interpretation}

abbrev pub mic3 : Interpretation Mic3 Pipeline
mic3 = interpretation pipeline_of mic3_meaning IsReady (HasShipped machines.Mic2) 0x002 mic3_timing
