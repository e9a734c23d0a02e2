-- Control stores of Mic-1 that interpret IJVM, each with its entry and with what it spends.
use Rattle.std.specs.Prelude.{◌≡◌, ◌<◌, ℕ, List}
use Rattle.mic_words.specs.declared.machine.Machine.TheVariants as machines
use Rattle.micro_word.specs.ControlStore.{ControlStore}
use Rattle.ijvm_meaning.specs.Cost.{timing_of}
use Rattle.mic1_datapath.specs.Micro.{Micro}
use Rattle.mic1_datapath.specs.Mic1.{mic1_meaning}
use Rattle.mic1_datapath.specs.View.{micro_of}
use Rattle.mic1_datapath.specs.declared.mic1.Mic1.{Mic1}
use Rattle.ijvm_simulation.specs.Interpretation.{Interpretation, Reading, interpretation_with}
use Rattle.ijvm_simulation.specs.Promises.{Interprets}
use Rattle.mic1_checks.specs.declared.judged.Costs.{Costs}
use Rattle.mic1_checks.specs.Spent.{timing_by}
use Rattle.mic1_checker.specs.Ready.{IsReadyInWords}

pub record CheckedView : Type 0 where
  pub store : ControlStore
  pub entry : ℕ
  pub costs : Costs

-- all of the state is seen, and the cycles follow from those of the store that ships
abbrev pub reading : Costs → Reading Micro Micro
reading costs = record { seen = λ m. m; timing = timing_by costs (timing_of machines.Mic1) }

-- Mic-1 with a store of these words, whose microprogram begins at this entry
abbrev pub checked_with : List ℕ → ℕ → Costs → Interpretation Mic1 Micro
checked_with words entry costs = interpretation_with micro_of mic1_meaning IsReadyInWords words entry (reading costs)

abbrev pub checked : CheckedView → Interpretation Mic1 Micro
checked c = checked_with c.store.words c.entry c.costs

-- the store is one of Mic-1's, its entry is an address of it, and Mic-1 with it interprets IJVM
pub record IsChecked (c : CheckedView) : Type 0 where
  pub machine : c.store.machine ≡ machines.Mic1
  pub inside : c.entry < 512
  pub interprets : Interprets (checked c)
