-- How a call of `mic-check` ends.
use Rattle.std.specs.Prelude.{◌≡◌, ℕ, List, ◌++◌, Option, Some, None, codes}
use Rattle.mic_words.specs.declared.machine.Machine.TheVariants as machines
use Rattle.mal_parser.specs.Program.{MalView}
use Rattle.mal_parser.specs.Text.{SpellsProgram}
use Rattle.mal_shipped.specs.declared.loaded.Loaded.{Loaded}
use Rattle.mal_shipped.specs.Loaded.{IsLoaded}
use Rattle.mic1_checker.specs.Checked.{CheckedView, IsChecked}
use Rattle.cli_micro.specs.Answers.{IsRefusedText}
use Rattle.cli_outside.specs.Status as exits
use Rattle.cli_outside.specs.Messages.{message, out_of_memory}
use Rattle.cli_outside.specs.Outside.{OutsideView, PrintsOnOut, TellsOnErr}
use Rattle.cli_outside.specs.Work.{Ends}
use Rattle.cli_check.specs.declared.words.MachineName.{MachineName}
use Rattle.cli_check.specs.declared.words.MachineName.TheVariants.{Mic1, Mic2, Mic3}
use Rattle.cli_check.specs.Table.{proved_text}
use Rattle.cli_check.specs.Usage.{only_mic1, usage_text}
use Rattle.cli_check.specs.Words.{Asked, Text}

-- the status of a microprogram that is not shown
abbrev pub not_shown : ℕ
not_shown = 1

-- the control store of the microprogram at its chosen placement, from Main1 on, interprets IJVM with these costs
pub record IsProved (program : MalView) (c : CheckedView) : Type 0 where
  pub loaded : Loaded
  pub is_loaded : IsLoaded program loaded
  pub store_is : c.store ≡ loaded.store
  pub entry_is : c.entry ≡ loaded.entry
  pub is_checked : IsChecked c

-- what is printed says first that it is not shown
abbrev pub IsNotShownText : List ℕ → Type 0
IsNotShownText text = (rest : List ℕ) × (text ≡ codes "not shown: " ++ rest)

-- a microprogram is judged
pub data IsJudged (program : MalView) (old new : OutsideView) (status : ℕ) : Type 0 where
  -- it is proved, and the table of its cycles is printed
  Proved : (c : CheckedView) → IsProved program c → PrintsOnOut (proved_text c.costs) exits.done old new status → IsJudged program old new status
  -- it is not shown, which promises nothing of it
  NotShown : (text : List ℕ) → IsNotShownText text → PrintsOnOut text not_shown old new status → IsJudged program old new status
  NoRoom : TellsOnErr out_of_memory exits.memory old new status → IsJudged program old new status

-- the microprogram of a file is judged, or the file is refused as `mic micro` refuses it
abbrev pub Judges : Text → OutsideView → OutsideView → ℕ → Type 0
Judges = Ends (IsRefusedText machines.Mic1) (SpellsProgram machines.Mic1) IsJudged

abbrev pub JudgesFor : MachineName → Text → OutsideView → OutsideView → ℕ → Type 0
JudgesFor Mic1 file = Judges file
JudgesFor Mic2 file = TellsOnErr (message (codes "mic2") only_mic1) exits.usage
JudgesFor Mic3 file = TellsOnErr (message (codes "mic3") only_mic1) exits.usage

-- Where the words ask for nothing, the usage text says how `mic-check` is called.
abbrev pub CheckEnds : Option Asked → OutsideView → OutsideView → ℕ → Type 0
CheckEnds None = TellsOnErr usage_text exits.usage
CheckEnds (Some a) = JudgesFor a.machine a.file
