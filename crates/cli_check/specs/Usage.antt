-- What is printed where the words ask for nothing, or for another machine.
use Rattle.std.specs.Prelude.{ℕ, List, codes}
use Rattle.cli_outside.specs.Messages.{of_file}

abbrev pub usage_text : List ℕ
usage_text = codes "usage: mic-check MAL [--machine mic1]\n"

-- what follows the name of another machine
abbrev pub only_mic1 : List ℕ
only_mic1 = of_file (codes "mic-check judges microprograms of Mic-1 alone")
