-- A table of commands: the word of each, and what follows it.
use Prim.Native.String.{String as Literal}
use Rattle.std.specs.Prelude.{ℕ, ◌-◌, List, Option, Some, None, codes, find}
use Rattle.std.specs.Str.{bytes_eq}
use Rattle.cli_session.specs.declared.table.Argument.{Argument}
use Rattle.cli_session.specs.declared.table.Argument.TheVariants as arguments
use Rattle.cli_session.specs.declared.table.CommandRow.{CommandRow}

-- a command, its word, and what follows the word
pub record CommandForm (V : Type 0) : Type 0 where
  pub verb : V
  pub word : List ℕ
  pub argument : Argument

abbrev pub command_form : {V : Type 0} → V → Literal → Argument → CommandForm V
command_form verb word argument = record { verb = verb; word = codes word; argument = argument }

-- the command, the word and the argument of a row
abbrev pub form_of : {V : Type 0} → CommandRow V → CommandForm V
form_of row = record { verb = row.verb; word = row.word.now; argument = row.argument }

-- the command of a table with that word
abbrev pub row_in : {V : Type 0} → List ℕ → List (CommandForm V) → Option (CommandForm V)
row_in word = find (λ form. bytes_eq form.word word)

-- ---- the range of each argument, over a memory of this many words, and its number where it is left out

abbrev pub least_of : Argument → ℕ
least_of arguments.Nothing = 0
least_of arguments.Count = 1
least_of arguments.TextAddress = 0
least_of arguments.MemoryWord = 0

abbrev pub most_of : ℕ → Argument → ℕ
most_of words arguments.Nothing = 0
most_of words arguments.Count = 1000000
most_of words arguments.TextAddress = 65535
most_of words arguments.MemoryWord = words - 1

abbrev pub default_of : Argument → Option ℕ
default_of arguments.Nothing = Some 0
default_of arguments.Count = Some 1
default_of arguments.TextAddress = None
default_of arguments.MemoryWord = None
