-- The table of commands: each with its name and the words that it takes.
use Prim.Native.String.{String as Literal}
use Rattle.std.specs.Prelude.{◌≡◌, Bool, true, false, List, [], ◌∷◌, map, Option, Some, None, codes, find}
use Rattle.std.specs.Str.{bytes_eq}
use Rattle.cli_words.specs.Reading.{Form, Text}
use Rattle.cli_words.specs.Taking.{form_of}
use Rattle.cli_words.specs.declared.table.CommandName.{CommandName}
use Rattle.cli_words.specs.declared.table.CommandName.TheVariants as command
use Rattle.cli_words.specs.declared.table.Row.{Row}

-- a command's name, and the words that it takes
pub record Named : Type 0 where
  pub name : Text
  pub form : Form

abbrev row : Literal → List Literal → Bool → List Literal → List Literal → Named
row name plain is_whole options flags = record {
  name = codes name;
  form = record { plain = map codes plain; is_whole = is_whole; options = map codes options; flags = map codes flags };
}

-- a command: its name, its plain words, whether none may be left out, its options, its flags
abbrev pub row_for : CommandName → Named
row_for command.Assemble = row "assemble" ("FILE" ∷ "TARGET" ∷ []) true [] []
row_for command.List = row "list" ("FILE" ∷ []) true ("map" ∷ []) []
row_for command.Verify = row "verify" ("FILE" ∷ []) true ("map" ∷ []) []
row_for command.Run = row "run" ("FILE" ∷ []) true ("machine" ∷ "bound" ∷ "micro" ∷ "map" ∷ []) []
row_for command.Trace = row "trace" ("FILE" ∷ []) true ("machine" ∷ "bound" ∷ "micro" ∷ "map" ∷ []) ("buses" ∷ [])
row_for command.Profile = row "profile" ("FILE" ∷ []) true ("machine" ∷ "bound" ∷ "micro" ∷ "map" ∷ []) []
row_for command.Debug = row "debug" ("FILE" ∷ []) true ("machine" ∷ "bound" ∷ "micro" ∷ "input" ∷ "map" ∷ []) []
row_for command.Reference = row "reference" ("FILE" ∷ []) true ("machine" ∷ "bound" ∷ "map" ∷ []) []
row_for command.Micro = row "micro" ("FILE" ∷ "TARGET" ∷ []) true ("machine" ∷ []) []
row_for command.PrintMicro = row "print-micro" ("micro" ∷ []) false ("machine" ∷ []) []
row_for command.Soak = row "soak" ("SEED" ∷ "SIZE" ∷ []) true ("machine" ∷ []) []
row_for command.Cache = row "cache" ("FILE" ∷ "LINES" ∷ []) true ("bound" ∷ "map" ∷ []) []
row_for command.Rewind = row "rewind" ("FILE" ∷ []) true ("machine" ∷ "input" ∷ "depth" ∷ "map" ∷ []) []
row_for command.Compile = row "compile" ("FILE" ∷ "TARGET" ∷ []) true [] []
row_for command.Tiny = row "tiny" ("FILE" ∷ []) true ("machine" ∷ "bound" ∷ []) []

abbrev pub all_commands : List CommandName
all_commands = command.Assemble ∷ command.List ∷ command.Verify ∷ command.Run ∷ command.Trace ∷ command.Profile ∷ command.Debug
    ∷ command.Reference ∷ command.Micro ∷ command.PrintMicro ∷ command.Soak ∷ command.Cache ∷ command.Rewind ∷ command.Compile
    ∷ command.Tiny ∷ []

-- the command of a list that a word names
abbrev pub named_in : Text → List CommandName → Option CommandName
named_in word = find (λ command. bytes_eq (row_for command).name word)

-- the command that a word names
abbrev pub name_for : Text → Option CommandName
name_for word = named_in word all_commands

-- the words that a command takes
abbrev pub form_for : CommandName → Form
form_for command = (row_for command).form

-- the row has the name of its command, and takes its words
abbrev pub IsTableRow : Row → Type 0
IsTableRow row = (row.name.now ≡ (row_for row.command).name) × (form_of row ≡ form_for row.command)

abbrev pub AreTableRows : List Row → Type 0
AreTableRows [] = Unit {0}
AreTableRows (row ∷ rows) = IsTableRow row × AreTableRows rows

-- the row of the command that is named; none where none is named
abbrev pub IsRowOf : Option CommandName → Option Row → Type 0
IsRowOf named None = named ≡ None
IsRowOf named (Some row) = (named ≡ Some row.command) × IsTableRow row
