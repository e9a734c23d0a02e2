-- The commands of a session that rewinds: their table, and how a line is read by it.
use Rattle.std.specs.Prelude.{ℕ, Bool, true, false, List, [], ◌∷◌, Option, Result}
use Rattle.cli_rewind.specs.Common.{Command, CommandError, command_in, is_quit_in, CommandForm, command_form}
use Rattle.cli_session.specs.declared.table.Argument.TheVariants as arguments
use Rattle.cli_rewind.specs.declared.table.Verb.{Verb}
use Rattle.cli_rewind.specs.declared.table.Verb.TheVariants as verbs

-- the word of each command, and what follows it
abbrev pub forms : List (CommandForm Verb)
forms =
    command_form verbs.Micro "micro" arguments.Count
    ∷ command_form verbs.Back "back" arguments.Count
    ∷ command_form verbs.Word "word" arguments.MemoryWord
    ∷ command_form verbs.Regs "regs" arguments.Nothing
    ∷ command_form verbs.Quit "quit" arguments.Nothing
    ∷ []

-- what a line says over a memory of this many words
abbrev pub command_of : ℕ → List ℕ → Result (Option (Command Verb)) CommandError
command_of = command_in forms

-- ---- the line that ends a session

abbrev pub is_quit_verb : Verb → Bool
is_quit_verb verbs.Quit = true
is_quit_verb verb = false

-- over a memory of this many words
abbrev pub is_quit : ℕ → List ℕ → Bool
is_quit memory line = is_quit_in is_quit_verb (command_of memory line)
