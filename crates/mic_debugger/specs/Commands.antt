-- The commands of a session: their table, and how a line is read by it.
use Rattle.std.specs.Prelude.{ℕ, List, [], ◌∷◌, Option, Result}
use Rattle.mic_debugger.specs.Common.{Command, CommandError, command_in, CommandForm, command_form}
use Rattle.cli_session.specs.declared.table.Argument.TheVariants as arguments
use Rattle.mic_debugger.specs.declared.table.Verb.{Verb}
use Rattle.mic_debugger.specs.declared.table.Verb.TheVariants as verbs

-- the word of each command, and what follows it
abbrev pub forms : List (CommandForm Verb)
forms =
    command_form verbs.Micro "micro" arguments.Count
    ∷ command_form verbs.Step "step" arguments.Count
    ∷ command_form verbs.Go "go" arguments.Nothing
    ∷ command_form verbs.Break "break" arguments.TextAddress
    ∷ command_form verbs.Clear "clear" arguments.TextAddress
    ∷ command_form verbs.Watch "watch" arguments.MemoryWord
    ∷ command_form verbs.Regs "regs" arguments.Nothing
    ∷ command_form verbs.Stack "stack" arguments.Nothing
    ∷ command_form verbs.Where "where" arguments.Nothing
    ∷ command_form verbs.Quit "quit" arguments.Nothing
    ∷ []

-- what a line says over a memory of this many words
abbrev pub command_of : ℕ → List ℕ → Result (Option (Command Verb)) CommandError
command_of = command_in forms
