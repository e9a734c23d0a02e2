-- How a line is read as a command of a table.
use Rattle.std.specs.Prelude.{ℕ, ℤ, pos, negsuc, ◌==◌, ◌&&◌, ◌||◌, Bool, false, not, List, length, take, drop, nat_le, nat_lt, if◌then◌else◌, Option, Some, None, Result, Ok, Err}
use Rattle.std.specs.List.{prefix_len}
use Rattle.mic_base.specs.Prelude.{number_of}
use Rattle.mic_base.specs.declared.number.NumberError.{NumberError}
use Rattle.cli_session.specs.declared.table.Argument.{Argument}
use Rattle.cli_session.specs.declared.table.Argument.TheVariants as arguments
use Rattle.cli_session.specs.declared.reading.Command.{Command}
use Rattle.cli_session.specs.declared.reading.CommandError.{CommandError}
use Rattle.cli_session.specs.declared.reading.CommandError.TheVariants.{BadCommand, BadNumber}
use Rattle.cli_session.specs.Table.{CommandForm, default_of, least_of, most_of, row_in}

-- ---- the words of a line

-- spaces and tabs divide words
abbrev pub is_blank : ℕ → Bool
is_blank b = b == 32 || b == 9

abbrev pub is_word_byte : ℕ → Bool
is_word_byte b = not (is_blank b)

-- a line without the blanks at its front
abbrev pub unindented : List ℕ → List ℕ
unindented line = drop (prefix_len is_blank line) line

-- the first word of a line, empty where it has none
abbrev pub first_word : List ℕ → List ℕ
first_word line = take (prefix_len is_word_byte (unindented line)) (unindented line)

-- what follows that word
abbrev pub after_word : List ℕ → List ℕ
after_word line = drop (prefix_len is_word_byte (unindented line)) (unindented line)

-- ---- reading

-- a number that was read, where it is in this range
abbrev pub ranged : ℕ → ℕ → Result ℤ NumberError → Option ℕ
ranged least most (Ok (pos n)) = if nat_le least n && nat_le n most then Some n else None
ranged least most (Ok (negsuc n)) = None
ranged least most (Err e) = None

abbrev pub is_empty : List ℕ → Bool
is_empty word = length word == 0

module _ {V : Type 0} where
  -- the command with this number; else this refusal
  abbrev pub numbered : V → Option ℕ → CommandError → Result (Option (Command V)) CommandError
  numbered v (Some n) e = Ok (Some (record { verb = v; number = n }))
  numbered v None e = Err e

  -- the command whose argument is a word that exists
  abbrev pub with_word : ℕ → V → Argument → List ℕ → Result (Option (Command V)) CommandError
  with_word words v arguments.Nothing word = Err BadCommand
  with_word words v argument word = numbered v (ranged (least_of argument) (most_of words argument) (number_of word)) BadNumber

  abbrev pub with_argument : ℕ → CommandForm V → List ℕ → Result (Option (Command V)) CommandError
  with_argument words form word =
      if is_empty word then numbered form.verb (default_of form.argument) BadCommand else with_word words form.verb form.argument word

  abbrev pub with_row : ℕ → Option (CommandForm V) → List ℕ → Result (Option (Command V)) CommandError
  with_row words None word = Err BadCommand
  with_row words (Some form) word = with_argument words form word

  -- What a line says by a table, over a memory of this many words. It has at most 255 bytes; a line without a word says
  -- nothing; after a command's word comes at most its argument.
  unfoldable pub command_in : List (CommandForm V) → ℕ → List ℕ → Result (Option (Command V)) CommandError
  command_in forms words line =
      if nat_lt 255 (length line) then Err BadCommand else
      if is_empty (first_word line) then Ok None else
      if is_empty (first_word (after_word (after_word line))) then with_row words (row_in (first_word line) forms) (first_word (after_word line))
      else Err BadCommand

  -- whether what was read ends the session, by which verbs do
  abbrev pub is_quit_in : (V → Bool) → Result (Option (Command V)) CommandError → Bool
  is_quit_in ends (Ok (Some c)) = ends c.verb
  is_quit_in ends (Ok None) = false
  is_quit_in ends (Err e) = false
