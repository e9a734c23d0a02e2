-- What a failing sink leaves of a line of the debugger, and which line ends it.
use Rattle.std.specs.Prelude.{ℕ, Bool, true, false, List, Option}
use Rattle.mic_clock.specs.Prelude.{Meaning, MicroRun}
use Rattle.mic_debugger.specs.declared.reply.Reply.{Reply}
use Rattle.mic_debugger.specs.declared.reply.Reply.TheVariants as replies
use Rattle.mic_debugger.specs.declared.table.Verb.{Verb}
use Rattle.mic_debugger.specs.declared.table.Verb.TheVariants as verbs
use Rattle.mic_debugger.specs.Prelude.{command_of, Carries, Does, IsPart, Rules, Stand, plan_at}
use Rattle.cli_session.specs.Prelude.{is_quit_in, OnlyGives, IsFrontOf}
use Rattle.cli_outside.specs.Prelude.{GotInPart}

-- ---- the line that ends a session

abbrev pub is_quit_verb : Verb → Bool
is_quit_verb verbs.Quit = true
is_quit_verb verb = false

-- whether a line quits, over a memory of this many words
abbrev pub is_quit : ℕ → List ℕ → Bool
is_quit memory line = is_quit_in is_quit_verb (command_of memory line)

abbrev pub is_quit_reply : Reply → Bool
is_quit_reply replies.Quit = true
is_quit_reply reply = false

-- A failing sink broke a line off at a moment: `out` holds a front of what was given by then, and `err` got a front
-- of what was printed. So they are fronts too of what the line gives and prints where it is done whole.
pub record IsBrokenOff {State : Type 0} (m : Meaning State) (rules : Rules) (line : List ℕ) (s : Stand State) (held said said' : Option (List ℕ)) : Type 0 where
  pub run : MicroRun State
  pub text : List ℕ
  pub begun : Carries m rules (IsPart m rules) (plan_at m rules s line) s text run
  pub out : IsFrontOf held run.world.given
  pub err : GotInPart said text said'
  pub whole_out : OnlyGives m → (whole : List ℕ) (s' : Stand State) → Does m rules line s whole s' → IsFrontOf held s'.run.world.given
  pub whole_err : (whole : List ℕ) (s' : Stand State) → Does m rules line s whole s' → GotInPart said whole said'
