-- What a line of a session comes to, what is shown, and what it leaves of breakpoints and the watched word.
use Rattle.std.specs.Prelude.{ℕ, ◌==◌, ◌&&◌, Bool, not, List, [], ◌∷◌, ◌++◌, length, filter, nat_lt, slice_get, if◌then◌else◌, Option, Some, None, option_map, is_some, Result, Ok, Err, codes}
use Rattle.mic_debugger.specs.Common.{list_any, Counts, End, Registers, state_line, Command, CommandError, BadCommand, BadNumber}
use Rattle.mic_debugger.specs.Book.{Book}
use Rattle.mic_debugger.specs.Lines.{stack_text, where_line}
use Rattle.mic_debugger.specs.declared.table.Verb.{Verb}
use Rattle.mic_debugger.specs.declared.table.Verb.TheVariants as verbs
use Rattle.mic_debugger.specs.declared.plan.Plan.{Plan}
use Rattle.mic_debugger.specs.declared.plan.Plan.TheVariants as plans
use Rattle.mic_debugger.specs.declared.plan.Shown.{Shown}
use Rattle.mic_debugger.specs.declared.plan.Shown.TheVariants as shown
use Rattle.mic_debugger.specs.declared.reply.Reply.{Reply}
use Rattle.mic_debugger.specs.declared.reply.Reply.TheVariants as replies
use Rattle.mic_debugger.specs.declared.until.Until.{Until}
use Rattle.mic_debugger.specs.declared.until.Until.TheVariants as until
use Rattle.mic_debugger.specs.declared.until.Watched.{Watched}

-- ---- breakpoints: at most 64 addresses

-- the address would be the 65th
abbrev pub is_full_for : List ℕ → ℕ → Bool
is_full_for breaks at = length breaks == 64 && not (list_any (λ a. a == at) breaks)

abbrev pub with_break : List ℕ → ℕ → List ℕ
with_break breaks at = if not (list_any (λ a. a == at) breaks) && nat_lt (length breaks) 64 then breaks ++ at ∷ [] else breaks

abbrev pub without_break : List ℕ → ℕ → List ℕ
without_break breaks at = filter (λ a. not (a == at)) breaks

-- ---- what a session has of its own: the breakpoints, and the watched word

-- the watched word, and its value now
abbrev pub watched_now : Option ℕ → List ℕ → Option Watched
watched_now None memory = None
watched_now (Some at) memory = option_map (λ value. record { at = at; value = value }) (slice_get memory at)

abbrev pub breaks_by : List ℕ → Verb → ℕ → List ℕ
breaks_by breaks verbs.Break at = with_break breaks at
breaks_by breaks verbs.Clear at = without_break breaks at
breaks_by breaks _ at = breaks

abbrev pub watched_by : Option ℕ → Verb → ℕ → Option ℕ
watched_by watched verbs.Watch at = Some at
watched_by watched _ at = watched

abbrev pub breaks_after : List ℕ → Result (Option (Command Verb)) CommandError → List ℕ
breaks_after breaks (Ok (Some c)) = breaks_by breaks c.verb c.number
breaks_after breaks (Ok None) = breaks
breaks_after breaks (Err e) = breaks

abbrev pub watched_after : Option ℕ → Result (Option (Command Verb)) CommandError → Option ℕ
watched_after watched (Ok (Some c)) = watched_by watched c.verb c.number
watched_after watched (Ok None) = watched
watched_after watched (Err e) = watched

-- ---- what a line comes to

module _ (end : Option End) (breaks : List ℕ) (watched : Option ℕ) (memory : List ℕ) where
  -- an ended board is clocked no more
  abbrev pub clocking : Until → ℕ → Plan
  clocking u times = if is_some end then plans.Show (shown.Reply replies.Ended) else plans.Clock u times

  abbrev pub plan_by : Verb → ℕ → Plan
  plan_by verbs.Micro n = clocking until.Cycle n
  plan_by verbs.Step n = clocking until.Boundary n
  plan_by verbs.Go n = clocking (until.Cause (watched_now watched memory)) 1
  plan_by verbs.Break n = plans.Show (shown.Reply (if is_full_for breaks n then replies.TooManyBreaks else replies.Done))
  plan_by verbs.Clear n = plans.Show (shown.Reply replies.Done)
  plan_by verbs.Watch n = plans.Show (shown.Reply replies.Done)
  plan_by verbs.Regs n = plans.Show shown.Registers
  plan_by verbs.Stack n = plans.Show shown.Stack
  plan_by verbs.Where n = plans.Show shown.Where
  plan_by verbs.Quit n = plans.Show (shown.Reply replies.Quit)

  abbrev pub plan_of : Result (Option (Command Verb)) CommandError → Plan
  plan_of (Ok None) = plans.Show (shown.Reply replies.Done)
  plan_of (Ok (Some c)) = plan_by c.verb c.number
  plan_of (Err BadCommand) = plans.Show (shown.Reply replies.BadCommand)
  plan_of (Err BadNumber) = plans.Show (shown.Reply replies.BadNumber)

abbrev pub reply_of : Plan → Reply
reply_of (plans.Show (shown.Reply reply)) = reply
reply_of plan = replies.Done

-- ---- what is shown where nothing is clocked

abbrev pub reply_text : Reply → List ℕ
reply_text replies.Done = []
reply_text replies.Quit = []
reply_text replies.BadCommand = codes "? bad command\n"
reply_text replies.BadNumber = codes "? bad number\n"
reply_text replies.TooManyBreaks = codes "? too many breaks\n"
reply_text replies.Ended = codes "? ended\n"

-- what is shown, over this many of these memory words
abbrev pub shown_text : Book → ℕ → Registers → Counts → List ℕ → Shown → List ℕ
shown_text book memory r c words (shown.Reply reply) = reply_text reply
shown_text book memory r c words shown.Registers = state_line r ++ codes "\n"
shown_text book memory r c words shown.Stack = stack_text words memory r.lv r.sp
shown_text book memory r c words shown.Where = where_line book c r.mpc
