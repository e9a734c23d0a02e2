-- The true answer to a question about a word.
use Rattle.std.specs.Prelude.{◌≡◌, ◌==◌, ◌/◌, nat_lt, ℕ, Bool, List, length}
use Rattle.mic1_cycles.specs.Common.{All, console_at, STACK_SIDE, Test, flag, Environment}
use Rattle.micro_word.specs.declared.statement.Test.TheVariants as tests
use Rattle.mic1_cycles.specs.declared.question.Answer.{Answer}
use Rattle.mic1_cycles.specs.declared.question.Question.{Question}
use Rattle.mic1_cycles.specs.declared.question.Question.TheVariants as questions

abbrev pub truth : Environment → Question → ℕ → Bool
truth e questions.IsNegative x = flag tests.N x
truth e questions.IsZero x = flag tests.Z x
truth e questions.IsInMemory x = nat_lt x (length e.start.words)
truth e questions.IsConsole x = x == console_at
truth e questions.IsStackSide x = nat_lt x STACK_SIDE
truth e questions.IsFetchable x = nat_lt (x / 4) (length e.start.words)

-- the question that a branch asks of the ALU's result
abbrev pub question_on : Test → Question
question_on tests.N = questions.IsNegative
question_on tests.Z = questions.IsZero

-- all these answers are true
abbrev pub AreAnswered : Environment → List Answer → Type 0
AreAnswered e answers = All (λ a. truth e a.question (e.word a.number) ≡ a.is) answers
