-- Programs of the microassembly language, and what holds of each.
use Rattle.std.specs.Prelude.{◌≡◌, ℕ, ◌+◌, ◌<◌, ◌≤◌, List, length, slice_get, codes, option_and_then, Option, Some, None, IsTrue, IsSome, IfSome}
use Rattle.mal_parser.specs.Common.{Machine, is_part, IsLabelText, Next, EachTarget}
use Rattle.mal_line.specs.declared.next.Next.TheVariants as nexts
use Rattle.mal_parser.specs.declared.statement.Statement.{Statement}

-- what contracts see of a program
pub record MalView : Type 0 where
  pub machine : Machine
  pub statements : List Statement
  pub fallback : Option Statement
  pub entry : ℕ

abbrev pub program_of : Machine → List Statement → Option Statement → ℕ → MalView
program_of machine statements fallback entry = record { machine = machine; statements = statements; fallback = fallback; entry = entry }

-- the label of the statement with this number
abbrev pub label_at : List Statement → ℕ → Option (List ℕ)
label_at statements s = option_and_then (λ t. t.label) (slice_get statements s)

abbrev pub IsLabelled : List Statement → ℕ → Type 0
IsLabelled statements s = IsSome (label_at statements s)

-- the targets that are named are labelled statements
abbrev pub HasTargets : List Statement → Next ℕ → Type 0
HasTargets statements next = EachTarget (IsLabelled statements) next

-- the statement with this number may stand in the program
pub record IsStatement (program : MalView) (number : ℕ) (s : Statement) : Type 0 where
  pub part : IsTrue (is_part program.machine s.part)
  pub targets : HasTargets program.statements s.next
  pub followed : s.next ≡ nexts.Following → number + 1 < length program.statements
  pub label : IfSome s.label IsLabelText
  pub fixed : IfSome s.fixed (λ address. (address < 512) × IsSome s.label)

-- what unused words hold
pub record IsFallback (program : MalView) (s : Statement) : Type 0 where
  pub part : IsTrue (is_part program.machine s.part)
  pub targets : HasTargets program.statements s.next
  pub leads : s.next ≡ nexts.Following → ⊥
  pub label : s.label ≡ None
  pub fixed : s.fixed ≡ None

-- 1 to 512 statements with different labels, each of which may stand there, and an entry labelled Main1
pub record IsMalProgram (program : MalView) : Type 0 where
  pub some : 0 < length program.statements
  pub few : length program.statements ≤ 512
  pub statements : (number : ℕ) (s : Statement) → slice_get program.statements number ≡ Some s → IsStatement program number s
  pub labels : (s t : ℕ) (name : List ℕ) → label_at program.statements s ≡ Some name → label_at program.statements t ≡ Some name → s ≡ t
  pub fallback : IfSome program.fallback (IsFallback program)
  pub entry : label_at program.statements program.entry ≡ Some (codes "Main1")
