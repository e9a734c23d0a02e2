-- Which program a text spells, and which refusal a text has.
use Rattle.std.specs.Prelude.{◌≡◌, ◌⊎◌, ◌+◌, ◌≤◌, ◌<◌, ℕ, Bool, true, false, not, ◌&&◌, List, [], ◌∷◌, ◌++◌, Option, Some, None, IsSome, length, slice_get, option_map, option_to_list, codes, Result, Err}
use Rattle.mal_parser.specs.Common.{cons_option, list_all, list_any, Machine, Grammar, LineRefusals, Token, mal, Content, LineFault, Next}
use Rattle.source_text.specs.Text as text
use Rattle.mal_line.specs.declared.content.Content.TheVariants as said
use Rattle.mal_line.specs.declared.line.LineFault.TheVariants as faults
use Rattle.mal_line.specs.declared.next.Next.TheVariants as nexts
use Rattle.mal_line.specs.Lines as lines
use Rattle.mal_parser.specs.declared.error.MalError.{MalError}
use Rattle.mal_parser.specs.declared.error.MalError.TheVariants as errors
use Rattle.mal_parser.specs.declared.source.Draft.{Draft}
use Rattle.mal_parser.specs.declared.source.Fix.{Fix}
use Rattle.mal_parser.specs.declared.statement.Statement.{Statement}
use Rattle.mal_parser.specs.Labels.{address_of, AreDistinct, fix_labels, has_fix, has_label, has_name, labels_of}
use Rattle.mal_parser.specs.Program.{IsMalProgram, label_at, MalView}

-- ---- what the lines say

-- the statements, in order, of lines that are counted from this one on
abbrev pub statements_from : ℕ → List Content → List Draft
statements_from k [] = []
statements_from k (said.Statement label parts ∷ cs) = (record { label = label; line = k; parts = parts }) ∷ statements_from (k + 1) cs
statements_from k (_ ∷ cs) = statements_from (k + 1) cs

-- the `.label` lines
abbrev pub fixes_from : ℕ → List Content → List Fix
fixes_from k [] = []
fixes_from k (said.Fix label number ∷ cs) = cons_option
    (option_map (λ address. record { label = label; line = k; address = address }) (address_of number))
    (fixes_from (k + 1) cs)
fixes_from k (_ ∷ cs) = fixes_from (k + 1) cs

-- the `.default` lines
abbrev pub fallbacks_from : ℕ → List Content → List Draft
fallbacks_from k [] = []
fallbacks_from k (said.Fallback parts ∷ cs) = (record { label = None; line = k; parts = parts }) ∷ fallbacks_from (k + 1) cs
fallbacks_from k (_ ∷ cs) = fallbacks_from (k + 1) cs

abbrev pub statements : List Content → List Draft
statements = statements_from 1

abbrev pub fixes : List Content → List Fix
fixes = fixes_from 1

abbrev pub fallbacks : List Content → List Draft
fallbacks = fallbacks_from 1

-- each `.label` line has an address, from 0 to 511
abbrev pub AreAddresses : List Content → Type 0
AreAddresses [] = Unit {0}
AreAddresses (said.Fix label number ∷ cs) = IsSome (address_of number) × AreAddresses cs
AreAddresses (_ ∷ cs) = AreAddresses cs

-- none of the lines is refused for what the others say
pub record IsFine (cs : List Content) : Type 0 where
  pub labels : AreDistinct (labels_of (statements cs))
  pub few : length (statements cs) ≤ 512
  pub addresses : AreAddresses cs
  pub fixed : AreDistinct (fix_labels (fixes cs))
  pub one_default : length (fallbacks cs) ≤ 1

-- ---- the program of what the lines say

-- each name stands for the number of the statement with that label
abbrev pub IsResolvedNext : List Statement → Next (List ℕ) → Next ℕ → Type 0
IsResolvedNext ss nexts.Following nexts.Following = Unit {0}
IsResolvedNext ss (nexts.Goto label) (nexts.Goto to) = label_at ss to ≡ Some label
IsResolvedNext ss (nexts.Dispatch high) (nexts.Dispatch other) = high ≡ other
IsResolvedNext ss (nexts.Branch test high low) (nexts.Branch other to_high to_low) = (test ≡ other) × (label_at ss to_high ≡ Some high)
    × (label_at ss to_low ≡ Some low)
IsResolvedNext ss _ _ = ⊥

-- the address that a `.label` line gives a statement with this label, where one does
abbrev pub IsFixedBy : List Fix → Option (List ℕ) → Option ℕ → Type 0
IsFixedBy fs label (Some address) = (i : ℕ) × (f : Fix) × (slice_get fs i ≡ Some f) × (label ≡ Some f.label) × (f.address ≡ address)
IsFixedBy fs label None = (i : ℕ) (f : Fix) → slice_get fs i ≡ Some f → label ≡ Some f.label → ⊥

-- the statement is what its line says, with its targets as numbers
pub record IsResolved (ss : List Statement) (fs : List Fix) (d : Draft) (s : Statement) : Type 0 where
  pub label : s.label ≡ d.label
  pub line : s.line ≡ d.line
  pub part : s.part ≡ d.parts.part
  pub next : IsResolvedNext ss d.parts.next s.next
  pub fixed : IsFixedBy fs d.label s.fixed

abbrev pub AreResolved : List Statement → List Fix → List Draft → List Statement → Type 0
AreResolved ss fs [] [] = Unit {0}
AreResolved ss fs (d ∷ ds) (s ∷ rest) = IsResolved ss fs d s × AreResolved ss fs ds rest
AreResolved ss fs _ _ = ⊥

pub record IsProgramOf (machine : Machine) (cs : List Content) (p : MalView) : Type 0 where
  pub machine_is : p.machine ≡ machine
  pub statements_are : AreResolved p.statements (fixes cs) (statements cs) p.statements
  pub fallback_is : AreResolved p.statements (fixes cs) (fallbacks cs) (option_to_list p.fallback)
  pub fixes_known : list_all (λ f. has_label (statements cs) f.label) (fixes cs) ≡ true
  pub whole : IsMalProgram p

-- ---- refusals

-- after lines that say this, line `k` may not say that: `.label` with an address above 511 or a second time, a second `.default`, a statement with
-- the label of an earlier one, or the 513th statement
abbrev pub IsMisfit : ℕ → List Content → Content → MalError → Type 0
IsMisfit k cs said.Nothing e = ⊥
IsMisfit k cs (said.Fix label number) e = (e ≡ errors.BadFix k) × ((address_of number ≡ None) ⊎ (has_fix (fixes cs) label ≡ true))
IsMisfit k cs (said.Fallback parts) e = (e ≡ errors.BadFix k) × (0 < length (fallbacks cs))
IsMisfit k cs (said.Statement label parts) e = ((e ≡ errors.DuplicateLabel k) × (has_name (statements cs) label ≡ true))
    ⊎ ((e ≡ errors.TooMany k) × (has_name (statements cs) label ≡ false) × (512 ≤ length (statements cs)))

abbrev pub at_line : ℕ → LineFault → MalError
at_line k faults.BadStatement = errors.BadStatement k
at_line k faults.WrongMachine = errors.WrongMachine k
at_line k faults.NoSuchOperation = errors.NoSuchOperation k

abbrev pub refusals : LineRefusals LineFault MalError
refusals = record { bad_token = errors.BadToken; at_line = at_line }

-- of lines that are counted from `k` on, line `n` says what passes the test with what the lines after it say
pub record IsAt (test : Content → List Content → Bool) (k : ℕ) (cs : List Content) (n : ℕ) : Type 0 where
  pub front : List Content
  pub content : Content
  pub following : List Content
  pub split : cs ≡ front ++ content ∷ following
  pub number : n ≡ k + length front
  pub passes : test content following ≡ true

-- the first line of which this holds
abbrev pub IsFirst : (ℕ → Type 0) → ℕ → Type 0
IsFirst P n = P n × ((other : ℕ) → P other → n ≤ other)

abbrev pub Never : (ℕ → Type 0) → Type 0
Never P = (n : ℕ) → P n → ⊥

abbrev pub targets_of : Next (List ℕ) → List (List ℕ)
targets_of nexts.Following = []
targets_of (nexts.Goto label) = label ∷ []
targets_of (nexts.Dispatch high) = []
targets_of (nexts.Branch test high low) = high ∷ low ∷ []

-- the labels that a line names, besides its own
abbrev pub labels_named : Content → List (List ℕ)
labels_named said.Nothing = []
labels_named (said.Fix label number) = label ∷ []
labels_named (said.Fallback parts) = targets_of parts.next
labels_named (said.Statement label parts) = targets_of parts.next

abbrev pub names_unknown : List Draft → Content → List Content → Bool
names_unknown ds c following = list_any (λ label. not (has_label ds label)) (labels_named c)

-- the line names a label that no statement has
abbrev pub NamesUnknown : List Content → ℕ → Type 0
NamesUnknown cs = IsAt (names_unknown (statements cs)) 1 cs

-- the statement has no goto
abbrev pub falls : Next (List ℕ) → Bool
falls nexts.Following = true
falls _ = false

abbrev pub is_statement : Content → Bool
is_statement (said.Statement label parts) = true
is_statement _ = false

abbrev pub falls_off : Content → List Content → Bool
falls_off (said.Fallback parts) following = falls parts.next
falls_off (said.Statement label parts) following = falls parts.next && not (list_any is_statement following)
falls_off _ following = false

-- the line is the last statement or `.default`, and has no goto
abbrev pub FallsOff : List Content → ℕ → Type 0
FallsOff cs = IsAt falls_off 1 cs

-- lines that say this are refused together
abbrev pub AreRefused : List Content → MalError → Type 0
AreRefused cs (errors.UnknownLabel n) = IsFirst (NamesUnknown cs) n
AreRefused cs (errors.LastFalls n) = Never (NamesUnknown cs) × IsFirst (FallsOff cs) n
AreRefused cs errors.NoEntry = Never (NamesUnknown cs) × Never (FallsOff cs) × (has_label (statements cs) (codes "Main1") ≡ false)
AreRefused cs _ = ⊥

-- ---- the language

abbrev pub grammar : Machine → Grammar Token LineFault Content MalView MalError
grammar machine = record {
  table = mal;
  refusals = refusals;
  Says = lines.SpellsLine machine;
  HasFault = λ _ ts fault. lines.IsRefused machine ts fault;
  IsMisfit = IsMisfit;
  Fit = IsFine;
  IsProgramOf = IsProgramOf machine;
  AreRefused = AreRefused;
}

-- a text spells a program where its lines, one by one, spell the statements, and each name stands for the number of the statement with that label
abbrev pub SpellsProgram : Machine → List ℕ → MalView → Type 0
SpellsProgram machine = text.SpellsProgram (grammar machine)

-- the first refusal of a text
abbrev pub IsRefused : Machine → List ℕ → MalError → Type 0
IsRefused machine = text.IsRefused (grammar machine)

-- the refusal is out of memory, which may happen at any time
abbrev pub is_memory : MalError → Bool
is_memory errors.OutOfMemory = true
is_memory _ = false

-- this is the result, unless memory ran out
abbrev pub Answers : {A : Type 0} → Result A MalError → Result A MalError → Type 0
Answers result answer = (result ≡ answer) ⊎ (result ≡ Err errors.OutOfMemory)
