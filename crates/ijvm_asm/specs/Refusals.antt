-- Why a line is refused after others: they are the first lines of some sections, and with this line they are not.
use Rattle.std.specs.Prelude.{◌≡◌, ◌⊎◌, ℕ, ◌+◌, List, [], ◌∷◌, ◌++◌, None, IsSome}
use Rattle.ijvm_asm.specs.Common.{LineRefusals, Token, Place, LineFault}
use Rattle.ijvm_line.specs.declared.place.Mark.TheVariants as marks
use Rattle.ijvm_line.specs.declared.line.LineFault.TheVariants as faults
use Rattle.ijvm_line.specs.Lines as lines
use Rattle.source_text.specs.Places as names
use Rattle.ijvm_asm.specs.declared.error.AsmError.{AsmError}
use Rattle.ijvm_asm.specs.declared.error.AsmError.TheVariants as errors
use Rattle.ijvm_asm.specs.Said.{BlankAt, Codes, Declares, Defines, Dotted, Heads, place_of, Said}
use Rattle.ijvm_asm.specs.Sections.{lines_of, Section}
use Rattle.ijvm_asm.specs.Units.{AreNew}
use Rattle.ijvm_asm.specs.Making.{Declarations, nothing, SectionsDeclare}

-- with further lines these are the lines of sections
pub record IsFront (xs : List Said) : Type 0 where
  pub others : List Said
  pub sections : List Section
  pub declares : Declarations
  pub split : xs ++ others ≡ lines_of sections
  pub made : SectionsDeclare 1 nothing sections declares

-- the line after these stands at this place: it may be blank there
abbrev pub StandsAt : List Said → Place → Type 0
StandsAt xs place = IsFront (xs ++ BlankAt place ∷ [])

-- ---- the names of the open unit

abbrev pub names_following : List (List ℕ) → Said → List (List ℕ)
names_following ns (Heads name ps) = ps
names_following ns (Declares name) = ns ++ name ∷ []
names_following ns (Dotted marks.BeginMain) = []
names_following ns (Dotted marks.EndMain) = []
names_following ns (Dotted marks.EndMethod) = []
names_following ns _ = ns

-- the parameters and locals of the unit that is open after these lines, which has these before them
abbrev pub open_names : List (List ℕ) → List Said → List (List ℕ)
open_names ns [] = ns
open_names ns (x ∷ xs) = open_names (names_following ns x) xs

-- ---- the sections that are open

abbrev pub after_end : List ℕ → List ℕ
after_end [] = []
after_end (line ∷ lines) = lines

-- a line that begins a section opens it, and one that ends a section ends the innermost
abbrev pub opened_by : ℕ → Said → List ℕ → List ℕ
opened_by k (Heads name ps) opened = k ∷ opened
opened_by k (Dotted marks.BeginConstants) opened = k ∷ opened
opened_by k (Dotted marks.BeginMain) opened = k ∷ opened
opened_by k (Dotted marks.BeginLocals) opened = k ∷ opened
opened_by k (Dotted marks.EndConstants) opened = after_end opened
opened_by k (Dotted marks.EndMain) opened = after_end opened
opened_by k (Dotted marks.EndMethod) opened = after_end opened
opened_by k (Dotted marks.EndLocals) opened = after_end opened
opened_by k _ opened = opened

-- the lines that began what is open after these lines, the innermost first; the first of these is line `k`
abbrev pub open_lines : ℕ → List ℕ → List Said → List ℕ
open_lines k opened [] = opened
open_lines k opened (x ∷ xs) = open_lines (k + 1) (opened_by k x opened) xs

-- line `k` began the innermost section that these lines leave open
abbrev pub IsInnermost : List Said → ℕ → Type 0
IsInnermost xs k = (outer : List ℕ) × (open_lines 1 [] xs ≡ k ∷ outer)

-- ---- why a line does not fit

-- why line `k` does not fit after these lines: a dotted word is a bad line; what declares a name declares it a second time, or the
-- unit has too many
abbrev pub IsReason : ℕ → List Said → Said → AsmError → Type 0
IsReason k before (BlankAt place) e = ⊥
IsReason k before (Dotted mark) e = e ≡ errors.BadLine k
IsReason k before (Heads name ps) e = ((e ≡ errors.DuplicateName k) × ((IsFront (before ++ Heads name [] ∷ []) → ⊥) ⊎ (AreNew [] ps → ⊥)))
    ⊎ ((e ≡ errors.TooManyNames k) × IsFront (before ++ Heads name [] ∷ []) × AreNew [] ps)
IsReason k before (Defines name value) e = e ≡ errors.DuplicateName k
IsReason k before (Declares name) e = ((e ≡ errors.DuplicateName k) × IsSome (names.place_of_name (open_names [] before) name))
    ⊎ ((e ≡ errors.TooManyNames k) × (names.place_of_name (open_names [] before) name ≡ None))
IsReason k before (Codes label instruction) e = e ≡ errors.DuplicateName k

-- what line `k` says at its place does not fit after these lines, for this reason
pub record IsMisfit (k : ℕ) (before : List Said) (x : Said) (e : AsmError) : Type 0 where
  pub stands : StandsAt before (place_of x)
  pub misfit : IsFront (before ++ x ∷ []) → ⊥
  pub reason : IsReason k before x e

-- ---- the refusals of a line for itself

abbrev pub at_line : ℕ → LineFault → AsmError
at_line k faults.BadLine = errors.BadLine k
at_line k faults.BadNumber = errors.BadNumber k
at_line k faults.OutOfRange = errors.OutOfRange k

abbrev pub refusals : LineRefusals LineFault AsmError
refusals = record { bad_token = errors.BadToken; at_line = at_line }

-- the tokens have this fault at the place after these lines
abbrev pub HasFault : List Said → List Token → LineFault → Type 0
HasFault before ts fault = (place : Place) × StandsAt before place × lines.IsRefused place ts fault
