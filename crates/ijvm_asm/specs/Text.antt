-- Which program a text spells, and which refusal it has.
use Rattle.std.specs.Prelude.{◌≡◌, ℕ, List, None}
use Rattle.source_text.specs.Text as text
use Rattle.ijvm_asm.specs.Common.{Grammar, ProgramView, Token, ijvm, LineFault}
use Rattle.ijvm_asm.specs.declared.error.AsmError.{AsmError}
use Rattle.ijvm_asm.specs.declared.error.AsmError.TheVariants as errors
use Rattle.ijvm_asm.specs.Said.{Said, Says}
use Rattle.ijvm_asm.specs.Sections.{lines_of, Section}
use Rattle.ijvm_asm.specs.Making.{Declarations, nothing, SectionsDeclare}
use Rattle.ijvm_asm.specs.Names as names
use Rattle.ijvm_asm.specs.Names.{IsLowest, NamesUnknown}
use Rattle.ijvm_asm.specs.Refusals.{HasFault, IsFront, IsInnermost, IsMisfit, refusals}

-- the lines are those of sections, which declare this
pub record IsSource (lines : List Said) (declares : Declarations) : Type 0 where
  pub sections : List Section
  pub are : lines ≡ lines_of sections
  pub made : SectionsDeclare 1 nothing sections declares

-- the lines are those of sections, and their names stand for the program's positions
abbrev pub IsProgramOf : List Said → ProgramView → Type 0
IsProgramOf lines p = (source : Declarations) × IsSource lines source × names.IsProgramOf source p

-- a section is not ended, and line `k` began the innermost one; or line `k` is the lowest that names what is not declared; or there is no main
abbrev pub AreRefused : List Said → AsmError → Type 0
AreRefused lines (errors.MissingEnd k) = IsInnermost lines k
AreRefused lines (errors.UnknownName k) = (source : Declarations) × IsSource lines source × IsLowest (NamesUnknown source) k
AreRefused lines errors.NoMain = (source : Declarations) × IsSource lines source × ((k : ℕ) → NamesUnknown source k → ⊥) × (source.main ≡ None)
AreRefused lines _ = ⊥

abbrev pub grammar : Grammar Token LineFault Said ProgramView AsmError
grammar = record {
  table = ijvm;
  refusals = refusals;
  Says = Says;
  HasFault = HasFault;
  IsMisfit = IsMisfit;
  Fit = IsFront;
  IsProgramOf = IsProgramOf;
  AreRefused = AreRefused;
}

abbrev pub SpellsProgram : List ℕ → ProgramView → Type 0
SpellsProgram = text.SpellsProgram grammar

-- the first refusal of a text
abbrev pub IsRefused : List ℕ → AsmError → Type 0
IsRefused = text.IsRefused grammar
