-- The words that begin an instruction's line, and which operands follow each.
use Rattle.std.specs.Prelude.{◌≡◌, ◌⊎◌, ℕ, List, Option, Some, None, option_and_then, codes, find, if◌then◌else◌}
use Rattle.std.specs.Str.{str_eq_ignore_ascii_case, str_to_ascii_lowercase}
use Rattle.ijvm_instr.specs.declared.instr.Instr.{Instr}
use Rattle.ijvm_instr.specs.declared.instr.Instr.TheVariants as instrs
use Rattle.ijvm_instr.specs.declared.instr.TheConstants.{INSTRUCTIONS}
use Rattle.ijvm_instr.specs.Prelude.{mnemonic_of}
use Rattle.ijvm_program.specs.declared.line.Jump.TheVariants as jumps
use Rattle.ijvm_line.specs.declared.mnemonic.Access.TheVariants as accesses
use Rattle.ijvm_line.specs.declared.mnemonic.Kind.{Kind}
use Rattle.ijvm_line.specs.declared.mnemonic.Kind.TheVariants as kinds

-- which operands follow an instruction's mnemonic; a wide form begins with WIDE
abbrev pub kind_of : Instr → Option Kind
kind_of (instrs.Bipush b) = Some kinds.Push
kind_of (instrs.LdcW k) = Some kinds.Constant
kind_of (instrs.Iload k) = Some (kinds.Local accesses.Load)
kind_of (instrs.Istore k) = Some (kinds.Local accesses.Store)
kind_of (instrs.Iinc k b) = Some kinds.Increment
kind_of (instrs.Ifeq o) = Some (kinds.Jump jumps.Ifeq)
kind_of (instrs.Iflt o) = Some (kinds.Jump jumps.Iflt)
kind_of (instrs.IfIcmpeq o) = Some (kinds.Jump jumps.IfIcmpeq)
kind_of (instrs.Goto o) = Some (kinds.Jump jumps.Goto)
kind_of (instrs.Invokevirtual k) = Some kinds.Call
kind_of (instrs.WideIload k) = None
kind_of (instrs.WideIstore k) = None
kind_of (instrs.WideIinc k n) = None
kind_of alone = Some (kinds.Alone alone)

-- the text is the word, in letters of any case
abbrev pub IsSpelled : List ℕ → List ℕ → Type 0
IsSpelled word text = str_to_ascii_lowercase word ≡ str_to_ascii_lowercase text

-- the text is a word of this kind: WIDE, or an instruction's mnemonic
abbrev pub IsOfKind : List ℕ → Kind → Type 0
IsOfKind text kind = (IsSpelled (codes "WIDE") text × (kind ≡ kinds.Wide)) ⊎ ((i : Instr) × IsSpelled (mnemonic_of i) text × (kind_of i ≡ Some kind))

-- the first of the instructions whose mnemonic the text is
abbrev pub spelled_in : List Instr → List ℕ → Option Instr
spelled_in table text = find (λ i. str_eq_ignore_ascii_case (mnemonic_of i) text) table

-- the kind of a word
abbrev pub find_kind : List ℕ → Option Kind
find_kind text =
    if str_eq_ignore_ascii_case (codes "WIDE") text then Some kinds.Wide
    else option_and_then kind_of (spelled_in INSTRUCTIONS text)
