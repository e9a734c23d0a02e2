-- How a line is read: the form that its tokens have at its place, and what that says. Computes what tokens spell, or are refused for (`Lines`),
-- by their forms (`Forms`), instructions (`Statements`), dotted words (`Places`) and lists (`Parameters`).
use Rattle.std.specs.Prelude.{ℕ, ◌&&◌, Bool, true, false, List, [], ◌∷◌, Option, Some, None, Result, Err, option_map, option_and_then, if◌then◌else◌, Ok, ◌≡◌, ◌↔◌}
use Rattle.ijvm_instr.specs.declared.instr.Instr.{Instr}
use Rattle.ijvm_program.specs.declared.line.Jump.{Jump}
use Rattle.ijvm_tokens.specs.declared.sign.Sign.{Sign}
use Rattle.ijvm_tokens.specs.declared.sign.Sign.TheVariants as signs
use Rattle.ijvm_tokens.specs.declared.token.Token.{Token}
use Rattle.ijvm_tokens.specs.declared.token.Token.TheVariants as tokens
use Rattle.ijvm_line.specs.declared.mnemonic.Access.{Access}
use Rattle.ijvm_line.specs.declared.mnemonic.Kind.{Kind}
use Rattle.ijvm_line.specs.declared.mnemonic.Kind.TheVariants as kinds
use Rattle.ijvm_line.specs.declared.place.Place.{Place}
use Rattle.ijvm_line.specs.declared.place.Place.TheVariants as places
use Rattle.ijvm_line.specs.declared.place.Mark.{Mark}
use Rattle.ijvm_line.specs.declared.place.Mark.TheVariants as marks
use Rattle.ijvm_line.specs.declared.statement.Operand.{Operand}
use Rattle.ijvm_line.specs.declared.statement.Operand.TheVariants as operands
use Rattle.ijvm_line.specs.declared.statement.Statement.{Statement}
use Rattle.ijvm_line.specs.declared.statement.Statement.TheVariants as statements
use Rattle.ijvm_line.specs.declared.form.Form.{Form}
use Rattle.ijvm_line.specs.declared.form.Form.TheVariants as forms
use Rattle.ijvm_line.specs.declared.content.Content.{Content}
use Rattle.ijvm_line.specs.declared.line.LineFault.{LineFault}
use Rattle.ijvm_line.specs.declared.line.LineFault.TheVariants as faults
use Rattle.ijvm_line.specs.Mnemonics.{find_kind}
use Rattle.ijvm_line.specs.Lines.{content_of, IsRefused, SpellsLine}

-- ---- a list of parameters

abbrev pub is_close : List Token → Bool
is_close (tokens.Sign signs.Close ∷ []) = true
is_close _ = false

abbrev pub begins_comma : List Token → Bool
begins_comma (tokens.Sign signs.Comma ∷ tokens.Name p ∷ rest) = true
begins_comma _ = false

abbrev pub is_more : List Token → Bool
is_more (tokens.Sign signs.Comma ∷ tokens.Name p ∷ rest) = is_more rest
is_more rest = is_close rest

abbrev pub is_list : List Token → Bool
is_list (tokens.Name p ∷ rest) = is_more rest
is_list rest = is_close rest

-- ---- a dotted word that stands alone

-- what a sign that stands alone at a place says
abbrev pub mark_of : Place → Sign → Option Mark
mark_of places.Outside signs.Constant = Some marks.BeginConstants
mark_of places.Outside signs.Main = Some marks.BeginMain
mark_of places.Constants signs.EndConstant = Some marks.EndConstants
mark_of places.Locals signs.EndVar = Some marks.EndLocals
mark_of places.Code signs.EndMain = Some marks.EndMain
mark_of places.Code signs.EndMethod = Some marks.EndMethod
mark_of places.Code signs.Var = Some marks.BeginLocals
mark_of _ _ = None

-- ---- instructions

abbrev pub kind_at : Token → Option Kind
kind_at (tokens.Name text) = find_kind text
kind_at _ = None

abbrev pub operand_of : List Token → Option Operand
operand_of (tokens.Name name ∷ []) = Some (operands.Name name)
operand_of (tokens.Number value ∷ []) = Some (operands.Number value)
operand_of _ = None

abbrev pub alone : Instr → List Token → Option Statement
alone instr [] = Some (statements.Plain instr)
alone instr _ = None

abbrev pub push : List Token → Option Statement
push (tokens.Number value ∷ []) = Some (statements.Push value)
push _ = None

abbrev pub constant : List Token → Option Statement
constant ts = option_map (λ o. statements.Constant o) (operand_of ts)

abbrev pub local : Access → Bool → List Token → Option Statement
local access wide ts = option_map (λ o. statements.Local access wide o) (operand_of ts)

abbrev pub increment : Bool → List Token → Option Statement
increment wide (tokens.Name name ∷ tokens.Number by ∷ []) = Some (statements.Increment wide (operands.Name name) by)
increment wide (tokens.Number index ∷ tokens.Number by ∷ []) = Some (statements.Increment wide (operands.Number index) by)
increment wide _ = None

abbrev pub jump_to : Jump → List Token → Option Statement
jump_to jump (tokens.Name label ∷ []) = Some (statements.Jump jump label)
jump_to jump _ = None

abbrev pub call : List Token → Option Statement
call (tokens.Name method ∷ []) = Some (statements.Call method)
call _ = None

abbrev pub wide_by : Option Kind → List Token → Option Statement
wide_by (Some (kinds.Local access)) ts = local access true ts
wide_by (Some kinds.Increment) ts = increment true ts
wide_by _ ts = None

abbrev pub wide : List Token → Option Statement
wide [] = None
wide (t ∷ ts) = wide_by (kind_at t) ts

abbrev pub statement_by : Kind → List Token → Option Statement
statement_by (kinds.Alone instr) ts = alone instr ts
statement_by kinds.Push ts = push ts
statement_by kinds.Constant ts = constant ts
statement_by (kinds.Local access) ts = local access false ts
statement_by kinds.Increment ts = increment false ts
statement_by (kinds.Jump jump) ts = jump_to jump ts
statement_by kinds.Call ts = call ts
statement_by kinds.Wide ts = wide ts

abbrev pub statement_of : List Token → Option Statement
statement_of [] = None
statement_of (t ∷ ts) = option_and_then (λ kind. statement_by kind ts) (kind_at t)

-- ---- the form of a line

abbrev pub is_open : Token → Bool
is_open (tokens.Sign signs.Open) = true
is_open _ = false

abbrev pub method_of : List Token → Option Form
method_of (tokens.Name name ∷ second ∷ list) = if is_open second && is_list list then Some (forms.Method name) else None
method_of _ = None

abbrev pub mark_at : Place → Sign → List Token → Option Form
mark_at place sign [] = option_map (λ mark. forms.Mark mark) (mark_of place sign)
mark_at place sign _ = None

abbrev pub signed : Place → Sign → List Token → Option Form
signed places.Outside signs.Method rest = method_of rest
signed place sign rest = mark_at place sign rest

abbrev pub constant_of : List ℕ → List Token → Option Form
constant_of name (tokens.Number value ∷ []) = Some (forms.Constant name value)
constant_of name _ = None

abbrev pub local_of : List ℕ → List Token → Option Form
local_of name [] = Some (forms.Local name)
local_of name _ = None

abbrev pub with_label : List ℕ → Option Statement → Option Form
with_label label statement = option_map (λ s. forms.Code (Some label) (Some s)) statement

abbrev pub labelled : List ℕ → List Token → Option Form
labelled label [] = Some (forms.Code (Some label) None)
labelled label (t ∷ ts) = with_label label (statement_of (t ∷ ts))

abbrev pub unlabelled : List Token → Option Form
unlabelled ts = option_map (λ s. forms.Code None (Some s)) (statement_of ts)

abbrev pub code : List ℕ → List Token → Option Form
code name (t ∷ tokens.Sign signs.Colon ∷ rest) = labelled name rest
code name [] = None
code name ts = unlabelled ts

abbrev pub named : Place → List ℕ → List Token → List Token → Option Form
named places.Outside name ts rest = None
named places.Constants name ts rest = constant_of name rest
named places.Locals name ts rest = local_of name rest
named places.Code name ts rest = code name ts

abbrev pub form_of : Place → List Token → Option Form
form_of place [] = Some forms.Nothing
form_of place (tokens.Sign sign ∷ rest) = signed place sign rest
form_of place (tokens.Name name ∷ rest) = named place name (tokens.Name name ∷ rest) rest
form_of place (tokens.Number value ∷ rest) = None

-- ---- what a line says

abbrev pub said_by : Option Form → Result Content LineFault
said_by None = Err faults.BadLine
said_by (Some form) = content_of form

unfoldable pub line_from : Place → List Token → Result Content LineFault
line_from place ts = said_by (form_of place ts)

-- what is read from a line is what it spells at its place
abbrev pub LinesReadAsSpelled : Type 0
LinesReadAsSpelled = (place : Place) (ts : List Token) (content : Content) → (line_from place ts ≡ Ok content) ↔ SpellsLine place ts content

-- a line is refused by the first refusal that it has
abbrev pub LinesRefusedAsFaulty : Type 0
LinesRefusedAsFaulty = (place : Place) (ts : List Token) (fault : LineFault) → (line_from place ts ≡ Err fault) ↔ IsRefused place ts fault
