-- What the reader's record becomes by a line, or its refusal. Computes, line by line, what sections declare (`SectionsDeclare`), and which line
-- is refused.
use Rattle.std.specs.Prelude.{◌≡◌, ◌↔◌, ℕ, ◌||◌, Bool, true, false, not, List, [], ◌∷◌, ◌++◌, Option, Some, None, Result, Ok, Err, if◌then◌else◌, is_some, length, nat_le, nat_lt}
use Rattle.ijvm_asm.specs.Common.{contents, add_said, Parser, Leads, Step, place_of_name, most_names, ProgramView, Token, read, Mark, Content, LineFault}
use Rattle.ijvm_asm.specs.Common.{Instruction, line_from, LinesReadAsSpelled, LinesRefusedAsFaulty, parameters, made}
use Rattle.source_text.specs.Parsing as parsing
use Rattle.ijvm_tokens.specs.Tokens as tokens
use Rattle.ijvm_line.specs.declared.place.Place.TheVariants as places
use Rattle.ijvm_line.specs.declared.place.Mark.TheVariants as marks
use Rattle.ijvm_asm.specs.declared.error.AsmError.{AsmError}
use Rattle.ijvm_asm.specs.declared.error.AsmError.TheVariants as errors
use Rattle.ijvm_asm.specs.Drafts.{begun, DraftView}
use Rattle.ijvm_asm.specs.ReadingNames.{whole_program}
use Rattle.ijvm_asm.specs.Refusals.{refusals}
use Rattle.ijvm_asm.specs.Said as says
use Rattle.ijvm_asm.specs.Said.{BlankAt, Codes, Declares, Defines, Dotted, Heads, Said, said_at}
use Rattle.ijvm_asm.specs.Source.{empty, Source}

-- ---- units

-- parameters and locals share their names, and are at most 65,534
abbrev pub add_local : ℕ → DraftView → List ℕ → Result DraftView AsmError
add_local k u name = if is_some (place_of_name u.names name) then Err (errors.DuplicateName k)
    else (if nat_le most_names (length u.names) then Err (errors.TooManyNames k)
    else Ok (record u { names = u.names ++ name ∷ [] }))

-- a label names the next instruction
abbrev pub add_label : ℕ → DraftView → Option (List ℕ) → Result DraftView AsmError
add_label k u None = Ok u
add_label k u (Some label) = if is_some (place_of_name u.labels label) then Err (errors.DuplicateName k)
    else Ok (record u { labels = u.labels ++ label ∷ []; label_positions = u.label_positions ++ length u.lines ∷ []; pending = true })

abbrev pub add_instruction : ℕ → DraftView → Option Instruction → DraftView
add_instruction k u None = u
add_instruction k u (Some instruction) = record u { lines = u.lines ++ (record { line = k; instruction = instruction }) ∷ []; pending = false }

-- ---- sections

-- a second section of constants is a bad line, and so is a second main
abbrev pub begin_constants : ℕ → Source → Result Source AsmError
begin_constants k s = if s.seen_constants then Err (errors.BadLine k)
    else Ok (record s { place = places.Constants; section = k; seen_constants = true })

abbrev pub begin_main : ℕ → Source → Result Source AsmError
begin_main k s = if s.seen_main then Err (errors.BadLine k)
    else Ok (record s { place = places.Code; section = k; may_declare = true; seen_main = true; unit = begun None [] })

-- locals are declared at most once, and before the unit's first line of code
abbrev pub begin_locals : ℕ → Source → Result Source AsmError
begin_locals k s = if not s.may_declare then Err (errors.BadLine k)
    else Ok (record s { place = places.Locals; inner = k; may_declare = false })

-- a unit is ended by its own word, and not after a label without an instruction
abbrev pub end_main : ℕ → Source → Result Source AsmError
end_main k s = if is_some s.unit.name || s.unit.pending then Err (errors.BadLine k)
    else Ok (record s { place = places.Outside; unit = begun None []; main = Some s.unit })

abbrev pub end_method : ℕ → Source → Result Source AsmError
end_method k s = if not (is_some s.unit.name) || s.unit.pending then Err (errors.BadLine k)
    else Ok (record s { place = places.Outside; unit = begun None []; units = s.units ++ s.unit ∷ [] })

abbrev pub add_mark : ℕ → Source → Mark → Result Source AsmError
add_mark k s marks.BeginConstants = begin_constants k s
add_mark k s marks.EndConstants = Ok (record s { place = places.Outside })
add_mark k s marks.BeginMain = begin_main k s
add_mark k s marks.EndMain = end_main k s
add_mark k s marks.EndMethod = end_method k s
add_mark k s marks.BeginLocals = begin_locals k s
add_mark k s marks.EndLocals = Ok (record s { place = places.Code })

-- ---- names

-- constants and methods share their names
abbrev pub is_declared : Source → List ℕ → Bool
is_declared s name = is_some (place_of_name s.constants name) || is_some (place_of_name s.methods name)

abbrev pub add_constant : ℕ → Source → List ℕ → ℕ → Result Source AsmError
add_constant k s name value = if is_declared s name then Err (errors.DuplicateName k)
    else Ok (record s { constants = s.constants ++ name ∷ []; values = s.values ++ value ∷ [] })

-- names after those that were seen, unless one comes twice
abbrev pub gather : List (List ℕ) → List (List ℕ) → Option (List (List ℕ))
gather seen [] = Some seen
gather seen (name ∷ names) = if is_some (place_of_name seen name) then None else gather (seen ++ name ∷ []) names

abbrev pub method_by : ℕ → Source → List ℕ → Option (List (List ℕ)) → Result Source AsmError
method_by k s name None = Err (errors.DuplicateName k)
method_by k s name (Some parameters) = if nat_lt most_names (length parameters) then Err (errors.TooManyNames k)
    else Ok (record s { place = places.Code; section = k; may_declare = true; methods = s.methods ++ name ∷ []; unit = begun (Some name) parameters })

abbrev pub add_method : ℕ → Source → List ℕ → List (List ℕ) → Result Source AsmError
add_method k s name parameters = if is_declared s name then Err (errors.DuplicateName k) else method_by k s name (gather [] parameters)

abbrev pub with_unit : (DraftView → Source) → Result DraftView AsmError → Result Source AsmError
with_unit f (Ok u) = Ok (f u)
with_unit f (Err e) = Err e

abbrev pub on_local : ℕ → Source → List ℕ → Result Source AsmError
on_local k s name = with_unit (λ u. record s { unit = u }) (add_local k s.unit name)

abbrev pub add_code : ℕ → Source → Option (List ℕ) → Option Instruction → Result Source AsmError
add_code k s label instruction = with_unit (λ u. record s { unit = add_instruction k u instruction; may_declare = false }) (add_label k s.unit label)

-- ---- lines

-- what line `k` adds
abbrev pub add_line : ℕ → Source → Said → Result Source AsmError
add_line k s (BlankAt place) = Ok s
add_line k s (Dotted mark) = add_mark k s mark
add_line k s (Heads name ps) = add_method k s name ps
add_line k s (Defines name value) = add_constant k s name value
add_line k s (Declares name) = on_local k s name
add_line k s (Codes label instruction) = add_code k s label instruction

-- what line `k` adds, whose tokens have this content
abbrev pub add_content : ℕ → Source → List Token → Content → Result Source AsmError
add_content k s ts content = add_line k s (said_at s.place (parameters ts) content)

-- what tokens say at the place of the next line
abbrev pub said_next : Source → List Token → Result Said LineFault
said_next s ts = made (said_at s.place (parameters ts)) (line_from s.place ts)

abbrev pub parser : Parser Token LineFault Said ProgramView AsmError Source
parser = record {
  tokens = read;
  said = said_next;
  Stands = λ s x. s.place ≡ says.place_of x;
  add = add_line;
  whole = whole_program;
}

abbrev pub add_tokens : ℕ → Source → List Token → Result Source AsmError
add_tokens k s ts = add_said refusals parser k s (said_next s ts)

abbrev pub step : Step Source AsmError
step = parsing.step refusals parser

-- the lines of a text lead to this
abbrev pub IsRead : Source → Type 0
IsRead s = (text : List ℕ) × Leads step 1 empty (contents text) s

-- a line is read as what it spells, as the crates below say by their laws
pub record ReadsLines : Type 0 where
  pub tokens_read : (line : List ℕ) (ts : List Token) → (read line ≡ Some ts) ↔ tokens.SpellsTokens line ts
  pub said : LinesReadAsSpelled
  pub refused : LinesRefusedAsFaulty
