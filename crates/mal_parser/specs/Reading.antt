-- Computes which program a text spells, or its first refusal (`SpellsProgram` and `IsRefused` of `Text`): its lines one after the other, then its labels.
use Rattle.std.specs.Prelude.{◌≡◌, ◌<◌, ◌≤◌, ◌↔◌, ℕ, ◌-◌, ◌&&◌, Bool, true, not, List, [], ◌∷◌, ◌++◌, Option, Some, None, Result, Ok, Err, if◌then◌else◌, nat_le, min, length, map, find, slice_get, is_some, option_map, option_and_then, unwrap_or, codes, All, IsTrue, IfSome, ⊤}
use Rattle.mal_parser.specs.Common.{place_of, bytes_eq, Machine, add_said, Parser, Step, is_part, Token, read, IsLabelText, Content, Parts, LineFault, Next}
use Rattle.mal_parser.specs.Common.{HasPart, line_from, LinesReadAsSpelled, LinesRefusedAsFaulty, by_targets}
use Rattle.source_text.specs.Parsing as parsing
use Rattle.mal_tokens.specs.Tokens as tokens
use Rattle.mal_line.specs.declared.content.Content.TheVariants as contents
use Rattle.mal_line.specs.declared.next.Next.TheVariants as nexts
use Rattle.mal_line.specs.Lines as lines
use Rattle.mal_parser.specs.declared.error.MalError.{MalError}
use Rattle.mal_parser.specs.declared.error.MalError.TheVariants as errors
use Rattle.mal_parser.specs.declared.source.Draft.{Draft}
use Rattle.mal_parser.specs.declared.source.Fix.{Fix}
use Rattle.mal_parser.specs.declared.statement.Statement.{Statement}
use Rattle.mal_parser.specs.Labels.{address_of, AreDistinct, has_fix, has_label, has_name, labels_of, own_label}
use Rattle.mal_parser.specs.Program.{MalView}
use Rattle.mal_parser.specs.Text.{fallbacks, falls, fixes, refusals, statements}

-- a line is read as what it spells, as the laws of the crates below say
pub record ReadsLines : Type 0 where
  pub tokens_read : (line : List ℕ) (ts : List Token) → (read line ≡ Some ts) ↔ tokens.SpellsTokens line ts
  pub said : LinesReadAsSpelled
  pub refused : LinesRefusedAsFaulty
  pub stands : (machine : Machine) (ts : List Token) (content : Content) → lines.SpellsLine machine ts content → HasPart machine content

-- ---- computes what the lines say together, or which line is refused

pub record Sketch : Type 0 where
  pub machine : Machine
  pub statements : List Draft
  pub fixes : List Fix
  pub fallback : Option Draft

abbrev pub empty : Machine → Sketch
empty machine = record { machine = machine; statements = []; fixes = []; fallback = None }

abbrev pub add_fix : ℕ → Sketch → List ℕ → Option ℕ → Result Sketch MalError
add_fix k s label None = Err (errors.BadFix k)
add_fix k s label (Some address) = if has_fix s.fixes label then Err (errors.BadFix k)
    else Ok (record s { fixes = s.fixes ++ (record { label = label; line = k; address = address }) ∷ [] })

abbrev pub add_fallback : ℕ → Sketch → Parts → Result Sketch MalError
add_fallback k s parts = if is_some s.fallback then Err (errors.BadFix k)
    else Ok (record s { fallback = Some (record { label = None; line = k; parts = parts }) })

abbrev pub add_statement : ℕ → Sketch → Option (List ℕ) → Parts → Result Sketch MalError
add_statement k s label parts = if has_name s.statements label then Err (errors.DuplicateLabel k)
    else (if nat_le 512 (length s.statements) then Err (errors.TooMany k)
    else Ok (record s { statements = s.statements ++ (record { label = label; line = k; parts = parts }) ∷ [] }))

-- what line `k` adds
abbrev pub add_content : ℕ → Sketch → Content → Result Sketch MalError
add_content k s contents.Nothing = Ok s
add_content k s (contents.Fix label number) = add_fix k s label (address_of number)
add_content k s (contents.Fallback parts) = add_fallback k s parts
add_content k s (contents.Statement label parts) = add_statement k s label parts

-- the first of a list, where it has one
abbrev pub first : {A : Type 0} → List A → Option A
first [] = None
first (x ∷ xs) = Some x

-- what lines that say this leave
abbrev pub sketch_of : Machine → List Content → Sketch
sketch_of machine cs = record { machine = machine; statements = statements cs; fixes = fixes cs; fallback = first (fallbacks cs) }

-- ---- what holds of lines that are not refused

-- the statement stands in a word, and its label is one
pub record IsDraft (machine : Machine) (d : Draft) : Type 0 where
  pub part : IsTrue (is_part machine d.parts.part)
  pub label : IfSome d.label IsLabelText

pub record IsSound (s : Sketch) : Type 0 where
  pub few : length s.statements ≤ 512
  pub labels : AreDistinct (labels_of s.statements)
  pub drafts : All (IsDraft s.machine) s.statements
  pub addresses : All (λ f. f.address < 512) s.fixes
  pub fallback : IfSome s.fallback (λ d. IsDraft s.machine d × (d.label ≡ None))

-- ---- unknown labels

abbrev pub knows : List Draft → Next (List ℕ) → Bool
knows ds nexts.Following = true
knows ds (nexts.Goto label) = has_label ds label
knows ds (nexts.Dispatch high) = true
knows ds (nexts.Branch test high low) = has_label ds high && has_label ds low

abbrev pub unknown_draft : List Draft → List Draft → Option ℕ
unknown_draft ds among = option_map (λ d. d.line) (find (λ d. not (knows ds d.parts.next)) among)

abbrev pub unknown_fix : List Draft → List Fix → Option ℕ
unknown_fix ds fs = option_map (λ f. f.line) (find (λ f. not (has_label ds f.label)) fs)

abbrev pub unknown_in : List Draft → Option Draft → Option ℕ
unknown_in ds None = None
unknown_in ds (Some d) = if knows ds d.parts.next then None else Some d.line

-- the smaller of two lines, where there is one
abbrev pub earlier : Option ℕ → Option ℕ → Option ℕ
earlier None b = b
earlier (Some a) None = Some a
earlier (Some a) (Some b) = Some (min a b)

-- computes the first line of which `NamesUnknown` holds
abbrev pub first_unknown : Sketch → Option ℕ
first_unknown s = earlier (unknown_draft s.statements s.statements) (earlier (unknown_fix s.statements s.fixes) (unknown_in s.statements s.fallback))

-- ---- no statement follows

abbrev pub falling : Option Draft → Option ℕ
falling None = None
falling (Some d) = if falls d.parts.next then Some d.line else None

-- computes the first line of which `FallsOff` holds
abbrev pub first_falling : Sketch → Option ℕ
first_falling s = earlier (falling (slice_get s.statements (length s.statements - 1))) (falling s.fallback)

-- ---- computes the program whose names are resolved (`IsProgramOf`)

abbrev pub number_of : List Draft → List ℕ → Option ℕ
number_of ds label = place_of own_label ds label

abbrev pub target_number : List Draft → List ℕ → ℕ
target_number ds label = unwrap_or (number_of ds label) 0

abbrev pub resolved_next : List Draft → Next (List ℕ) → Next ℕ
resolved_next ds next = by_targets (target_number ds) next

abbrev pub address_at : List Fix → List ℕ → Option ℕ
address_at fs label = option_map (λ f. f.address) (find (λ f. bytes_eq f.label label) fs)

-- computes the address for which `IsFixedBy` holds
abbrev pub fixed_of : List Fix → Option (List ℕ) → Option ℕ
fixed_of fs label = option_and_then (address_at fs) label

abbrev pub resolved : List Draft → List Fix → Draft → Statement
resolved ds fs d = record { label = d.label; line = d.line; part = d.parts.part; next = resolved_next ds d.parts.next; fixed = fixed_of fs d.label }

abbrev pub program_with : Sketch → ℕ → MalView
program_with s entry = record {
  machine = s.machine;
  statements = map (resolved s.statements s.fixes) s.statements;
  fallback = option_map (resolved s.statements s.fixes) s.fallback;
  entry = entry;
}

abbrev pub main1 : List ℕ
main1 = codes "Main1"

abbrev pub by_entry : Sketch → Option ℕ → Result MalView MalError
by_entry s None = Err errors.NoEntry
by_entry s (Some entry) = Ok (program_with s entry)

abbrev pub by_falling : Sketch → Option ℕ → Result MalView MalError
by_falling s (Some line) = Err (errors.LastFalls line)
by_falling s None = by_entry s (number_of s.statements main1)

abbrev pub by_unknown : Sketch → Option ℕ → Result MalView MalError
by_unknown s (Some line) = Err (errors.UnknownLabel line)
by_unknown s None = by_falling s (first_falling s)

-- the program, or the first refusal of the whole source
unfoldable pub resolved_program : Sketch → Result MalView MalError
resolved_program s = by_unknown s (first_unknown s)

-- ---- how a text is read

abbrev pub parser : Parser Token LineFault Content MalView MalError Sketch
parser = record {
  tokens = read;
  said = λ s ts. line_from s.machine ts;
  Stands = λ _ _. ⊤;
  add = add_content;
  whole = resolved_program;
}

abbrev pub add_tokens : ℕ → Sketch → List Token → Result Sketch MalError
add_tokens k s ts = add_said refusals parser k s (line_from s.machine ts)

abbrev pub step : Step Sketch MalError
step = parsing.step refusals parser
