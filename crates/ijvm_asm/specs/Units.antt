-- The unit that a body makes: its locals stand after its parameters, and its labels and instructions in order.
use Rattle.std.specs.Prelude.{◌≡◌, ℕ, ◌+◌, ◌<◌, ◌||◌, Bool, false, List, [], ◌∷◌, ◌++◌, map, length, Option, Some, None, is_some, ⊤}
use Rattle.ijvm_asm.specs.Common.{most_names, Instruction}
use Rattle.ijvm_line.specs.declared.place.Mark.TheVariants as marks
use Rattle.source_text.specs.Places as names
use Rattle.ijvm_asm.specs.declared.draft.DraftLine.{DraftLine}
use Rattle.ijvm_asm.specs.Drafts.{DraftView}
use Rattle.ijvm_asm.specs.Said.{Dotted}
use Rattle.ijvm_asm.specs.Sections.{Body, CodeItem, local_line, Locals}

-- no name comes twice, nor is one of those that were seen
abbrev pub AreNew : List (List ℕ) → List (List ℕ) → Type 0
AreNew seen [] = ⊤
AreNew seen (n ∷ ns) = (names.place_of_name seen n ≡ None) × AreNew (seen ++ n ∷ []) ns

-- ---- its locals

abbrev pub declared : List (Option (List ℕ)) → List (List ℕ)
declared [] = []
declared (None ∷ items) = declared items
declared (Some name ∷ items) = name ∷ declared items

-- no name comes twice, nor is one that of a parameter, and parameters and locals are at most 65,534
abbrev pub AreLocals : List (List ℕ) → List (List ℕ) → Type 0
AreLocals seen [] = ⊤
AreLocals seen (n ∷ ns) = (names.place_of_name seen n ≡ None) × (length seen < most_names) × AreLocals (seen ++ n ∷ []) ns

-- ---- its code

abbrev pub with_label : Option (List ℕ) → List (List ℕ) → List (List ℕ)
with_label None labels = labels
with_label (Some label) labels = label ∷ labels

-- the labels in order
abbrev pub labels_in : List (Option CodeItem) → List (List ℕ)
labels_in [] = []
labels_in (None ∷ items) = labels_in items
labels_in (Some c ∷ items) = with_label c.label (labels_in items)

abbrev pub with_instruction : ℕ → Option Instruction → List DraftLine → List DraftLine
with_instruction k None lines = lines
with_instruction k (Some instruction) lines = (record { line = k; instruction = instruction }) ∷ lines

-- the instructions in order, each with its line, from line `k` on
abbrev pub lines_in : ℕ → List (Option CodeItem) → List DraftLine
lines_in k [] = []
lines_in k (None ∷ items) = lines_in (k + 1) items
lines_in k (Some c ∷ items) = with_instruction k c.instruction (lines_in (k + 1) items)

abbrev pub with_position : ℕ → Option (List ℕ) → List ℕ → List ℕ
with_position n None label_positions = label_positions
with_position n (Some label) label_positions = n ∷ label_positions

abbrev pub after_instruction : ℕ → Option Instruction → ℕ
after_instruction n None = n
after_instruction n (Some instruction) = n + 1

-- for each label how many instructions of the unit stand before it, where `n` stand before all of these lines
abbrev pub positions_in : ℕ → List (Option CodeItem) → List ℕ
positions_in n [] = []
positions_in n (None ∷ items) = positions_in n items
positions_in n (Some c ∷ items) = with_position n c.label (positions_in (after_instruction n c.instruction) items)

abbrev pub waits : Bool → Option Instruction → Bool
waits label None = label
waits label (Some instruction) = false

-- the last label has no instruction after it
abbrev pub waits_after : Bool → List (Option CodeItem) → Bool
waits_after label [] = label
waits_after label (None ∷ items) = waits_after label items
waits_after label (Some c ∷ items) = waits_after (waits (is_some c.label || label) c.instruction) items

-- ---- the unit

-- the line where the code begins of a body that begins at line `k`
abbrev pub code_from : ℕ → Option Locals → ℕ
code_from k None = k
code_from k (Some d) = ((k + d.blank_lines) + 1) + length (map local_line d.names ++ (Dotted marks.EndLocals ∷ []))

-- the names of its `.var` section, where it has one
abbrev pub locals_in : Option Locals → List (List ℕ)
locals_in None = []
locals_in (Some d) = declared d.names

-- the unit of a body that begins at line `k`, by the name of a method and with these parameters: no local and no label comes twice, and its last
-- label has an instruction
pub record MakesUnit (k : ℕ) (name : Option (List ℕ)) (ps : List (List ℕ)) (body : Body) (unit : DraftView) : Type 0 where
  pub locals : AreLocals ps (locals_in body.locals)
  pub labels : AreNew [] (labels_in body.code)
  pub ready : waits_after false body.code ≡ false
  pub is : unit ≡ record {
    name = name;
    names = ps ++ locals_in body.locals;
    parameters = length ps;
    labels = labels_in body.code;
    label_positions = positions_in 0 body.code;
    lines = lines_in (code_from k body.locals) body.code;
    pending = false;
  }
