-- A text as the list of its pieces from address 0 on: instructions, each with its note, and methods' headers.
use Rattle.std.specs.Prelude.{◌≡◌, ◌⊎◌, ℕ, ◌+◌, ◌==◌, if◌then◌else◌, List, [], ◌∷◌, Option, Some, None}
use Rattle.ijvm_instr.specs.declared.instr.Instr.{Instr}
use Rattle.ijvm_instr.specs.Prelude.{row_of, size_of, instr_at}
use Rattle.ijvm_image.specs.Prelude.{ImageView}
use Rattle.verifier_notes.specs.Noted.{Note, Meets}

pub data Item : Type 0 where
  Code : (i : Instr) (n : Note) → Item
  Header : Item

-- the size of an item, in bytes
abbrev pub item_size : Item → ℕ
item_size (Code i n) = size_of (row_of i)
item_size Header = 4

abbrev pub items_size : List Item → ℕ
items_size [] = 0
items_size (x ∷ xs) = item_size x + items_size xs

abbrev pub own_note : Item → Option Note
own_note (Code i n) = Some n
own_note Header = None

-- the note of the instruction that begins at an address, where the items begin at `start`
abbrev pub note_from : ℕ → List Item → ℕ → Option Note
note_from start [] at = None
note_from start (x ∷ xs) at = if at == start then own_note x else note_from (start + item_size x) xs at

abbrev pub note_at : List Item → ℕ → Option Note
note_at items = note_from 0 items

-- a header begins at this address, where the items begin at `start`
abbrev pub HasHeader : ℕ → List Item → ℕ → Type 0
HasHeader start [] e = ⊥
HasHeader start (Code i n ∷ xs) e = HasHeader (start + size_of (row_of i)) xs e
HasHeader start (Header ∷ xs) e = (e ≡ start) ⊎ HasHeader (start + 4) xs e

-- an instruction of the whole list stands at its address, meets its note, and its method has its header in the list
pub record IsMet (image : ImageView) (whole : List Item) (at : ℕ) (i : Instr) (n : Note) : Type 0 where
  pub stands : instr_at image.text at ≡ Some i
  pub meets : Meets image (note_at whole) at n
  pub headed : (e : ℕ) → n.unit ≡ Some e → HasHeader 0 whole e

-- `IsMet` holds of each instruction among these items of the whole list, which begin at this address
abbrev pub AllMet : ImageView → List Item → ℕ → List Item → Type 0
AllMet image whole at [] = Unit {0}
AllMet image whole at (Code i n ∷ xs) = IsMet image whole at i n × AllMet image whole (at + size_of (row_of i)) xs
AllMet image whole at (Header ∷ xs) = AllMet image whole (at + 4) xs

pub record IsListed (image : ImageView) (items : List Item) : Type 0 where
  -- main begins at 0, with no operand
  pub start : (first : Note) × (note_at items 0 ≡ Some first) × (first.unit ≡ None) × (first.depth ≡ 0)
  pub met : AllMet image items 0 items
