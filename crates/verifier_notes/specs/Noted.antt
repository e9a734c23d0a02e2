-- An image with a note at each instruction: whose it is, how many operands it finds, and which locals are set. Each instruction meets its note, and no two
-- pieces of the text overlap.
use Rattle.std.specs.Prelude.{◌≡◌, ◌≢◌, ◌⊎◌, ℕ, ◌+◌, ◌<◌, ◌≤◌, Bool, true, false, length, slice_get, Option, Some, None}
use Rattle.ijvm_instr.specs.declared.row.Row.{Row}
use Rattle.ijvm_instr.specs.declared.row.Flow.TheVariants.{Call, Return}
use Rattle.ijvm_instr.specs.Prelude.{size_of}
use Rattle.ijvm_image.specs.Prelude.{ImageView, params, others}
use Rattle.verifier_facts.specs.Prelude.{HasRow, HasConstant, need_of, GoesOn, IsOwn, Names}

pub record Note : Type 0 where
  -- main is None, a method its entry
  pub unit : Option ℕ
  -- how many operands there are
  pub depth : ℕ
  -- whether this local of a method is surely set
  pub set : ℕ → Bool

-- an instruction with this row and need leads from one note to the next: the unit stays, the depth changes as the row says, and a local that is set
-- afterwards was set before or is stored here
pub record LeadsOn (row : Row) (need : ℕ) (before after : Note) : Type 0 where
  pub unit : after.unit ≡ before.unit
  pub depth : after.depth + need ≡ before.depth + row.gives
  pub set : (k : ℕ) → after.set k ≡ true → (before.set k ≡ true) ⊎ (row.stores ≡ Some k)

-- the method that this constant names begins inside the text, with a note that has no operand and no own local set
pub record FindsMethod (image : ImageView) (note : ℕ → Option Note) (k : ℕ) : Type 0 where
  pub entry : ℕ
  pub constant : slice_get image.pool k ≡ Some entry
  pub inside : entry + 4 < length image.text
  pub begins : Note
  pub there : note (entry + 4) ≡ Some begins
  pub unit : begins.unit ≡ Some entry
  pub depth : begins.depth ≡ 0
  pub unset : (j : ℕ) → IsOwn image.text entry j → begins.set j ≡ false

-- the instruction at this address meets its note
pub record Meets (image : ImageView) (note : ℕ → Option Note) (at : ℕ) (here : Note) : Type 0 where
  pub row : Row
  pub has_row : HasRow image.text at row
  pub constant : HasConstant image.pool row.constant
  pub need : ℕ
  pub needs : need_of image row.needs row.flow ≡ Some need
  pub enough : need ≤ here.depth
  pub leads : (to : ℕ) → GoesOn row.flow at (at + size_of row) to → (next : Note) × (note to ≡ Some next) × LeadsOn row need here next
  pub calls : (k : ℕ) → row.flow ≡ Call k → FindsMethod image note k
  -- main has no return
  pub returns : row.flow ≡ Return → here.unit ≢ None
  -- in a method a local that is read is set, and a local that is named is the method's, and not the link word
  pub reads : (k : ℕ) → row.reads ≡ Some k → here.unit ≢ None → here.set k ≡ true
  pub names : (e k : ℕ) → here.unit ≡ Some e → Names row k → (0 < k) × (k < params image.text e + others image.text e)
  pub counts : (e : ℕ) → here.unit ≡ Some e → 0 < params image.text e
  -- main names no local above 255
  pub few : (k : ℕ) → here.unit ≡ None → Names row k → k < 256

pub record IsNoted (image : ImageView) (note : ℕ → Option Note) : Type 0 where
  -- main begins at 0, with no operand
  pub start : (first : Note) × (note 0 ≡ Some first) × (first.unit ≡ None) × (first.depth ≡ 0)
  pub meets : (at : ℕ) (n : Note) → note at ≡ Some n → Meets image note at n
  -- an instruction ends at or before the next one
  pub apart : (at to : ℕ) (n m : Note) (row : Row) → note at ≡ Some n → note to ≡ Some m → HasRow image.text at row → at < to → at + size_of row ≤ to
  -- no instruction overlaps the header of a noted method, and no two headers overlap
  pub clear : (at to : ℕ) (n m : Note) (row : Row) (e : ℕ) → note at ≡ Some n → note to ≡ Some m → m.unit ≡ Some e → HasRow image.text at row
      → (at + size_of row ≤ e) ⊎ (e + 4 ≤ at)
  pub headers : (at to : ℕ) (n m : Note) (e f : ℕ) → note at ≡ Some n → note to ≡ Some m → n.unit ≡ Some e → m.unit ≡ Some f → e < f → e + 4 ≤ f
