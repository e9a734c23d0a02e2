-- What names the words of a control store and the instructions of a text in the lines of a session.
use Rattle.std.specs.Prelude.{◌≡◌, ℕ, ◌<◌, List, Some, length, slice_index, codes, unwrap_or, option_map}
use Rattle.mic_debugger.specs.Common.{ImageView, instr_at, instr_text, Instr, IsKind, Start, parts_text, fallback_of, MalView, label_at, IsAtNone}
use Rattle.mic_debugger.specs.View.{ListingView}

-- the label and the text of the statement at each address of the store, and the instruction at each byte address of the text
pub record Book : Type 0 where
  pub label : ℕ → List ℕ
  pub text : ℕ → List ℕ
  pub instruction : ℕ → List ℕ

-- the label of a statement, a dash where it has none
abbrev pub label_or_dash : MalView → ℕ → List ℕ
label_or_dash program s = unwrap_or (label_at program.statements s) (codes "-")

-- the text of an unused word
abbrev pub unused_text : MalView → List ℕ
unused_text program = unwrap_or (option_map (fallback_of program) program.fallback) (codes "goto 0x0fe")

-- the book of a placed program and of an image
pub record IsBook (program : MalView) (placement : List ℕ) (image : ImageView) (book : Book) : Type 0 where
  pub labels : (s : ℕ) → s < length placement → book.label (slice_index placement s) ≡ label_or_dash program s
  pub texts : (s : ℕ) → s < length placement → book.text (slice_index placement s) ≡ parts_text program s
  pub unused_label : (a : ℕ) → IsAtNone placement a → book.label a ≡ codes ".default"
  pub unused_text : (a : ℕ) → IsAtNone placement a → book.text a ≡ unused_text program
  -- a reached instruction begins there, or none does
  pub reached : (at : ℕ) (i : Instr) → IsKind image at Start → instr_at image.text at ≡ Some i → book.instruction at ≡ instr_text i at
  pub unreached : (at : ℕ) → (IsKind image at Start → ⊥) → book.instruction at ≡ codes "?"

-- the book of what a session lists
abbrev pub IsBookOf : ListingView → Book → Type 0
IsBookOf l book = IsBook l.program l.placement l.image book

-- this holds by each book of a listing
abbrev pub ByBook : ListingView → (Book → Type 0) → Type 0
ByBook l Holds = (book : Book) → IsBookOf l book → Holds book

-- a reached instruction begins at a byte address
abbrev pub BeginsAt : ImageView → ℕ → Instr → Type 0
BeginsAt image at i = IsKind image at Start × (instr_at image.text at ≡ Some i)
