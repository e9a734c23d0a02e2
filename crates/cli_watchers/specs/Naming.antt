-- The word at an address of a placed microprogram, by label and text; and the instruction at an address of an image.
use Rattle.std.specs.Prelude.{◌≡◌, ◌≢◌, ◌<◌, ℕ, List, ◌++◌, Bool, true, false, Option, Some, None, length, slice_index, codes, unwrap_or}
use Rattle.cli_watchers.specs.Common.{ImageView, Instr, instr_at, instr_text, Kind, IsKind, Statement, MalView, label_at, fallback_of, parts_text, IsOnlyAt}
use Rattle.verifier_facts.specs.declared.kind.Kind.TheVariants as kinds

-- a statement's label, or a dash
abbrev pub label_text : MalView → ℕ → List ℕ
label_text p s = unwrap_or (label_at p.statements s) (codes "-")

-- what unused words hold
abbrev pub default_by : MalView → Option Statement → List ℕ
default_by p None = codes "goto 0x0fe"
default_by p (Some s) = fallback_of p s

abbrev pub default_text : MalView → List ℕ
default_text p = default_by p p.fallback

-- the label and the text of the word at an address: those of the statement that is placed there, or of what unused words hold
pub data IsWord (p : MalView) (addresses : List ℕ) (mpc : ℕ) (label parts : List ℕ) : Type 0 where
  Placed : (s : ℕ) → IsOnlyAt addresses mpc s → label ≡ label_text p s → parts ≡ parts_text p s → IsWord p addresses mpc label parts
  Unused : ((s : ℕ) → s < length addresses → slice_index addresses s ≢ mpc) → label ≡ codes ".default" → parts ≡ default_text p →
      IsWord p addresses mpc label parts

-- both, with `stall` in place of the text in a stalled cycle
abbrev pub labelled_text : Bool → List ℕ → List ℕ → List ℕ
labelled_text true label parts = label ++ codes " stall"
labelled_text false label parts = label ++ codes " " ++ parts

-- a line gets the label and the text of the word at an address
abbrev pub AddsWord : MalView → List ℕ → ℕ → Bool → List ℕ → List ℕ → Type 0
AddsWord p addresses mpc stalled old new =
    (label parts : List ℕ) × IsWord p addresses mpc label parts × (new ≡ old ++ labelled_text stalled label parts)

-- the reached instruction that begins at an address
abbrev pub IsReached : ImageView → ℕ → Option Instr → Type 0
IsReached image at (Some i) = IsKind image at kinds.Start × (instr_at image.text at ≡ Some i)
IsReached image at None = (kind : Kind) × IsKind image at kind × (kind ≢ kinds.Start)

abbrev pub text_of : Option Instr → ℕ → List ℕ
text_of (Some i) at = instr_text i at
text_of None at = codes "?"

-- the text of the reached instruction at an address, or `?` where none begins there
pub record IsInstruction (image : ImageView) (at : ℕ) (text : List ℕ) : Type 0 where
  pub instr : Option Instr
  pub reached : IsReached image at instr
  pub is : text ≡ text_of instr at
