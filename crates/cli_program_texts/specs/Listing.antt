-- The listing of an accepted program: its constants, and then what stands at each address of its text.
use Rattle.std.specs.Prelude.{◌≡◌, ℕ, ◌+◌, List, [], ◌∷◌, ◌++◌, length, slice_get, slice_index, Some, codes}
use Rattle.std.specs.Fmt.{decimal}
use Rattle.std.specs.List.{concat}
use Rattle.mic_base.specs.Prelude.{hex_text}
use Rattle.ijvm_instr.specs.declared.instr.Instr.{Instr}
use Rattle.ijvm_instr.specs.Prelude.{instr_at, instr_text}
use Rattle.ijvm_image.specs.Prelude.{ImageView, params, others}
use Rattle.verifier_facts.specs.declared.kind.Kind.TheVariants as kinds
use Rattle.verifier_facts.specs.Prelude.{VerifiedView, IsKind}

abbrev pub constant_line : ℕ → ℕ → List ℕ
constant_line index value = codes "pool " ++ decimal index ++ codes " " ++ hex_text 8 value ++ codes "\n"

-- the lines of these constants, the first of which has this index
abbrev pub pool_text : ℕ → List ℕ → List ℕ
pool_text index [] = []
pool_text index (value ∷ rest) = constant_line index value ++ pool_text (index + 1) rest

abbrev pub instr_line : Instr → ℕ → List ℕ
instr_line instr at = hex_text 8 at ++ codes " " ++ instr_text instr at ++ codes "\n"

-- a header's two counts
abbrev pub header_line : List ℕ → ℕ → List ℕ
header_line text at = hex_text 8 at ++ codes " method " ++ decimal (params text at) ++ codes " " ++ decimal (others text at) ++ codes "\n"

abbrev pub byte_line : List ℕ → ℕ → List ℕ
byte_line text at = hex_text 8 at ++ codes " byte " ++ hex_text 2 (slice_index text at) ++ codes "\n"

-- what is printed of an address, by what stands there
pub data IsLineAt (image : ImageView) (at : ℕ) (line : List ℕ) : Type 0 where
  Instruction : (instr : Instr) → IsKind image at kinds.Start → instr_at image.text at ≡ Some instr → line ≡ instr_line instr at → IsLineAt image at line
  Method : IsKind image at kinds.Header → line ≡ header_line image.text at → IsLineAt image at line
  Within : IsKind image at kinds.Inside → line ≡ [] → IsLineAt image at line
  Byte : IsKind image at kinds.Unreached → line ≡ byte_line image.text at → IsLineAt image at line

-- what is printed of an address follows what was printed before
abbrev pub AddsLineAt : ImageView → ℕ → List ℕ → List ℕ → Type 0
AddsLineAt image at old new = (line : List ℕ) × IsLineAt image at line × (new ≡ old ++ line)

-- what is printed of this many addresses, from the first on
pub record AreListingLines (image : ImageView) (count : ℕ) (lines : List (List ℕ)) : Type 0 where
  pub long : length lines ≡ count
  pub each : (at : ℕ) (line : List ℕ) → slice_get lines at ≡ Some line → IsLineAt image at line

-- what is printed of each address follows what was printed before
abbrev pub AddsLines : ImageView → List ℕ → List ℕ → Type 0
AddsLines image old new = (lines : List (List ℕ)) × AreListingLines image (length image.text) lines × (new ≡ old ++ concat lines)

pub record Lists (program : VerifiedView) (listing : List ℕ) : Type 0 where
  pub lines : List (List ℕ)
  pub each : AreListingLines program.image (length program.image.text) lines
  pub printed : listing ≡ pool_text 0 program.image.pool ++ concat lines
