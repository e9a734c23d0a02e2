-- That the registers and the memory of a Mic-1 hold words, which its meaning alone does not say.
use Rattle.std.specs.Prelude.{◌<◌, ℕ, List, [], ◌∷◌, slice_index, unwrap_or}
use Rattle.mic1_checks.specs.Common.{All, World, signed_byte, Micro}

-- what a boundary leaves free, in the order of the numbers: eight registers, MBR without and with its sign, and the word under way
abbrev pub free_words : Micro → List ℕ
free_words m = m.mar ∷ m.mdr ∷ m.pc ∷ m.sp ∷ m.lv ∷ m.tos ∷ m.opc ∷ m.h ∷ m.mbr ∷ signed_byte m.mbr ∷ unwrap_or m.word 0 ∷ []

pub record HasWords (m : Micro) (w : World) : Type 0 where
  pub registers : All (λ x. x < 4294967296) (free_words m)
  pub memory : (i : ℕ) → slice_index w.words i < 4294967296
