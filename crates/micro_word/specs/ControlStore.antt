-- What a control store holds: 512 words, each canonical for its machine.
use Rattle.std.specs.Prelude.{◌≡◌, ℕ, ◌<◌, List, length, get_or, slice_index, IsTrue}
use Rattle.mic_words.specs.declared.machine.Machine.{Machine}
use Rattle.micro_word.specs.Words.{is_canonical}
use Rattle.micro_word.specs.Layout.{fields_of}
use Rattle.micro_word.specs.Lines.{AreLines}
use Rattle.micro_word.specs.declared.lines.Lines.{Lines}

pub record ControlStore : Type 0 where
  pub machine : Machine
  pub words : List ℕ

abbrev pub AreCanonical : Machine → List ℕ → Type 0
AreCanonical machine words = (address : ℕ) → address < 512 → IsTrue (is_canonical machine (slice_index words address))

-- each word's lines stand at its address
abbrev pub AreDecoded : Machine → List ℕ → List Lines → Type 0
AreDecoded machine words lines = (address : ℕ) → address < 512 → (d : Lines) →
    AreLines machine (fields_of machine (slice_index words address)) (get_or lines address d)

-- what a store keeps
pub record IsKept (machine : Machine) (words : List ℕ) (lines : List Lines) : Type 0 where
  pub canonical : AreCanonical machine words
  pub whole : length lines ≡ 512
  pub decoded : AreDecoded machine words lines

-- what holds of every store
pub record IsStore (s : ControlStore) : Type 0 where
  pub full : length s.words ≡ 512
  pub canonical : AreCanonical s.machine s.words
