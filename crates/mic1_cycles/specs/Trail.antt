-- What a run did to the world since its start: its writes, the oldest first, the count of the bytes taken, and the words given.
use Rattle.std.specs.Prelude.{ℕ, ◌++◌, ◌%◌, List, [], ◌∷◌, drop, slice_set}
use Rattle.console_port.specs.Prelude.{World}
use Rattle.mic1_cycles.specs.declared.symbols.Write.{Write}

pub record Trail : Type 0 where
  pub writes : List Write
  pub taken : ℕ
  pub given : List ℕ

module _ (word : ℕ → ℕ) where
  -- the words after these writes
  abbrev pub written_by : List Write → List ℕ → List ℕ
  written_by [] words = words
  written_by (w ∷ ws) words = written_by ws (slice_set words (word w.at) (word w.value))

  -- the bytes given: the low 8 bits of each word
  abbrev pub given_by : List ℕ → List ℕ
  given_by [] = []
  given_by (v ∷ vs) = word v % 256 ∷ given_by vs

  abbrev pub world_of : World → Trail → World
  world_of start t =
      record { words = written_by t.writes start.words; untaken = drop t.taken start.untaken; given = start.given ++ given_by t.given }
