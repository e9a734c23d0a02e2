-- The store that ships: its words are the rows of the table.
use Rattle.mic1_interpreter.proofs.Common.{◌≡◌, ℕ, ◌<◌, List, slice_index, Mic1, Placed, statement_of, table1, HasShipped, statement_among}
use Rattle.mal_shipped.specs.Shipped.{shipped as shipped_at}

-- the statement at an address, with the table in sight of a symbolic run
abbrev pub shipped : ℕ → Placed
shipped at = statement_among table1 at

abbrev pub HasStatements : List ℕ → Type 0
HasStatements words = (at : ℕ) → at < 512 → statement_of Mic1 (slice_index words at) ≡ shipped at

pub has_statements : (words : List ℕ) → HasShipped Mic1 words → HasStatements words
unfolding shipped_at
has_statements words has = has
