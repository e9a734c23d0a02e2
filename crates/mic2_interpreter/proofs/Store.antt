-- The store that ships: its words are the rows of the table.
use Rattle.mic2_interpreter.proofs.Common.{◌≡◌, ℕ, ◌<◌, List, slice_index, Mic2, Placed, statement_of, table2, HasShipped, statement_among, QueueLaw}
use Rattle.mal_shipped.specs.Shipped.{shipped as shipped_at}

-- the statement at an address, with the table in sight of a symbolic run
abbrev pub shipped : ℕ → Placed
shipped at = statement_among table2 at

-- the words of a control store that holds the microprogram, and what is known of the fetch unit
pub record Known (words : List ℕ) : Type 0 where
  pub statements : (at : ℕ) → at < 512 → statement_of Mic2 (slice_index words at) ≡ shipped at
  pub queue : QueueLaw

pub known : (words : List ℕ) → HasShipped Mic2 words → QueueLaw → Known words
unfolding shipped_at
known words has queue = record { statements = has; queue = queue }
