-- The control store of a shipped microprogram: which statement stands at each address.
use Rattle.std.specs.Prelude.{◌≡◌, ℕ, ◌<◌, ◌==◌, true, false, List, [], ◌∷◌, slice_index}
use Rattle.mic_words.specs.declared.machine.Machine.{Machine}
use Rattle.mic_words.specs.declared.machine.Machine.TheVariants.{Mic1, Mic2}
use Rattle.micro_word.specs.declared.statement.Placed.{Placed}
use Rattle.micro_word.specs.Prelude.{statement_of}
use Rattle.store_placement.specs.Prelude.{goto_end}
use Rattle.mal_shipped.specs.Listing.{ListingRow, table1, table2}

abbrev pub table_of : Machine → List ListingRow
table_of Mic1 = table1
table_of Mic2 = table2

-- the statement of the row with this address; every other word ends a run by an error
abbrev pub statement_among : List ListingRow → ℕ → Placed
statement_among [] at = goto_end
statement_among (r ∷ rows) at = elim (r.address == at) [ true ↦ r.placed | false ↦ statement_among rows at ]

-- the statement at an address of the control store
unfoldable pub shipped : Machine → ℕ → Placed
shipped machine at = statement_among (table_of machine) at

-- the words of a control store that holds the microprogram
abbrev pub HasShipped : Machine → List ℕ → Type 0
HasShipped machine words = (at : ℕ) → at < 512 → statement_of machine (slice_index words at) ≡ shipped machine at
