-- The words of a loaded shipped microprogram are those that are listed.
use Rattle.mal_shipped.proofs.Common.{◌≡◌, ◌≢◌, ◌<◌, ℕ, zero, suc, ◌+◌, add-zero, ◌==◌, Bool, true, false, List, [], ◌∷◌, length, map, Some, refl, sym, ap, ◌∙◌}
use Rattle.mal_shipped.proofs.Common.{subst, IsTrue, arith, slice_get, slice_index, eqb-false, eqb-true, Machine, Mic1, Mic2, Placed, is_valid, microword_of}
use Rattle.mal_shipped.proofs.Common.{statement_of, Statement, MalView, placed_statement, placed_default, IsFilled, Decodes, ListingRow, listed_program}
use Rattle.mal_shipped.proofs.Common.{addresses_of, program1, rows1, program2, rows2, shipped, HasShipped}

-- the statement at an address among these rows, the first of which has this number; else what unused words hold
abbrev statement_among : Placed → (ℕ → ℕ) → ℕ → List ListingRow → ℕ → Placed
statement_among unused address number [] at = unused
statement_among unused address number (r ∷ rows) at =
    elim (r.address == at) [ true ↦ placed_statement address number r.statement | false ↦ statement_among unused address (number + 1) rows at ]

by_test : (P : Placed → Type 0) (here there : Placed) (x y : ℕ) (t : Bool) → (x == y) ≡ t → (x ≡ y → P here) → (x ≢ y → P there) →
    P (elim t [ true ↦ here | false ↦ there ])
by_test P here there x y true e hit miss = hit (eqb-true x y e)
by_test P here there x y false e hit miss = miss (eqb-false x y e)

none_of : (r : ListingRow) (rows : List ListingRow) (at : ℕ) → r.address ≢ at → ((k : ℕ) (s : ListingRow) → slice_get rows k ≡ Some s → s.address ≢ at) →
    (k : ℕ) (s : ListingRow) → slice_get (r ∷ rows) k ≡ Some s → s.address ≢ at
none_of r rows at differs others zero s e = let same : r ≡ s = cc in subst (λ (x : ListingRow). x.address ≢ at) same differs
none_of r rows at differs others (suc k) s e = others k s e

-- what holds of each statement at the address, and of the default where none stands there, holds of what is found
found : (P : Placed → Type 0) (unused : Placed) (address : ℕ → ℕ) (number : ℕ) (rows : List ListingRow) (at : ℕ) →
    ((k : ℕ) (r : ListingRow) → slice_get rows k ≡ Some r → r.address ≡ at → P (placed_statement address (number + k) r.statement)) →
    (((k : ℕ) (r : ListingRow) → slice_get rows k ≡ Some r → r.address ≢ at) → P unused) → P (statement_among unused address number rows at)
found P unused address number [] at hit miss = miss (λ k r e. absurd (cc))
found P unused address number (r ∷ rows) at hit miss =
    let place : number + 0 ≡ number = add-zero number in
    let later : (k : ℕ) → number + suc k ≡ number + 1 + k = λ k. omega arith in
    by_test P (placed_statement address number r.statement) (statement_among unused address (number + 1) rows at) r.address at (r.address == at) refl
    (λ same. subst (λ (n : ℕ). P (placed_statement address n r.statement)) place (hit zero r refl same))
    (λ differs. found P unused address (number + 1) rows at
    (λ k s e same. subst (λ (n : ℕ). P (placed_statement address n s.statement)) (later k) (hit (suc k) s e same))
    (λ none. miss (none_of r rows at differs none)))

statement_in : (rows : List ListingRow) (k : ℕ) (r : ListingRow) → slice_get rows k ≡ Some r → slice_get (map (λ (x : ListingRow). x.statement) rows) k ≡ Some r.statement
statement_in [] k r e = absurd (cc)
statement_in (x ∷ rows) zero r e = cc
statement_in (x ∷ rows) (suc k) r e = statement_in rows k r e

address_in : (rows : List ListingRow) (k : ℕ) (r : ListingRow) → slice_get rows k ≡ Some r → slice_index (map (λ (x : ListingRow). x.address) rows) k ≡ r.address
address_in [] k r e = absurd (cc)
address_in (x ∷ rows) zero r e = cc
address_in (x ∷ rows) (suc k) r e = address_in rows k r e

row_at : (rows : List ListingRow) (k : ℕ) → k < length (map (λ (x : ListingRow). x.statement) rows) → (r : ListingRow) × (slice_get rows k ≡ Some r)
row_at [] k h = absurd (omega arith)
row_at (x ∷ rows) zero h = (x, refl)
row_at (x ∷ rows) (suc k) h = row_at rows k (omega arith)

-- what decodes to a statement names it
decoded : (machine : Machine) (word : ℕ) (p : Placed) → ((q : Placed) → IsTrue (is_valid machine q) → statement_of machine (microword_of machine q) ≡ q) →
    Decodes machine word p → statement_of machine word ≡ p
decoded machine word p law d = subst (λ (w : ℕ). statement_of machine w ≡ p) d.whole (law p d.valid)

filled_is : (machine : Machine) (rows : List ListingRow) (program : MalView) (words : List ℕ) → program.machine ≡ machine → program.statements ≡ map (λ (x : ListingRow). x.statement) rows →
    ((q : Placed) → IsTrue (is_valid machine q) → statement_of machine (microword_of machine q) ≡ q) →
    IsFilled program (map (λ (x : ListingRow). x.address) rows) words → (at : ℕ) → at < 512 →
    statement_of machine (slice_index words at) ≡
    statement_among (placed_default (slice_index (map (λ (x : ListingRow). x.address) rows)) program.fallback) (slice_index (map (λ (x : ListingRow). x.address) rows)) 0 rows at
filled_is machine rows program words m s law filled at below =
    let address : ℕ → ℕ = slice_index (map (λ (x : ListingRow). x.address) rows) in
    let P : Placed → Type 0 = λ p. statement_of machine (slice_index words at) ≡ p in
    found P (placed_default address program.fallback) address 0 rows at
    (λ k r e same.
    let there : slice_get program.statements k ≡ Some r.statement = ap (λ (ss : List Statement). slice_get ss k) s ∙ statement_in rows k r e in
    let word : Decodes program.machine (slice_index words (address k)) (placed_statement address k r.statement) = filled.statements k r.statement there in
    let place : address k ≡ at = address_in rows k r e ∙ same in
    let zero_k : 0 + k ≡ k = omega arith in
    let here : statement_of machine (slice_index words (address k)) ≡ placed_statement address k r.statement =
    decoded machine _ _ law (subst (λ (n : Machine). Decodes n (slice_index words (address k)) (placed_statement address k r.statement)) m word) in
    subst (λ (n : ℕ). statement_of machine (slice_index words at) ≡ placed_statement address n r.statement) (sym zero_k)
    (subst (λ (a : ℕ). statement_of machine (slice_index words a) ≡ placed_statement address k r.statement) place here))
    (λ none.
    let empty : (k : ℕ) → k < length program.statements → address k ≢ at = λ k inside e.
    let found_row : (r : ListingRow) × (slice_get rows k ≡ Some r) = row_at rows k (subst (λ (ss : List Statement). k < length ss) s inside) in
    none k found_row.0 found_row.1 (sym (address_in rows k found_row.0 found_row.1) ∙ e) in
    decoded machine _ _ law (subst (λ (n : Machine). Decodes n (slice_index words at) (placed_default address program.fallback)) m (filled.others at below empty)))

-- the statement that the text places at an address is the one that the table has there
listed1 : (at : ℕ) → statement_among (placed_default (slice_index (addresses_of Mic1)) program1.fallback) (slice_index (addresses_of Mic1)) 0 rows1 at ≡ shipped Mic1 at
unfolding rows1 program1 shipped
listed1 at = refl

listed2 : (at : ℕ) → statement_among (placed_default (slice_index (addresses_of Mic2)) program2.fallback) (slice_index (addresses_of Mic2)) 0 rows2 at ≡ shipped Mic2 at
unfolding rows2 program2 shipped
listed2 at = refl

-- the words of a store that is filled with a shipped microprogram at its addresses
pub shipped_words : (machine : Machine) (words : List ℕ) → ((q : Placed) → IsTrue (is_valid machine q) → statement_of machine (microword_of machine q) ≡ q) →
    IsFilled (listed_program machine) (addresses_of machine) words → HasShipped machine words
unfolding program1 program2
shipped_words Mic1 words law filled = λ at below. filled_is Mic1 rows1 program1 words refl refl law filled at below ∙ listed1 at
shipped_words Mic2 words law filled = λ at below. filled_is Mic2 rows2 program2 words refl refl law filled at below ∙ listed2 at

-- Main1 stands at 0x002 on both machines
pub entry_at : (machine : Machine) (addresses : List ℕ) (entry : ℕ) → addresses ≡ addresses_of machine → entry ≡ slice_index addresses (listed_program machine).entry → entry ≡ 0x002
unfolding program1 rows1 program2 rows2
entry_at Mic1 addresses entry a e = e ∙ ap (λ (list : List ℕ). slice_index list 0) a
entry_at Mic2 addresses entry a e = e ∙ ap (λ (list : List ℕ). slice_index list 0) a
