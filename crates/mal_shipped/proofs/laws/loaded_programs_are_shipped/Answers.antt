use Rattle.mal_shipped.proofs.Common.{◌≡◌, ℕ, List, IsTrue, subst, Machine, Mic1, Mic2, Placed, is_valid, microword_of, statement_of, IsFilled, listed_program}
use Rattle.mal_shipped.proofs.Common.{addresses_of}
use Rattle.mal_shipped.proofs.Words.{shipped_words, entry_at}
use Rattle.mal_shipped.proofs.laws.loaded_programs_are_shipped.Goals as goal

pub returns-clause-words : goal.returns-clause-words
returns-clause-words c = λ machine l loaded.
    let law : (m : Machine) (q : Placed) → IsTrue (is_valid m q) → statement_of m (microword_of m q) ≡ q = λ m.
    elim m as (λ n. (q : Placed) → IsTrue (is_valid n q) → statement_of n (microword_of n q) ≡ q)
    [ Mic1 ↦ c.statement_law.ensures.statement | Mic2 ↦ c.statement_law-2.ensures.statement ] in
    let addresses : l.placement ≡ addresses_of machine = c.shipped_programs_are_listed.ensures.only machine l.placement loaded.chosen in
    shipped_words machine l.store.words (law machine) (subst (λ (list : List ℕ). IsFilled (listed_program machine) list l.store.words) addresses loaded.filled)

pub returns-clause-entry : goal.returns-clause-entry
returns-clause-entry c = λ machine l loaded.
    let addresses : l.placement ≡ addresses_of machine = c.shipped_programs_are_listed.ensures.only machine l.placement loaded.chosen in
    entry_at machine l.placement l.entry addresses loaded.entry
