-- Line numbers: the program of a text, without them, is the listed one.
use Rattle.mal_shipped.proofs.Common.{◌≡◌, ℕ, zero, suc, ◌+◌, ◌<◌, List, [], ◌∷◌, ◌++◌, length, take, map, Option, Some, None, Result, Ok, Err, ◌⊎◌, inl, inr}
use Rattle.mal_shipped.proofs.Common.{refl, sym, ap, ◌∙◌, subst, option_map, slice_get, slice_index, map-append, take_more, slice_get_within}
use Rattle.mal_shipped.proofs.Common.{get_or_from_slice_get, Machine, Mic1, Mic2, Statement, MalError, OutOfMemory, canonical_text, on_line, on_lines, relined}
use Rattle.mal_shipped.proofs.Common.{SpellsProgram, IsMalProgram, MalView, Placed, demands_of, placed_default, Decodes, IsFilled, listed_program, text_of}
use Rattle.mal_shipped.proofs.Common.{unlined, without_line, program1, rows1, program2, rows2}
use Rattle.mal_shipped.proofs.Valid.{valid}
use Rattle.mal_shipped.proofs.Texts.{canonical}

pub one_more : (ss : List Statement) (k : ℕ) (s : Statement) → slice_get ss k ≡ Some s →
    map without_line (take k ss) ++ without_line s ∷ [] ≡ map without_line (take (k + 1) ss)
one_more ss k s e =
    let inside : k < length ss = slice_get_within ss k s e in
    let here : take (k + 1) ss ≡ take k ss ++ s ∷ [] = take_more ss k s inside ∙ ap (λ (x : Statement). take k ss ++ x ∷ []) (get_or_from_slice_get ss k s s e) in
    sym (ap (map without_line) here ∙ map-append without_line (take k ss) (s ∷ []))

pub unlined_of : (machine : Machine) → unlined (relined (listed_program machine)) ≡ listed_program machine
unfolding program1 rows1 program2 rows2
unlined_of Mic1 = refl
unlined_of Mic2 = refl

pub unlined_is_program : (machine : Machine) → IsMalProgram (unlined (relined (listed_program machine)))
unlined_is_program machine = subst IsMalProgram (sym (unlined_of machine)) (valid machine)

pub machine_of : (machine : Machine) → (listed_program machine).machine ≡ machine
unfolding program1 program2
machine_of Mic1 = refl
machine_of Mic2 = refl

-- ---- line numbers change nothing of a placement, nor of a control store

pub same_demands : (machine : Machine) → demands_of (relined (listed_program machine)) ≡ demands_of (listed_program machine)
unfolding demands_of program1 rows1 program2 rows2
same_demands Mic1 = refl
same_demands Mic2 = refl

on_lines_at : (n : ℕ) (ss : List Statement) (s : ℕ) (t : Statement) → slice_get ss s ≡ Some t → (k : ℕ) × (slice_get (on_lines n ss) s ≡ Some (on_line k t))
on_lines_at n [] s t e = absurd (cc)
on_lines_at n (x ∷ ss) zero t e = let same : x ≡ t = cc in (n, ap (λ (y : Statement). Some (on_line n y)) same)
on_lines_at n (x ∷ ss) (suc s) t e = on_lines_at (n + 1) ss s t e

on_lines_count : (n : ℕ) (ss : List Statement) → length (on_lines n ss) ≡ length ss
on_lines_count n [] = refl
on_lines_count n (x ∷ ss) = ap suc (on_lines_count (n + 1) ss)

same_default : (address : ℕ → ℕ) (n : ℕ) (fallback : Option Statement) → placed_default address (option_map (on_line n) fallback) ≡ placed_default address fallback
same_default address n None = refl
same_default address n (Some s) = refl

pub filled_again : (p : MalView) (addresses words : List ℕ) → IsFilled (relined p) addresses words → IsFilled p addresses words
filled_again p addresses words h = record {
  statements = λ s t e.
      let there = on_lines_at _ p.statements s t e in
      h.statements s (on_line there.0 t) there.1;
  others = λ a inside none.
      subst (λ (d : Placed). Decodes p.machine (slice_index words a) d) (same_default (slice_index addresses) _ p.fallback)
      (h.others a inside (λ s below. none s (let count = on_lines_count _ p.statements in subst (λ n. s < n) count below)));
}

text_spells : (machine : Machine) → ((q : MalView) → IsMalProgram q → SpellsProgram q.machine (canonical_text q) (relined q)) →
    SpellsProgram machine (text_of machine) (relined (listed_program machine))
text_spells machine law =
    let spells : SpellsProgram (listed_program machine).machine (canonical_text (listed_program machine)) (relined (listed_program machine)) = law (listed_program machine) (valid machine) in
    let here : SpellsProgram machine (canonical_text (listed_program machine)) (relined (listed_program machine)) =
    subst (λ (m : Machine). SpellsProgram m (canonical_text (listed_program machine)) (relined (listed_program machine))) (machine_of machine) spells in
    subst (λ (text : List ℕ). SpellsProgram machine text (relined (listed_program machine))) (sym (canonical machine)) here

-- what a text is read as, where it spells this program
pub read_as : (machine : Machine) (text : List ℕ) (r : Result MalView MalError) (p : MalView) → r ≡ Ok p → text ≡ text_of machine →
    ((q : MalView) → IsMalProgram q → SpellsProgram q.machine (canonical_text q) (relined q)) →
    ((q : MalView) → SpellsProgram machine text q → (r ≡ Ok q) ⊎ (r ≡ Err OutOfMemory)) → p ≡ relined (listed_program machine)
read_as machine text r p e same law spelled =
    let spells : SpellsProgram machine text (relined (listed_program machine)) = subst (λ (t : List ℕ). SpellsProgram machine t (relined (listed_program machine))) (sym same) (text_spells machine law) in
    elim (spelled (relined (listed_program machine)) spells) [ inl f ↦ cc | inr f ↦ absurd (cc) ]
