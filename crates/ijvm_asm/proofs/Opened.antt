-- The line that began the innermost open section is the first of those that are open.
use Rattle.ijvm_asm.proofs.Common.{◌≡◌, ℕ, ◌+◌, true, false, List, [], ◌∷◌, ◌++◌, Some, length, refl, ap, sym, ◌∙◌, ◌||◌, not, Ok, is_some, nat_le, most_names}
use Rattle.ijvm_asm.proofs.Common.{Place, Mark}
use Rattle.ijvm_line.specs.declared.place.Place.TheVariants as places
use Rattle.ijvm_line.specs.declared.place.Mark.TheVariants as marks
use Rattle.source_text.specs.Places as names
use Rattle.ijvm_asm.specs.declared.error.AsmError.TheVariants as errors
use Rattle.ijvm_asm.specs.Prelude.{BlankAt, Codes, Declares, Defines, Dotted, Heads, place_of, Said, Source, add_line, add_mark, gather, is_declared, method_by, missing, missing_at, opened_by, open_lines}
use Rattle.ijvm_asm.proofs.Building.{Build}
use Rattle.ijvm_asm.proofs.Conditions.{if_ok, ok}
use Rattle.ijvm_asm.proofs.Mains.{main_ended, main_opened}
use Rattle.ijvm_asm.proofs.Methods.{begins, ended, opened}
use Rattle.ijvm_asm.proofs.Units.{after, line_made, with_both, with_local}

-- the lines that began what is open, the innermost first
abbrev pub open_at : Place → Source → List ℕ
open_at places.Outside s = []
open_at places.Constants s = s.section ∷ []
open_at places.Locals s = s.inner ∷ s.section ∷ []
open_at places.Code s = s.section ∷ []

abbrev pub opened_in : Source → List ℕ
opened_in s = open_at s.place s

placed : (p : Place) (s : Source) → s.place ≡ p → opened_in s ≡ open_at p s
placed p s e = ap (λ q. open_at q s) e

by : (w u : Source) (ls : List ℕ) → ok w ≡ ok u → opened_in w ≡ ls → opened_in u ≡ ls
by w u ls h e = let q : w ≡ u = cc in ap opened_in (sym q) ∙ e

mark_opens : (k : ℕ) (s u : Source) (m : Mark) → s.place ≡ place_of (Dotted m) → add_mark k s m ≡ Ok u → opened_in u ≡ opened_by k (Dotted m) (opened_in s)
mark_opens k s u marks.BeginConstants at h =
    let w : Source = record s { place = places.Constants; section = k; seen_constants = true } in
    by w u (k ∷ []) (if_ok s.seen_constants (errors.BadLine k) (ok w) u h).1 (placed places.Constants w refl) ∙ sym (ap (λ ls. k ∷ ls) (placed places.Outside s at))
mark_opens k s u marks.EndConstants at h =
    let w : Source = record s { place = places.Outside } in
    by w u [] h (placed places.Outside w refl) ∙ sym (ap (opened_by k (Dotted marks.EndConstants)) (placed places.Constants s at))
mark_opens k s u marks.BeginMain at h =
    by (main_opened k s) u (k ∷ []) (if_ok s.seen_main (errors.BadLine k) (ok (main_opened k s)) u h).1 (placed places.Code (main_opened k s) refl)
    ∙ sym (ap (λ ls. k ∷ ls) (placed places.Outside s at))
mark_opens k s u marks.EndMain at h =
    by (main_ended s) u [] (if_ok (is_some s.unit.name || s.unit.pending) (errors.BadLine k) (ok (main_ended s)) u h).1 (placed places.Outside (main_ended s) refl)
    ∙ sym (ap (opened_by k (Dotted marks.EndMain)) (placed places.Code s at))
mark_opens k s u marks.EndMethod at h =
    by (ended s) u [] (if_ok (not (is_some s.unit.name) || s.unit.pending) (errors.BadLine k) (ok (ended s)) u h).1 (placed places.Outside (ended s) refl)
    ∙ sym (ap (opened_by k (Dotted marks.EndMethod)) (placed places.Code s at))
mark_opens k s u marks.BeginLocals at h =
    let w : Source = record s { place = places.Locals; inner = k; may_declare = false } in
    by w u (k ∷ s.section ∷ []) (if_ok (not s.may_declare) (errors.BadLine k) (ok w) u h).1 (placed places.Locals w refl)
    ∙ sym (ap (λ ls. k ∷ ls) (placed places.Code s at))
mark_opens k s u marks.EndLocals at h =
    let w : Source = record s { place = places.Code } in
    by w u (s.section ∷ []) h (placed places.Code w refl) ∙ sym (ap (opened_by k (Dotted marks.EndLocals)) (placed places.Locals s at))

line_opens : (k : ℕ) (s u : Source) (x : Said) → s.place ≡ place_of x → add_line k s x ≡ Ok u → opened_in u ≡ opened_by k x (opened_in s)
line_opens k s u (BlankAt p) at h = by s u (opened_in s) h refl
line_opens k s u (Dotted m) at h = mark_opens k s u m at h
line_opens k s u (Heads n ps) at h =
    let i = if_ok (is_declared s n) (errors.DuplicateName k) (method_by k s n (gather [] ps)) u h in
    by (opened k s n ps) u (k ∷ []) (begins k s u n ps (gather [] ps) refl i.1).2 (placed places.Code (opened k s n ps) refl)
    ∙ sym (ap (λ ls. k ∷ ls) (placed places.Outside s at))
line_opens k s u (Defines n v) at h =
    let w : Source = record s { constants = s.constants ++ n ∷ []; values = s.values ++ v ∷ [] } in
    by w u (s.section ∷ []) (if_ok (is_declared s n) (errors.DuplicateName k) (ok w) u h).1 (placed places.Constants w at) ∙ sym (placed places.Constants s at)
line_opens k s u (Declares n) at h =
    let b = with_both (λ w. record s { unit = w }) (is_some (names.place_of_name s.unit.names n)) (nat_le most_names (length s.unit.names)) (record s.unit { names = s.unit.names ++ n ∷ [] }) (errors.DuplicateName k) (errors.TooManyNames k) u h in
    by (with_local s n) u (s.inner ∷ s.section ∷ []) b.2 (placed places.Locals (with_local s n) at) ∙ sym (placed places.Locals s at)
line_opens k s u (Codes l i) at h =
    by (after k s l i) u (s.section ∷ []) (line_made k s u l i h).1 (placed places.Code (after k s l i) at) ∙ sym (placed places.Code s at)

pub opens_are : (xs : List Said) (k : ℕ) (s t : Source) → Build k s xs t → opened_in t ≡ open_lines k (opened_in s) xs
opens_are [] k s t e = ap opened_in (sym e)
opens_are (x ∷ xs) k s t (u, p, h, more) = opens_are xs (k + 1) u t more ∙ ap (λ ls. open_lines (k + 1) ls xs) (line_opens k s u x p h)

pub missing_is : (s : Source) (k : ℕ) → missing s ≡ Some k → (rest : List ℕ) × (opened_in s ≡ k ∷ rest)
missing_is s k h = go s.place refl h
  where
    go : (p : Place) → s.place ≡ p → missing_at p s ≡ Some k → (rest : List ℕ) × (opened_in s ≡ k ∷ rest)
    go places.Outside e h = absurd (cc)
    go places.Constants e h = let q : s.section ≡ k = cc in ([], placed places.Constants s e ∙ ap (λ n. n ∷ []) q)
    go places.Locals e h = let q : s.inner ≡ k = cc in (s.section ∷ [], placed places.Locals s e ∙ ap (λ n. n ∷ s.section ∷ []) q)
    go places.Code e h = let q : s.section ≡ k = cc in ([], placed places.Code s e ∙ ap (λ n. n ∷ []) q)

pub is_missing : (s : Source) (k : ℕ) (rest : List ℕ) → opened_in s ≡ k ∷ rest → missing s ≡ Some k
is_missing s k rest h = go s.place refl
  where
    go : (p : Place) → s.place ≡ p → missing s ≡ Some k
    go places.Outside e = absurd (let f = placed places.Outside s e in cc)
    go places.Constants e = let f = placed places.Constants s e in let q : s.section ≡ k = cc in ap (λ p. missing_at p s) e ∙ ap Some q
    go places.Locals e = let f = placed places.Locals s e in let q : s.inner ≡ k = cc in ap (λ p. missing_at p s) e ∙ ap Some q
    go places.Code e = let f = placed places.Code s e in let q : s.section ≡ k = cc in ap (λ p. missing_at p s) e ∙ ap Some q
