-- A list of items makes a noted image.
use Rattle.std.proofs.Common.{◌≡◌, ◌<◌, ◌≤◌, ◌⊎◌, inl, inr, ⊎_elim, ℕ, ◌+◌, ◌==◌, Bool, true, false, if◌then◌else◌, List, [], ◌∷◌, Some, None, refl, sym, ap, ◌∙◌, subst, arith}
use Rattle.std.proofs.lemmas.Option.{same_Some}
use Rattle.std.proofs.lemmas.Bool.{eqb-true}
use Rattle.ijvm_instr.specs.declared.instr.Instr.{Instr}
use Rattle.ijvm_instr.specs.declared.row.Row.{Row}
use Rattle.ijvm_instr.specs.Prelude.{row_of, size_of, instr_at}
use Rattle.ijvm_image.specs.Prelude.{ImageView}
use Rattle.verifier_notes.specs.Prelude.{Note, IsNoted, Item, Code, Header, item_size, own_note, note_from, note_at, HasHeader, IsMet, AllMet, IsListed}

-- what is found in a list stands at its start or after it
after : (start : ℕ) (xs : List Item) (to : ℕ) (m : Note) → note_from start xs to ≡ Some m → start ≤ to
after start [] to m h = cc
after start (x ∷ xs) to m h = by (to == start) refl h (λ e. after (start + item_size x) xs to m e)
  where
    by : (b : Bool) → (to == start) ≡ b → (if b then own_note x else note_from (start + item_size x) xs to) ≡ Some m
        → (note_from (start + item_size x) xs to ≡ Some m → start + item_size x ≤ to) → start ≤ to
    by true t e next = omega (arith, eqb-true to start t)
    by false t e next = omega (arith, next e)

header_after : (start : ℕ) (xs : List Item) (e : ℕ) → HasHeader start xs e → start ≤ e
header_after start [] e h = absurd h
header_after start (Code i n ∷ xs) e h = omega (arith, header_after (start + size_of (row_of i)) xs e h)
header_after start (Header ∷ xs) e (inl h) = omega (arith, h)
header_after start (Header ∷ xs) e (inr h) = omega (arith, header_after (start + 4) xs e h)

headers_apart : (start : ℕ) (xs : List Item) (e f : ℕ) → HasHeader start xs e → HasHeader start xs f → e < f → e + 4 ≤ f
headers_apart start [] e f h k lt = absurd h
headers_apart start (Code i n ∷ xs) e f h k lt = headers_apart (start + size_of (row_of i)) xs e f h k lt
headers_apart start (Header ∷ xs) e f (inl h) (inl k) lt = absurd (omega (arith, h, k, lt))
headers_apart start (Header ∷ xs) e f (inl h) (inr k) lt = omega (arith, h, header_after (start + 4) xs f k)
headers_apart start (Header ∷ xs) e f (inr h) (inl k) lt = absurd (omega (arith, k, header_after (start + 4) xs e h, lt))
headers_apart start (Header ∷ xs) e f (inr h) (inr k) lt = headers_apart (start + 4) xs e f h k lt

-- where a note is found: here, or further on
abbrev Here : ℕ → Item → ℕ → Note → Type 0
Here start x at n = (at ≡ start) × (own_note x ≡ Some n)

abbrev Later : ℕ → Item → List Item → ℕ → Note → Type 0
Later start x xs at n = note_from (start + item_size x) xs at ≡ Some n

at_head : (start : ℕ) (x : Item) (xs : List Item) (at : ℕ) (n : Note) → note_from start (x ∷ xs) at ≡ Some n → Here start x at n ⊎ Later start x xs at n
at_head start x xs at n h = by (at == start) refl h
  where
    by : (b : Bool) → (at == start) ≡ b → (if b then own_note x else note_from (start + item_size x) xs at) ≡ Some n → Here start x at n ⊎ Later start x xs at n
    by true t e = inl (eqb-true at start t, e)
    by false t e = inr e

-- a header has no note
past_header : (start : ℕ) (xs : List Item) (at : ℕ) (n : Note) → note_from start (Header ∷ xs) at ≡ Some n → note_from (start + 4) xs at ≡ Some n
past_header start xs at n h = ⊎_elim (λ a. let e : None ≡ Some n = a.1 in cc) (λ a. a) (at_head start Header xs at n h)

module _ (image : ImageView) (whole : List Item) where
  -- the instruction with a note that is found in the list
  abbrev Found : ℕ → Note → Type 0
  Found at n = (i : Instr) × IsMet image whole at i n

  found : (start : ℕ) (xs : List Item) (at : ℕ) (n : Note) → AllMet image whole start xs → note_from start xs at ≡ Some n → Found at n
  found start [] at n all h = cc
  found start (Code i m ∷ xs) at n all h =
      ⊎_elim
      (λ a. (i, subst (λ (x : Note). IsMet image whole at i x) (same_Some m n a.1) (subst (λ (x : ℕ). IsMet image whole x i m) (sym a.0) all.0)))
      (λ a. found (start + size_of (row_of i)) xs at n all.1 a)
      (at_head start (Code i m) xs at n h)
  found start (Header ∷ xs) at n all h = found (start + 4) xs at n all (past_header start xs at n h)

  -- the instruction at the head of a list is the one that stands there
  head_size : (start at : ℕ) (j i : Instr) (o : Note) → IsMet image whole start j o → at ≡ start → instr_at image.text at ≡ Some i
      → size_of (row_of j) ≡ size_of (row_of i)
  head_size start at j i o met here is = ap (λ (x : Instr). size_of (row_of x)) (same_Some j i (sym met.stands ∙ ap (instr_at image.text) (sym here) ∙ is))

  -- an instruction ends before the next one begins
  ends_before : (start : ℕ) (xs : List Item) (at to : ℕ) (n m : Note) (i : Instr) → AllMet image whole start xs → note_from start xs at ≡ Some n
      → note_from start xs to ≡ Some m → instr_at image.text at ≡ Some i → at < to → at + size_of (row_of i) ≤ to
  ends_before start [] at to n m i all h k is lt = cc
  ends_before start (Code j o ∷ xs) at to n m i all h k is lt =
      let next : ℕ = start + size_of (row_of j) in
      ⊎_elim
      (λ a. ⊎_elim
      (λ b. absurd (omega (arith, a.0, b.0, lt)))
      (λ b. omega (arith, a.0, after next xs to m b, head_size start at j i o all.0 a.0 is))
      (at_head start (Code j o) xs to m k))
      (λ a. ⊎_elim
      (λ b. absurd (omega (arith, b.0, after next xs at n a, lt)))
      (λ b. ends_before next xs at to n m i all.1 a b is lt)
      (at_head start (Code j o) xs to m k))
      (at_head start (Code j o) xs at n h)
  ends_before start (Header ∷ xs) at to n m i all h k is lt =
      ends_before (start + 4) xs at to n m i all (past_header start xs at n h) (past_header start xs to m k) is lt

  -- an instruction ends before a header, or begins after it
  clear_of : (start : ℕ) (xs : List Item) (at e : ℕ) (n : Note) (i : Instr) → AllMet image whole start xs → note_from start xs at ≡ Some n
      → HasHeader start xs e
      → instr_at image.text at ≡ Some i → (at + size_of (row_of i) ≤ e) ⊎ (e + 4 ≤ at)
  clear_of start [] at e n i all h k is = cc
  clear_of start (Code j o ∷ xs) at e n i all h k is =
      let next : ℕ = start + size_of (row_of j) in
      ⊎_elim
      (λ a. inl (omega (arith, a.0, header_after next xs e k, head_size start at j i o all.0 a.0 is)))
      (λ a. clear_of next xs at e n i all.1 a k is)
      (at_head start (Code j o) xs at n h)
  clear_of start (Header ∷ xs) at e n i all h (inl k) is = inr (omega (arith, k, after (start + 4) xs at n (past_header start xs at n h)))
  clear_of start (Header ∷ xs) at e n i all h (inr k) is = clear_of (start + 4) xs at e n i all (past_header start xs at n h) k is

-- a listed image is noted
pub noted : (image : ImageView) (items : List Item) → IsListed image items → IsNoted image (note_at items)
noted image items l = record {
  start = l.start;
  meets = λ at n h. (met at n h).1.meets;
  apart = λ at to n m row h k has lt. let e : size_of row ≡ size_of (row_of has.0) = ap (λ (x : Row). size_of x) has.2 in
      omega (arith, e, ends_before image items 0 items at to n m has.0 l.met h k has.1 lt);
  clear = λ at to n m row e h k unit has. subst (λ (x : Row). (at + size_of x ≤ e) ⊎ (e + 4 ≤ at)) (sym has.2)
      (clear_of image items 0 items at e n has.0 l.met h ((met to m k).1.headed e unit) has.1);
  headers = λ at to n m e f h k u v lt. headers_apart 0 items e f ((met at n h).1.headed e u) ((met to m k).1.headed f v) lt;
}
  where
    met : (at : ℕ) (n : Note) → note_at items at ≡ Some n → (i : Instr) × IsMet image items at i n
    met at n h = found image items 0 items at n l.met h
