-- The reader returns the first refusal that holds.
use Rattle.std.proofs.Common.{◌≡◌, ◌⊎◌, ◌∙◌, ap, refl, sym, nat_le, nat_lt, not, ℕ, ◌+◌, Bool, true, false, if◌then◌else◌, ◌==◌, List, [], ◌∷◌, length, Option, Some, None, Result, Ok, Err, IfErr, inl, inr, arith, subst}
use Rattle.ijvm_image.specs.declared.reader.Block.{Block}
use Rattle.ijvm_image.specs.declared.image.ImageError.{ImageError}
use Rattle.ijvm_image.specs.declared.image.ImageError.TheVariants as errors
use Rattle.ijvm_image.specs.Prelude.{ImageView, magic, word_at, is_origin, is_size, block_rows, block_end, first_refusal, refusals, IsRefused, and_then, block_at, block_from, joined, image_read}

abbrev Rows : Type 0
Rows = List (Bool × ImageError)

-- the refusal of a reading, if it is one
abbrev err_in : {A : Type 0} → Result A ImageError → Option ImageError
err_in (Ok x) = None
err_in (Err e) = Some e

-- a test whose failure is a refusal
tested : {A : Type 0} (t : Bool) (x : Result A ImageError) (e : ImageError) (rows : Rows) → first_refusal rows ≡ err_in x →
    first_refusal ((not t, e) ∷ rows) ≡ err_in (if t then x else Err e)
tested true x e rows more = more
tested false x e rows more = refl

tested_then : {A : Type 0} (t : Bool) (x : Result Block ImageError) (next : Block → Result A ImageError) (e : ImageError) (rows : Rows) →
    first_refusal rows ≡ err_in (and_then x next) → first_refusal ((not t, e) ∷ rows) ≡ err_in (and_then (if t then x else Err e) next)
tested_then true x next e rows more = more
tested_then false x next e rows more = refl

-- a field that the file's end may cut
cut : {A : Type 0} (t : Bool) (w : ℕ) (next : ℕ → Result A ImageError) (e : ImageError) (rows : Rows) → first_refusal rows ≡ err_in (next w) →
    first_refusal ((not t, e) ∷ rows) ≡ err_in (and_then (if t then Ok w else Err e) next)
cut true w next e rows more = more
cut false w next e rows more = refl

cut_then : {A : Type 0} (t : Bool) (w : ℕ) (block : ℕ → Result Block ImageError) (next : Block → Result A ImageError) (e : ImageError) (rows : Rows) →
    first_refusal rows ≡ err_in (and_then (block w) next) → first_refusal ((not t, e) ∷ rows) ≡ err_in (and_then (and_then (if t then Ok w else Err e) block) next)
cut_then true w block next e rows more = more
cut_then false w block next e rows more = refl

abbrev there : List ℕ → ℕ → Block
there file place = record { origin = word_at file place; from = place + 8; to = block_end file place }

-- the rows of a block from that of its size on
abbrev size_rows : List ℕ → ℕ → Rows → Rows
size_rows file place rows =
    (not (is_size (word_at file place) (word_at file (place + 4))), errors.BadSize (word_at file (place + 4))) ∷
    (not (nat_le (place + 8 + word_at file (place + 4)) (length file)), errors.Truncated (length file)) ∷ rows

-- the rows of a block from that of its origin on
abbrev origin_rows : List ℕ → ℕ → Option ℕ → Rows → Rows
origin_rows file place first rows =
    (not (is_origin first (word_at file place)), errors.BadOrigin (word_at file place)) ∷ (not (nat_le (place + 8) (length file)), errors.Truncated (length file)) ∷
    size_rows file place rows

block_refused : {A : Type 0} (file : List ℕ) (place : ℕ) (first : Option ℕ) (next : Block → Result A ImageError) (rows : Rows) →
    first_refusal rows ≡ err_in (next (there file place)) → first_refusal (block_rows file place first rows) ≡ err_in (and_then (block_at file place first) next)
block_refused {A = A} file place first next rows more =
    let n : ℕ = length file in
    let origin : ℕ = word_at file place in
    let size : ℕ = word_at file (place + 4) in
    let eight : place + 4 + 4 ≡ place + 8 = omega arith in
    cut_then (nat_le (place + 4) n) origin _ next (errors.Truncated n) (origin_rows file place first rows)
    (tested_then (is_origin first origin) _ next (errors.BadOrigin origin) ((not (nat_le (place + 8) n), errors.Truncated n) ∷ size_rows file place rows)
    (subst (λ (to : ℕ). first_refusal ((not (nat_le to n), errors.Truncated n) ∷ size_rows file place rows)
    ≡ err_in (and_then (and_then (if nat_le (place + 4 + 4) n then Ok size else Err (errors.Truncated n)) (λ s. block_from file origin (place + 8) s)) next)) eight
    (cut_then (nat_le (place + 4 + 4) n) size _ next (errors.Truncated n) (size_rows file place rows)
    (tested_then (is_size origin size) _ next (errors.BadSize size) ((not (nat_le (place + 8 + size) n), errors.Truncated n) ∷ rows)
    (tested_then (nat_le (place + 8 + size) n) (Ok (there file place)) next (errors.Truncated n) rows more)))))

trailing : (t : Bool) (to : ℕ) (x : ImageView) → first_refusal ((t, errors.Trailing to) ∷ []) ≡ err_in (if t then Err (errors.Trailing to) else Ok x)
trailing true to x = refl
trailing false to x = refl

-- the first refusal of a file is that of its reading
refusal_is : (file : List ℕ) → first_refusal (refusals file) ≡ err_in (image_read file)
refusal_is file =
    let n : ℕ = length file in
    let a : Block = there file 4 in
    let b : Block = there file a.to in
    cut (nat_le 4 n) (word_at file 0) _ (errors.Truncated n)
    ((not (word_at file 0 == magic), errors.BadMagic) ∷ block_rows file 4 None (block_rows file a.to (Some a.origin) ((nat_lt b.to n, errors.Trailing b.to) ∷ [])))
    (tested (word_at file 0 == magic) _ errors.BadMagic (block_rows file 4 None (block_rows file a.to (Some a.origin) ((nat_lt b.to n, errors.Trailing b.to) ∷ [])))
    (block_refused file 4 None _ (block_rows file a.to (Some a.origin) ((nat_lt b.to n, errors.Trailing b.to) ∷ []))
    (block_refused file a.to (Some a.origin) _ ((nat_lt b.to n, errors.Trailing b.to) ∷ [])
    (trailing (nat_lt b.to n) b.to (joined file a b)))))

pub refused : (file : List ℕ) (f : ImageError) → image_read file ≡ Err f → IsRefused file f
refused file f is = refusal_is file ∙ ap err_in is

-- a file that is read is not refused
pub not_refused : (file : List ℕ) (image : ImageView) (f : ImageError) → image_read file ≡ Ok image → IsRefused file f → ⊥
not_refused file image f is wrong = let none : Some f ≡ None = sym wrong ∙ refusal_is file ∙ ap err_in is in cc

pub read-refused : (file : List ℕ) (r : Result ImageView ImageError) → IfErr r (λ e. (e ≡ errors.OutOfMemory) ⊎ (image_read file ≡ Err e)) →
    IfErr r (λ e. (e ≡ errors.OutOfMemory) ⊎ IsRefused file e)
read-refused file (Ok image) h = h
read-refused file (Err e) h = elim h [ inl o ↦ inl o | inr is ↦ inr (refused file e is) ]
