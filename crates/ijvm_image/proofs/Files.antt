-- Image files: what is written is read, and only that.
use Rattle.std.proofs.Common.{◌≡◌, ◌⊎◌, ◌<◌, ◌≤◌, nat_le, nat_lt, All, ℕ, zero, suc, ◌+◌, ◌-◌, ◌*◌, ◌/◌, ◌%◌, Bool, true, false, if◌then◌else◌, ◌==◌, List, [], ◌∷◌, ◌++◌, length, take, drop, append-nil, add-one, add-zero, length-append, slice_index, slice_range, Option, Some, None, Result, Ok, Err, IfOk, IfErr, refl, sym, ap, ap₂, ◌∙◌, inl, inr, arith, subst}
use Rattle.std.specs.List.{flat_map}
use Rattle.std.proofs.lemmas.Bool.Decides.{nat_tests}
use Rattle.std.proofs.lemmas.Grind.{flat_map-append}
use Rattle.std.proofs.lemmas.List.{drop_more, take_more, length-drop, length-take-le, drop-drop, drop_all, take-append-drop}
use Rattle.std.proofs.Math.Seq.{take-append_seam}
use Rattle.std.proofs.lemmas.Bool.{cond-true, cond-false, le-leb, leb-true, eqb-true}
use Rattle.ijvm_instr.specs.Prelude.{byte_below, high, low, whole_half}
use Rattle.ijvm_image.specs.declared.reader.Block.{Block}
use Rattle.ijvm_image.specs.declared.image.ImageError.{ImageError}
use Rattle.ijvm_image.specs.declared.image.ImageError.TheVariants as errors
use Rattle.ijvm_image.specs.Prelude.{ImageView, IsWithinLimits, magic, text_origin, pool_origin, word_bytes, block_of, file_of, text_first, IsFileOf, word_at, is_origin, is_size, and_then, field, block_from, block_at, words_at, image_of, joined, ended, image_read}

-- Words in a file.

drop_next : (file : List ℕ) (place : ℕ) (x : ℕ) (rest : List ℕ) → drop place file ≡ x ∷ rest → drop (suc place) file ≡ rest
drop_next [] zero x rest e = absurd (cc)
drop_next [] (suc place) x rest e = absurd (cc)
drop_next (y ∷ ys) zero x rest e = cc
drop_next (y ∷ ys) (suc place) x rest e = drop_next ys place x rest e

drop_on : (file : List ℕ) (place : ℕ) (x : ℕ) (rest : List ℕ) → drop place file ≡ x ∷ rest → drop (place + 1) file ≡ rest
drop_on file place x rest e = rw (add-one place) (drop_next file place x rest e)

drop_first : (file : List ℕ) (place : ℕ) (x : ℕ) (rest : List ℕ) → drop place file ≡ x ∷ rest → slice_index file place ≡ x
drop_first [] zero x rest e = absurd (cc)
drop_first [] (suc place) x rest e = absurd (cc)
drop_first (y ∷ ys) zero x rest e = cc
drop_first (y ∷ ys) (suc place) x rest e = drop_first ys place x rest e

-- a word of these four bytes
word_of_bytes : (file : List ℕ) (place a b c d : ℕ) (rest : List ℕ) → drop place file ≡ a ∷ b ∷ c ∷ d ∷ rest →
    (word_at file place ≡ 65536 * (256 * a + b) + (256 * c + d)) × (drop (place + 4) file ≡ rest)
word_of_bytes file place a b c d rest e =
    let e1 : drop (place + 1) file ≡ b ∷ c ∷ d ∷ rest = drop_on file place a _ e in
    let two : place + 1 + 1 ≡ place + 2 = omega arith in
    let three : place + 2 + 1 ≡ place + 3 = omega arith in
    let four : place + 3 + 1 ≡ place + 4 = omega arith in
    let e2 : drop (place + 2) file ≡ c ∷ d ∷ rest = subst (λ (n : ℕ). drop n file ≡ c ∷ d ∷ rest) two (drop_on file (place + 1) b _ e1) in
    let e3 : drop (place + 3) file ≡ d ∷ rest = subst (λ (n : ℕ). drop n file ≡ d ∷ rest) three (drop_on file (place + 2) c _ e2) in
    let e4 : drop (place + 4) file ≡ rest = subst (λ (n : ℕ). drop n file ≡ rest) four (drop_on file (place + 3) d _ e3) in
    let s0 : slice_index file place ≡ a = drop_first file place a _ e in
    let s1 : slice_index file (place + 1) ≡ b = drop_first file (place + 1) b _ e1 in
    let s2 : slice_index file (place + 2) ≡ c = drop_first file (place + 2) c _ e2 in
    let s3 : slice_index file (place + 2 + 1) ≡ d = rw three (drop_first file (place + 3) d _ e3) in
    (rw (s0, s1, s2, s3) refl, e4)

-- a word that stands in a file is read
word_read : (file : List ℕ) (place w : ℕ) (rest : List ℕ) → drop place file ≡ word_bytes w ++ rest → (word_at file place ≡ w) × (drop (place + 4) file ≡ rest)
word_read file place w rest e =
    let read : (word_at file place ≡ 65536 * (256 * (w / 65536 / 256) + w / 65536 % 256) + (256 * (w % 65536 / 256) + w % 65536 % 256)) × (drop (place + 4) file ≡ rest) =
    word_of_bytes file place _ _ _ _ rest e in
    let upper : 256 * (w / 65536 / 256) + w / 65536 % 256 ≡ w / 65536 = whole_half (w / 65536) in
    let lower : 256 * (w % 65536 / 256) + w % 65536 % 256 ≡ w % 65536 = whole_half (w % 65536) in
    let all : 65536 * (w / 65536) + w % 65536 ≡ w = omega arith in
    (read.0 ∙ rw (upper, lower) all, read.1)

-- what is dropped and not empty lies inside
drop_inside : (file : List ℕ) (place : ℕ) (front rest : List ℕ) → 0 < length front → drop place file ≡ front ++ rest → place + length front ≤ length file
drop_inside file place front rest some e =
    let long : length (drop place file) ≡ length file - place = length-drop place file in
    let parts : length (front ++ rest) ≡ length front + length rest = length-append front rest in
    let same : length (drop place file) ≡ length (front ++ rest) = ap length e in
    omega arith

field_read : (file : List ℕ) (place w : ℕ) (rest : List ℕ) → drop place file ≡ word_bytes w ++ rest → field file place ≡ Ok w
field_read file place w rest e =
    let fits : place + 4 ≤ length file = drop_inside file place (word_bytes w) rest (omega arith) e in
    let word : word_at file place ≡ w = (word_read file place w rest e).0 in
    grind (arith, nat_tests)

and_then_ok : {A B : Type 0} (r : Result A ImageError) (next : A → Result B ImageError) (x : A) (y : Result B ImageError) → r ≡ Ok x → next x ≡ y → and_then r next ≡ y
and_then_ok {A} r next x y e f = ap (λ (s : Result A ImageError). and_then s next) e ∙ f

-- the block of these bytes at a place
abbrev block_there : ℕ → ℕ → ℕ → Block
block_there origin place size = record { origin = origin; from = place + 8; to = place + 8 + size }

-- a block that stands in a file is read
block_read : (file : List ℕ) (place : ℕ) (first : Option ℕ) (origin : ℕ) (bytes rest : List ℕ) → drop place file ≡ block_of origin bytes ++ rest →
    is_origin first origin ≡ true → is_size origin (length bytes) ≡ true →
    (block_at file place first ≡ Ok (block_there origin place (length bytes))) × (drop (place + 8) file ≡ bytes ++ rest) × (place + 8 + length bytes ≤ length file)
block_read file place first origin bytes rest e origin_ok size_ok =
    let n : ℕ = length bytes in
    let following : List ℕ = word_bytes n ++ (bytes ++ rest) in
    let e0 : drop place file ≡ word_bytes origin ++ following = e in
    let f1 : field file place ≡ Ok origin = field_read file place origin following e0 in
    let e1 : drop (place + 4) file ≡ word_bytes n ++ (bytes ++ rest) = (word_read file place origin following e0).1 in
    let f2 : field file (place + 4) ≡ Ok n = field_read file (place + 4) n (bytes ++ rest) e1 in
    let eight : place + 4 + 4 ≡ place + 8 = omega arith in
    let e2 : drop (place + 8) file ≡ bytes ++ rest = subst (λ (k : ℕ). drop k file ≡ bytes ++ rest) eight (word_read file (place + 4) n (bytes ++ rest) e1).1 in
    let head : place + 4 + 4 ≤ length file = drop_inside file (place + 4) (word_bytes n) (bytes ++ rest) (omega arith) e1 in
    let long : length (drop (place + 8) file) ≡ length file - (place + 8) = length-drop (place + 8) file in
    let parts : length (bytes ++ rest) ≡ n + length rest = length-append bytes rest in
    let same : length (drop (place + 8) file) ≡ length (bytes ++ rest) = ap length e2 in
    let fits : place + 8 + n ≤ length file = omega arith in
    let last : block_from file origin (place + 8) n ≡ Ok (block_there origin place n) =
    cond-true (is_size origin n) _ _ size_ok ∙ cond-true (nat_le (place + 8 + n) (length file)) _ _ (le-leb _ _ fits) in
    let sized : (λ (size : ℕ). block_from file origin (place + 8) size) n ≡ Ok (block_there origin place n) = last in
    let whole : block_at file place first ≡ Ok (block_there origin place n) =
    and_then_ok (field file place)
    (λ (o : ℕ). if is_origin first o then and_then (field file (place + 4)) (λ (size : ℕ). block_from file o (place + 8) size) else Err (errors.BadOrigin o))
    origin (Ok (block_there origin place n)) f1
    (cond-true (is_origin first origin) _ _ origin_ok
    ∙ and_then_ok (field file (place + 4)) (λ (size : ℕ). block_from file origin (place + 8) size) n (Ok (block_there origin place n)) f2 sized) in
    (whole, e2, fits)

drop_part : (file : List ℕ) (place : ℕ) (bytes rest : List ℕ) → drop place file ≡ bytes ++ rest → drop (place + length bytes) file ≡ rest
drop_part file place [] rest e = rw add-zero e
drop_part file place (x ∷ xs) rest e =
    let next : drop (place + 1 + length xs) file ≡ rest = drop_part file (place + 1) xs rest (drop_on file place x (xs ++ rest) e) in
    let same : place + 1 + length xs ≡ place + length (x ∷ xs) = omega arith in
    subst (λ (n : ℕ). drop n file ≡ rest) same next

-- a part that stands in a file
part_read : (file : List ℕ) (place : ℕ) (bytes rest : List ℕ) → drop place file ≡ bytes ++ rest → slice_range file place (place + length bytes) ≡ bytes
part_read file place bytes rest e =
    let many : place + length bytes - place ≡ length bytes = omega arith in
    rw (many, e) (take-append_seam bytes rest)

pub length-words : (ws : List ℕ) → length (flat_map word_bytes ws) ≡ 4 * length ws
length-words [] = refl
length-words (w ∷ ws) = let e : length (flat_map word_bytes ws) ≡ 4 * length ws = length-words ws in omega arith

words_read : (file : List ℕ) (place : ℕ) (ws rest : List ℕ) → drop place file ≡ flat_map word_bytes ws ++ rest → words_at file place (length ws) ≡ ws
words_read file place [] rest e = refl
words_read file place (w ∷ ws) rest e =
    let head : (word_at file place ≡ w) × (drop (place + 4) file ≡ flat_map word_bytes ws ++ rest) = word_read file place w (flat_map word_bytes ws ++ rest) e in
    let tail : words_at file (place + 4) (length ws) ≡ ws = words_read file (place + 4) ws rest head.1 in
    let first : word_at file place ≡ w = head.0 in
    cc

-- two blocks that are the whole of a file are read
pub blocks_read : (file : List ℕ) (o1 o2 : ℕ) (b1 b2 : List ℕ) → file ≡ word_bytes magic ++ (block_of o1 b1 ++ block_of o2 b2) →
    is_origin None o1 ≡ true → is_origin (Some o1) o2 ≡ true → is_size o1 (length b1) ≡ true → is_size o2 (length b2) ≡ true →
    (image_read file ≡ Ok (joined file (block_there o1 4 (length b1)) (block_there o2 (12 + length b1) (length b2))))
    × (slice_range file 12 (12 + length b1) ≡ b1)
    × (slice_range file (12 + length b1 + 8) (12 + length b1 + 8 + length b2) ≡ b2)
    × (drop 12 file ≡ b1 ++ block_of o2 b2)
    × (drop (12 + length b1 + 8) file ≡ b2 ++ [])
blocks_read file o1 o2 b1 b2 e origin1 origin2 size1 size2 =
    let e0 : drop 0 file ≡ word_bytes magic ++ (block_of o1 b1 ++ block_of o2 b2) = e in
    let word : field file 0 ≡ Ok magic = field_read file 0 magic _ e0 in
    let e1 : drop 4 file ≡ block_of o1 b1 ++ block_of o2 b2 = (word_read file 0 magic _ e0).1 in
    let r1 : (block_at file 4 None ≡ Ok (block_there o1 4 (length b1))) × (drop 12 file ≡ b1 ++ block_of o2 b2) × (12 + length b1 ≤ length file) =
    block_read file 4 None o1 b1 (block_of o2 b2) e1 origin1 size1 in
    let second : ℕ = 12 + length b1 in
    let e2 : drop second file ≡ block_of o2 b2 = drop_part file 12 b1 (block_of o2 b2) r1.1 in
    let e3 : drop second file ≡ block_of o2 b2 ++ [] = e2 ∙ sym (append-nil (block_of o2 b2)) in
    let r2 : (block_at file second (Some o1) ≡ Ok (block_there o2 second (length b2))) × (drop (second + 8) file ≡ b2 ++ []) × (second + 8 + length b2 ≤ length file) =
    block_read file second (Some o1) o2 b2 [] e3 origin2 size2 in
    let over : drop (second + 8 + length b2) file ≡ [] = drop_part file (second + 8) b2 [] r2.1 in
    let long : length (drop (second + 8 + length b2) file) ≡ length file - (second + 8 + length b2) = length-drop _ file in
    let none : length (drop (second + 8 + length b2) file) ≡ 0 = ap length over in
    let fits : second + 8 + length b2 ≤ length file = r2.2 in
    let all : nat_lt (second + 8 + length b2) (length file) ≡ false = grind (arith, nat_tests) in
    let last : ended file (block_there o1 4 (length b1)) (block_there o2 second (length b2)) ≡ Ok (joined file (block_there o1 4 (length b1)) (block_there o2 second (length b2))) =
    cond-false (nat_lt (second + 8 + length b2) (length file)) _ _ all in
    let following : and_then (block_at file second (Some o1)) (λ (b : Block). ended file (block_there o1 4 (length b1)) b)
    ≡ Ok (joined file (block_there o1 4 (length b1)) (block_there o2 second (length b2))) =
    and_then_ok (block_at file second (Some o1)) (λ (b : Block). ended file (block_there o1 4 (length b1)) b) (block_there o2 second (length b2)) _ r2.0 last in
    let both : and_then (block_at file 4 None) (λ (a : Block). and_then (block_at file a.to (Some a.origin)) (λ (b : Block). ended file a b))
    ≡ Ok (joined file (block_there o1 4 (length b1)) (block_there o2 second (length b2))) =
    and_then_ok (block_at file 4 None) (λ (a : Block). and_then (block_at file a.to (Some a.origin)) (λ (b : Block). ended file a b)) (block_there o1 4 (length b1)) _ r1.0 following in
    let whole : image_read file ≡ Ok (joined file (block_there o1 4 (length b1)) (block_there o2 second (length b2))) =
    and_then_ok (field file 0)
    (λ (w : ℕ). if w == magic then and_then (block_at file 4 None) (λ (a : Block). and_then (block_at file a.to (Some a.origin)) (λ (b : Block). ended file a b)) else Err errors.BadMagic)
    magic _ word both in
    (whole, part_read file 12 b1 (block_of o2 b2) r1.1, part_read file (second + 8) b2 [] r2.1, r1.1, r2.1)

-- an image's file is read as that image
image_parts : (file : List ℕ) (image : ImageView) (text pool : Block) → slice_range file text.from text.to ≡ image.text →
    words_at file pool.from ((pool.to - pool.from) / 4) ≡ image.pool → image_of file text pool ≡ image
image_parts file image text pool e f = ap₂ (λ (xs ws : List ℕ). image_view xs ws) e f
  where
    image_view : List ℕ → List ℕ → ImageView
    image_view xs ws = record { text = xs; pool = ws }

pool_words : (file : List ℕ) (image : ImageView) (from : ℕ) (rest : List ℕ) → drop from file ≡ flat_map word_bytes image.pool ++ rest →
    words_at file from ((from + length (flat_map word_bytes image.pool) - from) / 4) ≡ image.pool
pool_words file image from rest e =
    let long : length (flat_map word_bytes image.pool) ≡ 4 * length image.pool = length-words image.pool in
    let many : (from + length (flat_map word_bytes image.pool) - from) / 4 ≡ length image.pool = omega arith in
    rw many (words_read file from image.pool rest e)

is_pool_size : (image : ImageView) → IsWithinLimits image.text image.pool → is_size pool_origin (length (flat_map word_bytes image.pool)) ≡ true
is_pool_size image fits =
    let long : length (flat_map word_bytes image.pool) ≡ 4 * length image.pool = length-words image.pool in
    let few : length image.pool ≤ 16384 = fits.pool_fits in
    let whole : length (flat_map word_bytes image.pool) % 4 ≡ 0 = omega arith in
    let small : length (flat_map word_bytes image.pool) ≤ 65536 = omega arith in
    grind (arith, nat_tests)

is_text_size : (image : ImageView) → IsWithinLimits image.text image.pool → is_size text_origin (length image.text) ≡ true
is_text_size image fits = let small : length image.text ≤ 65536 = fits.text_fits in grind (arith, nat_tests)

abbrev good : ImageView → Result ImageView ImageError
good image = Ok image

pub file-read : (file : List ℕ) (image : ImageView) → IsWithinLimits image.text image.pool → IsFileOf file image → image_read file ≡ Ok image
file-read file image fits is =
    let p : List ℕ = flat_map word_bytes image.pool in
    elim is [
      | inl e ↦ (
          let r = blocks_read file pool_origin text_origin p image.text e refl refl (is_pool_size image fits) (is_text_size image fits) in
          r.0 ∙ ap good (image_parts file image (block_there text_origin (12 + length p) (length image.text)) (block_there pool_origin 4 (length p)) r.2 (pool_words file image 12 _ r.3)))
      | inr e ↦ (
          let r = blocks_read file text_origin pool_origin image.text p e refl refl (is_text_size image fits) (is_pool_size image fits) in
          r.0 ∙ ap good (image_parts file image (block_there text_origin 4 (length image.text)) (block_there pool_origin (12 + length image.text) (length p)) r.1 (pool_words file image (12 + length image.text + 8) _ r.4)))
    ]

-- The other way round: what is read was written so.

and_then-ok : {A B : Type 0} (r : Result A ImageError) (next : A → Result B ImageError) (y : B) → and_then r next ≡ Ok y → (x : A) × (r ≡ Ok x) × (next x ≡ Ok y)
and_then-ok (Ok x) next y e = (x, refl, e)
and_then-ok (Err f) next y e = absurd (cc)

-- what a test chose
chose_ok : {A : Type 0} (t : Bool) (x y : Result A ImageError) (z : A) → (e : ImageError) → y ≡ Err e → (if t then x else y) ≡ Ok z → (t ≡ true) × (x ≡ Ok z)
chose_ok true x y z e bad is = (refl, is)
chose_ok false x y z e bad is = absurd (cc)

field-ok : (file : List ℕ) (place w : ℕ) → field file place ≡ Ok w → (place + 4 ≤ length file) × (word_at file place ≡ w)
field-ok file place w e =
    let c : (nat_le (place + 4) (length file) ≡ true) × (good_word (word_at file place) ≡ Ok w) =
    chose_ok (nat_le (place + 4) (length file)) (good_word (word_at file place)) (Err (errors.Truncated (length file))) w (errors.Truncated (length file)) refl e in
    let same : word_at file place ≡ w = let f : good_word (word_at file place) ≡ Ok w = c.1 in cc in
    (leb-true _ _ c.0, same)
  where
    good_word : ℕ → Result ℕ ImageError
    good_word x = Ok x

-- four bytes are those of their word
word_stands : (file : List ℕ) (place : ℕ) → All (λ (b : ℕ). b < 256) file → place + 4 ≤ length file → drop place file ≡ word_bytes (word_at file place) ++ drop (place + 4) file
word_stands file place small fits =
    let s0 : ℕ = slice_index file place in
    let s1 : ℕ = slice_index file (place + 1) in
    let s2 : ℕ = slice_index file (place + 2) in
    let s3 : ℕ = slice_index file (place + 2 + 1) in
    let h1 : s1 < 256 = byte_below file (place + 1) small in
    let h2 : s2 < 256 = byte_below file (place + 2) small in
    let h3 : s3 < 256 = byte_below file (place + 2 + 1) small in
    let upper : word_at file place / 65536 ≡ 256 * s0 + s1 = omega arith in
    let lower : word_at file place % 65536 ≡ 256 * s2 + s3 = omega arith in
    let p0 : word_at file place / 65536 / 256 ≡ s0 = rw upper (high s0 s1 h1) in
    let p1 : word_at file place / 65536 % 256 ≡ s1 = rw upper (low s0 s1 h1) in
    let p2 : word_at file place % 65536 / 256 ≡ s2 = rw lower (high s2 s3 h3) in
    let p3 : word_at file place % 65536 % 256 ≡ s3 = rw lower (low s2 s3 h3) in
    let i0 : place < length file = omega arith in
    let i1 : place + 1 < length file = omega arith in
    let i2 : place + 1 + 1 < length file = omega arith in
    let i3 : place + 1 + 1 + 1 < length file = omega arith in
    let two : place + 1 + 1 ≡ place + 2 = omega arith in
    let three : place + 1 + 1 + 1 ≡ place + 2 + 1 = omega arith in
    let four : place + 1 + 1 + 1 + 1 ≡ place + 4 = omega arith in
    let d0 : drop place file ≡ s0 ∷ drop (place + 1) file = drop_more file place 0 i0 in
    let d1 : drop (place + 1) file ≡ s1 ∷ drop (place + 1 + 1) file = drop_more file (place + 1) 0 i1 in
    let d2 : drop (place + 1 + 1) file ≡ slice_index file (place + 1 + 1) ∷ drop (place + 1 + 1 + 1) file = drop_more file (place + 1 + 1) 0 i2 in
    let d3 : drop (place + 1 + 1 + 1) file ≡ slice_index file (place + 1 + 1 + 1) ∷ drop (place + 1 + 1 + 1 + 1) file = drop_more file (place + 1 + 1 + 1) 0 i3 in
    let t2 : slice_index file (place + 1 + 1) ≡ s2 = ap (slice_index file) two in
    let t3 : slice_index file (place + 1 + 1 + 1) ≡ s3 = ap (slice_index file) three in
    let t4 : drop (place + 1 + 1 + 1 + 1) file ≡ drop (place + 4) file = ap (λ (n : ℕ). drop n file) four in
    cc

-- what is known of a block that was read at a place
record IsRead (file : List ℕ) (place : ℕ) (first : Option ℕ) (b : Block) : Type 0 where
  origin : is_origin first b.origin ≡ true
  size : is_size b.origin (b.to - b.from) ≡ true
  from : b.from ≡ place + 8
  ordered : b.from ≤ b.to
  inside : b.to ≤ length file
  stands : drop place file ≡ block_of b.origin (slice_range file b.from b.to) ++ drop b.to file

-- a part, and what is after it
parted : (file : List ℕ) (from size : ℕ) → drop from file ≡ slice_range file from (from + size) ++ drop (from + size) file
parted file from size =
    let many : from + size - from ≡ size = omega arith in
    let both : drop size (drop from file) ≡ drop (from + size) file = drop-drop size from file in
    rw many (sym (take-append-drop size (drop from file)) ∙ ap (λ (xs : List ℕ). take size (drop from file) ++ xs) both)

length-part : (file : List ℕ) (from size : ℕ) → from + size ≤ length file → length (slice_range file from (from + size)) ≡ size
length-part file from size fits =
    let many : from + size - from ≡ size = omega arith in
    let long : length (drop from file) ≡ length file - from = length-drop from file in
    let room : size ≤ length (drop from file) = omega arith in
    rw many (length-take-le size (drop from file) room)

block_stands : (file : List ℕ) (place : ℕ) (first : Option ℕ) (origin size : ℕ) → All (λ (b : ℕ). b < 256) file →
    place + 4 + 4 ≤ length file → word_at file place ≡ origin → word_at file (place + 4) ≡ size →
    is_origin first origin ≡ true → is_size origin size ≡ true → place + 8 + size ≤ length file →
    IsRead file place first (record { origin = origin; from = place + 8; to = place + 8 + size })
block_stands file place first origin size small head w0 w1 origin_ok size_ok fits =
    let many : place + 8 + size - (place + 8) ≡ size = omega arith in
    let front : place + 4 ≤ length file = omega arith in
    let part : List ℕ = slice_range file (place + 8) (place + 8 + size) in
    let eight : place + 4 + 4 ≡ place + 8 = omega arith in
    let d0 : drop place file ≡ word_bytes (word_at file place) ++ drop (place + 4) file = word_stands file place small front in
    let d1 : drop (place + 4) file ≡ word_bytes (word_at file (place + 4)) ++ drop (place + 4 + 4) file = word_stands file (place + 4) small head in
    let d2 : drop (place + 8) file ≡ part ++ drop (place + 8 + size) file = parted file (place + 8) size in
    let long : length part ≡ size = length-part file (place + 8) size fits in
    let f0 : drop place file ≡ word_bytes origin ++ drop (place + 4) file = d0 ∙ ap (λ (w : ℕ). word_bytes w ++ drop (place + 4) file) w0 in
    let f1 : drop (place + 4) file ≡ word_bytes (length part) ++ drop (place + 8) file =
    d1 ∙ ap (λ (w : ℕ). word_bytes w ++ drop (place + 4 + 4) file) (w1 ∙ sym long) ∙ ap (λ (n : ℕ). word_bytes (length part) ++ drop n file) eight in
    let f2 : drop place file ≡ word_bytes origin ++ (word_bytes (length part) ++ (part ++ drop (place + 8 + size) file)) =
    f0 ∙ ap (λ (xs : List ℕ). word_bytes origin ++ xs) (f1 ∙ ap (λ (xs : List ℕ). word_bytes (length part) ++ xs) d2) in
    record { origin = origin_ok; size = rw many size_ok; from = refl; ordered = omega arith; inside = fits; stands = f2 }

read_block : Block → Result Block ImageError
read_block b = Ok b

block-ok : (file : List ℕ) (place : ℕ) (first : Option ℕ) (b : Block) → All (λ (x : ℕ). x < 256) file → block_at file place first ≡ Ok b → IsRead file place first b
unfolding read_block
block-ok file place first b small e =
    let at1 : (origin : ℕ) × (field file place ≡ Ok origin)
    × ((if is_origin first origin then and_then (field file (place + 4)) (λ (size : ℕ). block_from file origin (place + 8) size) else Err (errors.BadOrigin origin)) ≡ Ok b) =
    and_then-ok (field file place)
    (λ (o : ℕ). if is_origin first o then and_then (field file (place + 4)) (λ (size : ℕ). block_from file o (place + 8) size) else Err (errors.BadOrigin o)) b e in
    let origin : ℕ = at1.0 in
    let f1 : (place + 4 ≤ length file) × (word_at file place ≡ origin) = field-ok file place origin at1.1 in
    let c1 : (is_origin first origin ≡ true) × (and_then (field file (place + 4)) (λ (size : ℕ). block_from file origin (place + 8) size) ≡ Ok b) =
    chose_ok (is_origin first origin) (and_then (field file (place + 4)) (λ (size : ℕ). block_from file origin (place + 8) size)) _ b (errors.BadOrigin origin) refl at1.2 in
    let at2 : (size : ℕ) × (field file (place + 4) ≡ Ok size) × (block_from file origin (place + 8) size ≡ Ok b) =
    and_then-ok (field file (place + 4)) (λ (size : ℕ). block_from file origin (place + 8) size) b c1.1 in
    let size : ℕ = at2.0 in
    let f2 : (place + 4 + 4 ≤ length file) × (word_at file (place + 4) ≡ size) = field-ok file (place + 4) size at2.1 in
    let there : Block = record { origin = origin; from = place + 8; to = place + 8 + size } in
    let c2 : (is_size origin size ≡ true) × ((if nat_le (place + 8 + size) (length file) then read_block there else Err (errors.Truncated (length file))) ≡ Ok b) =
    chose_ok (is_size origin size) (if nat_le (place + 8 + size) (length file) then read_block there else Err (errors.Truncated (length file))) _ b (errors.BadSize size) refl at2.2 in
    let c3 : (nat_le (place + 8 + size) (length file) ≡ true) × (read_block there ≡ Ok b) =
    chose_ok (nat_le (place + 8 + size) (length file)) (read_block there) _ b (errors.Truncated (length file)) refl c2.1 in
    let same : there ≡ b = let f : read_block there ≡ Ok b = c3.1 in cc in
    subst (λ (x : Block). IsRead file place first x) same (block_stands file place first origin size small f2.0 f1.1 f2.1 c1.0 c2.0 (leb-true _ _ c3.0))

words_back : (file : List ℕ) (place n : ℕ) → All (λ (b : ℕ). b < 256) file → place + 4 * n ≤ length file →
    drop place file ≡ flat_map word_bytes (words_at file place n) ++ drop (place + 4 * n) file
words_back file place zero small fits = ap (λ (k : ℕ). drop k file) (let e : place ≡ place + 4 * 0 = omega arith in e)
words_back file place (suc n) small fits =
    let more : place + 4 + 4 * n ≤ length file = omega arith in
    let front : place + 4 ≤ length file = omega arith in
    let head : drop place file ≡ word_bytes (word_at file place) ++ drop (place + 4) file = word_stands file place small front in
    let tail : drop (place + 4) file ≡ flat_map word_bytes (words_at file (place + 4) n) ++ drop (place + 4 + 4 * n) file = words_back file (place + 4) n small more in
    let last : place + 4 + 4 * n ≡ place + 4 * suc n = omega arith in
    head ∙ ap (λ (xs : List ℕ). word_bytes (word_at file place) ++ xs) (tail ∙ ap (λ (k : ℕ). flat_map word_bytes (words_at file (place + 4) n) ++ drop k file) last)

pub length-words_at : (file : List ℕ) (place n : ℕ) → length (words_at file place n) ≡ n
length-words_at file place zero = refl
length-words_at file place (suc n) = ap suc (length-words_at file (place + 4) n)

-- the bytes of a pool are those of its words
pool_back : (file : List ℕ) (b : Block) → All (λ (x : ℕ). x < 256) file → b.from ≤ b.to → b.to ≤ length file → (b.to - b.from) % 4 ≡ 0 →
    slice_range file b.from b.to ≡ flat_map word_bytes (words_at file b.from ((b.to - b.from) / 4))
pool_back file b small ordered inside even =
    let n : ℕ = (b.to - b.from) / 4 in
    let all : b.from + 4 * n ≡ b.to = omega arith in
    let fits : b.from + 4 * n ≤ length file = omega arith in
    let ws : List ℕ = words_at file b.from n in
    let back : drop b.from file ≡ flat_map word_bytes ws ++ drop (b.from + 4 * n) file = words_back file b.from n small fits in
    let long : length (flat_map word_bytes ws) ≡ 4 * n = length-words ws ∙ ap (λ (k : ℕ). 4 * k) (length-words_at file b.from n) in
    let to : b.from + length (flat_map word_bytes ws) ≡ b.to = ap (λ (k : ℕ). b.from + k) long ∙ all in
    subst (λ (k : ℕ). slice_range file b.from k ≡ flat_map word_bytes ws) to (part_read file b.from (flat_map word_bytes ws) _ back)

not_first : (o : ℕ) → is_origin (Some text_origin) o ≡ true → o ≡ pool_origin
not_first o h = grind (arith, nat_tests)

then_pool : (o : ℕ) → is_origin None o ≡ true → (o == text_origin) ≡ false → o ≡ pool_origin
then_pool o h n = grind (arith, nat_tests)

then_text : (o : ℕ) → is_origin (Some pool_origin) o ≡ true → o ≡ text_origin
then_text o h = grind (arith, nat_tests)

whole_words : (size : ℕ) → is_size pool_origin size ≡ true → size % 4 ≡ 0
whole_words size h = grind (arith, nat_tests)

image_from : (file : List ℕ) (a b : Block) (image : ImageView) → All (λ (x : ℕ). x < 256) file → IsRead file 4 None a → IsRead file a.to (Some a.origin) b →
    file ≡ word_bytes magic ++ (block_of a.origin (slice_range file a.from a.to) ++ block_of b.origin (slice_range file b.from b.to)) →
    (t : Bool) → (a.origin == text_origin) ≡ t → (if t then image_of file a b else image_of file b a) ≡ image → IsFileOf file image
image_from file a b image small ra rb e true is joined =
    let text : a.origin ≡ text_origin = eqb-true a.origin text_origin is in
    let pool : b.origin ≡ pool_origin = not_first b.origin (subst (λ (o : ℕ). is_origin (Some o) b.origin ≡ true) text rb.origin) in
    let even : (b.to - b.from) % 4 ≡ 0 = whole_words (b.to - b.from) (subst (λ (o : ℕ). is_size o (b.to - b.from) ≡ true) pool rb.size) in
    let bytes : slice_range file b.from b.to ≡ flat_map word_bytes (words_at file b.from ((b.to - b.from) / 4)) = pool_back file b small rb.ordered rb.inside even in
    let whole : file ≡ text_first (image_of file a b) = e ∙ rw (text, pool, bytes) refl in
    inr (subst (λ (v : ImageView). file ≡ text_first v) joined whole)
image_from file a b image small ra rb e false is joined =
    let pool : a.origin ≡ pool_origin = then_pool a.origin ra.origin is in
    let text : b.origin ≡ text_origin = then_text b.origin (subst (λ (o : ℕ). is_origin (Some o) b.origin ≡ true) pool rb.origin) in
    let even : (a.to - a.from) % 4 ≡ 0 = whole_words (a.to - a.from) (subst (λ (o : ℕ). is_size o (a.to - a.from) ≡ true) pool ra.size) in
    let bytes : slice_range file a.from a.to ≡ flat_map word_bytes (words_at file a.from ((a.to - a.from) / 4)) = pool_back file a small ra.ordered ra.inside even in
    let whole : file ≡ file_of (image_of file b a) = e ∙ rw (text, pool, bytes) refl in
    inl (subst (λ (v : ImageView). file ≡ file_of v) joined whole)

pub file-was : (file : List ℕ) (image : ImageView) → All (λ (b : ℕ). b < 256) file → image_read file ≡ Ok image → IsFileOf file image
file-was file image small e =
    let blocks : Result ImageView ImageError = and_then (block_at file 4 None) (λ (a : Block). and_then (block_at file a.to (Some a.origin)) (λ (b : Block). ended file a b)) in
    let at1 : (w : ℕ) × (field file 0 ≡ Ok w) × ((if w == magic then blocks else Err errors.BadMagic) ≡ Ok image) =
    and_then-ok (field file 0)
    (λ (w : ℕ). if w == magic then and_then (block_at file 4 None) (λ (a : Block). and_then (block_at file a.to (Some a.origin)) (λ (b : Block). ended file a b)) else Err errors.BadMagic)
    image e in
    let w : ℕ = at1.0 in
    let f1 : (0 + 4 ≤ length file) × (word_at file 0 ≡ w) = field-ok file 0 w at1.1 in
    let c1 : ((w == magic) ≡ true) × (blocks ≡ Ok image) = chose_ok (w == magic) blocks _ image errors.BadMagic refl at1.2 in
    let magical : w ≡ magic = eqb-true w magic c1.0 in
    let at2 : (a : Block) × (block_at file 4 None ≡ Ok a) × (and_then (block_at file a.to (Some a.origin)) (λ (b : Block). ended file a b) ≡ Ok image) =
    and_then-ok (block_at file 4 None) (λ (a : Block). and_then (block_at file a.to (Some a.origin)) (λ (b : Block). ended file a b)) image c1.1 in
    let a : Block = at2.0 in
    let at3 : (b : Block) × (block_at file a.to (Some a.origin) ≡ Ok b) × (ended file a b ≡ Ok image) =
    and_then-ok (block_at file a.to (Some a.origin)) (λ (b : Block). ended file a b) image at2.2 in
    let b : Block = at3.0 in
    let ra : IsRead file 4 None a = block-ok file 4 None a small at2.1 in
    let rb : IsRead file a.to (Some a.origin) b = block-ok file a.to (Some a.origin) b small at3.1 in
    let last : (nat_lt b.to (length file) ≡ false) × (joined file a b ≡ image) = end_ok (nat_lt b.to (length file)) b.to (joined file a b) image at3.2 in
    let over : length file ≤ b.to = let t : nat_lt b.to (length file) ≡ false = last.0 in grind (arith, nat_tests) in
    let none : drop b.to file ≡ [] = drop_all b.to file over in
    let front : drop 0 file ≡ word_bytes (word_at file 0) ++ drop 4 file = word_stands file 0 small f1.0 in
    let whole : file ≡ word_bytes magic ++ (block_of a.origin (slice_range file a.from a.to) ++ block_of b.origin (slice_range file b.from b.to)) =
    front
    ∙ ap (λ (x : ℕ). word_bytes x ++ drop 4 file) (f1.1 ∙ magical)
    ∙ ap (λ (xs : List ℕ). word_bytes magic ++ xs)
    (ra.stands
    ∙ ap (λ (xs : List ℕ). block_of a.origin (slice_range file a.from a.to) ++ xs)
    (rb.stands ∙ ap (λ (xs : List ℕ). block_of b.origin (slice_range file b.from b.to) ++ xs) none ∙ append-nil _)) in
    image_from file a b image small ra rb whole (a.origin == text_origin) refl last.1
  where
    end_ok : (t : Bool) (to : ℕ) (x image : ImageView) → (if t then Err (errors.Trailing to) else good x) ≡ Ok image → (t ≡ false) × (x ≡ image)
    end_ok true to x image e = absurd (cc)
    end_ok false to x image e = (refl, let f : good x ≡ Ok image = e in (cc))

words_at_end : (file : List ℕ) (place n : ℕ) → words_at file place (suc n) ≡ words_at file place n ++ word_at file (place + 4 * n) ∷ []
words_at_end file place zero = let e : place ≡ place + 4 * 0 = omega arith in ap (λ (k : ℕ). word_at file k ∷ []) e
words_at_end file place (suc n) =
    let e : place + 4 + 4 * n ≡ place + 4 * suc n = omega arith in
    ap (λ (ws : List ℕ). word_at file place ∷ ws) (words_at_end file (place + 4) n ∙ ap (λ (k : ℕ). words_at file (place + 4) n ++ word_at file k ∷ []) e)

-- one word more
pub words_at-more : (file : List ℕ) (place n : ℕ) → words_at file place (n + 1) ≡ words_at file place n ++ word_at file (place + 4 * n) ∷ []
words_at-more file place n = rw (add-one n) (words_at_end file place n)

-- What the reader promises, from the exact reading.

pub read-ok : (file : List ℕ) (r : Result ImageView ImageError) → All (λ (b : ℕ). b < 256) file → IfOk r (λ image. image_read file ≡ Ok image) → IfOk r (λ image. IsFileOf file image)
read-ok file (Ok image) small e = file-was file image small e
read-ok file (Err e) small h = h

pub read-reads : (file : List ℕ) (r : Result ImageView ImageError) → IfOk r (λ image. image_read file ≡ Ok image) → IfErr r (λ e. (e ≡ errors.OutOfMemory) ⊎ (image_read file ≡ Err e)) →
    (image : ImageView) → IsWithinLimits image.text image.pool → IsFileOf file image → (r ≡ Ok image) ⊎ (r ≡ Err errors.OutOfMemory)
read-reads file (Ok i) ok err image fits is = inl (let read : image_read file ≡ Ok image = file-read file image fits is in let was : image_read file ≡ Ok i = ok in cc)
read-reads file (Err e) ok err image fits is =
    let read : image_read file ≡ Ok image = file-read file image fits is in
    elim err [ inl f ↦ inr (ap bad f) | inr f ↦ absurd (let was : image_read file ≡ Err e = f in cc) ]
  where
    bad : ImageError → Result ImageView ImageError
    bad e = Err e

-- the bytes of one word more
pub flat_words-more : (words : List ℕ) (i : ℕ) → i < length words → flat_map word_bytes (take (i + 1) words) ≡ flat_map word_bytes (take i words) ++ word_bytes (slice_index words i)
flat_words-more words i inside =
    ap (flat_map word_bytes) (take_more words i 0 inside) ∙ flat_map-append word_bytes (take i words) (slice_index words i ∷ [])
