-- Words in pages, through a new frame and a write.
use Rattle.std.proofs.Common.{◌≡◌, ◌≢◌, ℕ, ◌+◌, ◌-◌, ◌*◌, ◌/◌, ◌%◌, ◌^◌, ◌<◌, ◌≤◌, ◌++◌, ⊎_elim, cond, ltb, List, length, take, get_or, set, replicate, sym, ap, ◌∙◌, subst, arith}
use Rattle.std.specs.Int.{div_ceil}
use Rattle.std.proofs.lemmas.List.{length-append, length-set, get_or_append_left, get_or-append-add, get_or-set_same, get_or-set_other, get_or_past, get_or-replicate, length-replicate, take_all, ext_get_or}
use Rattle.std.proofs.lemmas.List.FromFn.{length-map-range_with_len, get_or-map-range_with_len}
use Rattle.std.proofs.lemmas.List.Sums.{sum_by-set, count_by-le-length}
use Rattle.std.proofs.lemmas.List.Folds.{sum_by-replicate}
use Rattle.std.proofs.lemmas.Bool.{cases_eq, cases_lt, lt-ltb}
use Rattle.std.proofs.lemmas.Grind.{div_ceil_times}
use Rattle.console_port.specs.Prelude.{ArePaged, empty_frame, HasRoom, place_in_frames, words_of, framed}

pub length-words_of : (table frames : List ℕ) (size : ℕ) → length (words_of table frames size) ≡ size
unfolding words_of
length-words_of table frames size = length-map-range_with_len _ 0 size

pub word_of_pages : (table frames : List ℕ) (size at : ℕ) → at < size → get_or (words_of table frames size) at 0 ≡ get_or frames (place_in_frames table at) 0
unfolding words_of
word_of_pages table frames size at h = get_or-map-range_with_len _ 0 size at at 0 h (omega arith)

-- where the frames hold words, so does the memory
pub words_of_frames : (table frames : List ℕ) (size : ℕ) → ((i : ℕ) → get_or frames i 0 < 2 ^ 32) → (at : ℕ) → get_or (words_of table frames size) at 0 < 2 ^ 32
words_of_frames table frames size small at = ⊎_elim
    (λ (h : at < size). omega (arith, word_of_pages table frames size at h, small (place_in_frames table at)))
    (λ (h : size ≤ at). omega (arith, get_or_past (words_of table frames size) at 0 (omega (arith, length-words_of table frames size))))
    (cases_lt at size)

-- memories with the same words
same_words : (table frames table' frames' : List ℕ) (size : ℕ) →
    ((at : ℕ) → at < size → get_or frames' (place_in_frames table' at) 0 ≡ get_or frames (place_in_frames table at) 0) → words_of table' frames' size ≡ words_of table frames size
same_words table frames table' frames' size same =
    ext_get_or 0 _ _ (length-words_of table' frames' size ∙ sym (length-words_of table frames size))
    (λ at h.
    let below : at < size = omega (arith, length-words_of table' frames' size) in
    word_of_pages table' frames' size at below ∙ (same at below ∙ sym (word_of_pages table frames size at below)))

-- a list of zeros
abbrev pub zeros : ℕ → List ℕ
zeros n = replicate n 0

length-zeros : (n : ℕ) → length (zeros n) ≡ n
length-zeros n = length-replicate {A = ℕ} n 0

zero_at : (n k : ℕ) → get_or (zeros n) k 0 ≡ 0
zero_at n k = ⊎_elim
    (λ (h : k < n). get_or-replicate {A = ℕ} n k 0 0 h)
    (λ (h : n ≤ k). get_or_past (zeros n) k 0 (omega (arith, length-zeros n)))
    (cases_lt k n)

length-empty_frame : length empty_frame ≡ 1024
unfolding empty_frame
length-empty_frame = length-zeros 1024

empty_at : (k : ℕ) → get_or empty_frame k 0 ≡ 0
unfolding empty_frame
empty_at k = zero_at 1024 k

-- what a list has after it was made longer by a frame
pub resized : (xs : List ℕ) (n len : ℕ) → len ≡ length xs → n ≡ len + 1024 → take n xs ++ zeros (n - len) ≡ xs ++ empty_frame
unfolding empty_frame
resized xs n len e f =
    let all : take n xs ≡ xs = take_all n xs (omega arith) in
    let more : n - len ≡ 1024 = omega arith in
    ap (λ ys. ys ++ zeros (n - len)) all ∙ ap (λ (k : ℕ). xs ++ zeros k) more

-- a page that gets a frame is one more page with a frame
pub framed_more : (table : List ℕ) (page free : ℕ) → page < length table → get_or table page 0 ≡ 0 → 0 < free → framed (set table page free) ≡ framed table + 1
unfolding framed
framed_more table page free h none some =
    let f : ℕ → ℕ = λ start. cond (ltb 0 start) 1 0 in
    let was : f (get_or table page 0) ≡ 0 = ap f none in
    let is : f free ≡ 1 = ap (λ b. cond b 1 0) (lt-ltb 0 free some) in
    omega (arith, sum_by-set f table page free 0 h)

pub framed-le : (table : List ℕ) → framed table ≤ length table
unfolding framed
framed-le table = count_by-le-length _ table

-- where a page has no frame, there is room for one more
pub framed_below : (table : List ℕ) (page : ℕ) → page < length table → get_or table page 0 ≡ 0 → framed table < length table
framed_below table page h none = omega (arith, framed_more table page 1 h none (omega arith), framed-le (set table page 1), length-set table page 1)

module _ (table frames : List ℕ) (size : ℕ) (paged : ArePaged table frames size) where
  -- a frame lies among those that were made
  pub within_frame : (page : ℕ) → get_or table page 0 + 1024 ≤ length frames
  within_frame page = let e = paged.frames_made in let w = paged.whole page in let t = paged.taken page in omega arith

  module _ (page : ℕ) (within : page < length table) (none : get_or table page 0 ≡ 0) where
    pub room_for_frame : (room : ℕ) → HasRoom table room → length frames + 1024 ≤ room
    room_for_frame room h = omega (arith, paged.frames_made, framed_below table page within none)

    positive : 0 < length frames
    positive = omega (arith, paged.frames_made)

    here : get_or (set table page (length frames)) page 0 ≡ length frames
    here = get_or-set_same table page (length frames) 0 within

    there : (other : ℕ) → other ≢ page → get_or (set table page (length frames)) other 0 ≡ get_or table other 0
    there other ne = get_or-set_other table page other (length frames) 0 ne

    longer : length (frames ++ empty_frame) ≡ length frames + 1024
    longer = length-append frames empty_frame ∙ ap (λ (n : ℕ). length frames + n) (length-empty_frame)

    own_frame : (p q : ℕ) → get_or (set table page (length frames)) p 0 ≢ 0
        → get_or (set table page (length frames)) p 0 ≡ get_or (set table page (length frames)) q 0 → p ≡ q
    own_frame p q some same =
        ⊎_elim
        (λ (e : p ≡ page). ⊎_elim
        (λ (f : q ≡ page). e ∙ sym f)
        (λ (f : q ≢ page). absurd (omega (arith, here, ap (λ (n : ℕ). get_or (set table page (length frames)) n 0) e, same, there q f, paged.taken q)))
        (cases_eq q page))
        (λ (e : p ≢ page). ⊎_elim
        (λ (f : q ≡ page). absurd (omega (arith, here, ap (λ (n : ℕ). get_or (set table page (length frames)) n 0) f, same, there p e, paged.taken p)))
        (λ (f : q ≢ page). paged.own p q (subst (λ n. n ≢ 0) (there p e) some) (sym (there p e) ∙ (same ∙ there q f)))
        (cases_eq q page))
        (cases_eq p page)

    pub paged_more : ArePaged (set table page (length frames)) (frames ++ empty_frame) size
    paged_more =
        record {
          pages = omega (arith, length-set table page (length frames), paged.pages);
          frames_made = omega (arith, longer, framed_more table page (length frames) within none positive, paged.frames_made);
          whole = λ p. ⊎_elim
              (λ (e : p ≡ page). subst (λ n. get_or (set table page (length frames)) n 0 % 1024 ≡ 0) (sym e) (ap (λ (n : ℕ). n % 1024) here ∙ frames_whole))
              (λ (e : p ≢ page). ap (λ (n : ℕ). n % 1024) (there p e) ∙ paged.whole p)
              (cases_eq p page);
          taken = λ p. ⊎_elim
              (λ (e : p ≡ page). omega (arith, longer, here, ap (λ (n : ℕ). get_or (set table page (length frames)) n 0) e))
              (λ (e : p ≢ page). omega (arith, longer, there p e, paged.taken p))
              (cases_eq p page);
          own = own_frame;
          unmapped = λ at h. get_or_append_left frames empty_frame 0 at (omega (arith, paged.frames_made)) ∙ paged.unmapped at h;
        }
      where
        frames_whole : length frames % 1024 ≡ 0
        frames_whole = let e = paged.frames_made in omega arith

    pub words_same : words_of (set table page (length frames)) (frames ++ empty_frame) size ≡ words_of table frames size
    words_same = same_words table frames (set table page (length frames)) (frames ++ empty_frame) size
        (λ at h. ⊎_elim
        (λ (e : at / 1024 ≡ page).
        let was : get_or table (at / 1024) 0 ≡ 0 = ap (λ (n : ℕ). get_or table n 0) e ∙ none in
        let is : get_or (set table page (length frames)) (at / 1024) 0 ≡ length frames = ap (λ (n : ℕ). get_or (set table page (length frames)) n 0) e ∙ here in
        ap (λ (n : ℕ). get_or (frames ++ empty_frame) (n + at % 1024) 0) is
        ∙ (get_or-append-add frames empty_frame (at % 1024) 0 ∙ (empty_at (at % 1024) ∙ sym (paged.unmapped _ (omega arith)))))
        (λ (e : at / 1024 ≢ page).
        ap (λ (n : ℕ). get_or (frames ++ empty_frame) (n + at % 1024) 0) (there (at / 1024) e)
        ∙ get_or_append_left frames empty_frame 0 (place_in_frames table at) (omega (arith, within_frame (at / 1024))))
        (cases_eq (at / 1024) page))

  module _ (at value : ℕ) (within : at < size) (has_frame : get_or table (at / 1024) 0 ≢ 0) where
    pub place_within : place_in_frames table at < length frames
    place_within = omega (arith, within_frame (at / 1024))

    pub paged_write : ArePaged table (set frames (place_in_frames table at) value) size
    paged_write =
        record {
          pages = paged.pages;
          frames_made = length-set frames (place_in_frames table at) value ∙ paged.frames_made;
          whole = paged.whole;
          taken = λ page. omega (arith, length-set frames (place_in_frames table at) value, paged.taken page);
          own = paged.own;
          unmapped = λ k h.
              let w = paged.whole (at / 1024) in
              let ne : k ≢ place_in_frames table at = omega arith in
              get_or-set_other frames (place_in_frames table at) k value 0 ne ∙ paged.unmapped k h;
        }

    -- two addresses have two places, where one is on a page with a frame
    apart : (k : ℕ) → k ≢ at → place_in_frames table k ≢ place_in_frames table at
    apart k ne same =
        let w = paged.whole (at / 1024) in
        let v = paged.whole (k / 1024) in
        let starts : get_or table (at / 1024) 0 ≡ get_or table (k / 1024) 0 = omega arith in
        let pages : at / 1024 ≡ k / 1024 = paged.own (at / 1024) (k / 1024) has_frame starts in
        ne (omega arith)

    pub words_write : words_of table (set frames (place_in_frames table at) value) size ≡ set (words_of table frames size) at value
    words_write =
        let frames' : List ℕ = set frames (place_in_frames table at) value in
        let words : List ℕ = words_of table frames size in
        ext_get_or 0 _ _ (length-words_of table frames' size ∙ sym (length-set words at value ∙ length-words_of table frames size))
        (λ k h.
        let below : k < size = omega (arith, length-words_of table frames' size) in
        let here : at < length words = omega (arith, length-words_of table frames size) in
        word_of_pages table frames' size k below ∙
        ⊎_elim
        (λ (e : k ≡ at).
        ap (λ (n : ℕ). get_or frames' (place_in_frames table n) 0) e ∙ (get_or-set_same frames (place_in_frames table at) value 0 place_within ∙
        sym (ap (λ (n : ℕ). get_or (set words at value) n 0) e ∙ get_or-set_same words at value 0 here)))
        (λ (e : k ≢ at).
        get_or-set_other frames (place_in_frames table at) (place_in_frames table k) value 0 (apart k e) ∙
        sym (get_or-set_other words at k value 0 e ∙ word_of_pages table frames size k below))
        (cases_eq k at))

pub paged_zeros : (size : ℕ) → ArePaged (zeros (div_ceil size 1024)) empty_frame size
unfolding framed
paged_zeros size =
    let pages : ℕ = div_ceil size 1024 in
    let none : framed (zeros pages) ≡ 0 = omega (arith, sum_by-replicate (λ (start : ℕ). cond (ltb 0 start) 1 0) pages 0) in
    record {
      pages = omega (arith, length-zeros pages, (div_ceil_times size 1024 (omega arith)).0);
      frames_made = length-empty_frame ∙ ap (λ (n : ℕ). 1024 * (n + 1)) (sym none);
      whole = λ page. ap (λ (n : ℕ). n % 1024) (zero_at pages page);
      taken = λ page. omega (arith, length-empty_frame, zero_at pages page);
      own = λ page other some same. absurd (some (zero_at pages page));
      unmapped = λ at h. empty_at at;
    }

pub words_zero : (table : List ℕ) (size : ℕ) → words_of table empty_frame size ≡ zeros size
words_zero table size =
    ext_get_or 0 _ _ (length-words_of table empty_frame size ∙ sym (length-zeros size))
    (λ at h.
    let below : at < size = omega (arith, length-words_of table empty_frame size) in
    word_of_pages table empty_frame size at below ∙ (empty_at (place_in_frames table at) ∙ sym (zero_at size at)))
