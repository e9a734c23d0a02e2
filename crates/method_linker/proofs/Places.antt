-- Places of lines in a unit's code.
use Rattle.method_linker.proofs.Common.{◌≡◌, ℕ, pos, ◌-ℤ◌, ◌+◌, ◌<◌, ◌≤◌, ◌^◌, List, [], ◌∷◌, ◌++◌, length, map, get_or, ap, ◌∙◌, zero-add, to_z, of_z, arith}
use Rattle.method_linker.proofs.Common.{range_with_len, sum_by, w32, ints, sum_by-take-le, sum_by_more, CodeLine, line_size, line_address, line_places}
use Rattle.std.proofs.lemmas.List.FromFn.{map-range_with_len_more, length-map-range_with_len, get_or-map-range_with_len}

-- one more place, after the places so far
pub places_more : (lines : List CodeLine) (n place : ℕ) (places more : List ℕ) → places ≡ map (line_address lines) (range_with_len 0 n) →
    place ≡ line_address lines n → more ≡ places ++ place ∷ [] → more ≡ map (line_address lines) (range_with_len 0 (n + 1))
places_more lines n place places more so_far here pushed =
    let step = map-range_with_len_more (line_address lines) 0 n n (zero-add n) in
    cc

pub length-line_places : (lines : List CodeLine) → length (line_places lines) ≡ length lines
unfolding line_places
length-line_places lines = length-map-range_with_len (line_address lines) 0 (length lines)

place_of : (lines : List CodeLine) (k : ℕ) → k < length lines → get_or (line_places lines) k 0 ≡ line_address lines k
unfolding line_places
place_of lines k h = get_or-map-range_with_len (line_address lines) 0 (length lines) k k 0 h (zero-add k)

pub place_is : (lines : List CodeLine) (places : List ℕ) (k : ℕ) → places ≡ line_places lines → k < length lines → get_or places k 0 ≡ line_address lines k
place_is lines places k e h = ap (λ ps. get_or ps k 0) e ∙ place_of lines k h

pub place_in : (lines : List CodeLine) (places : List ℕ) (k : ℕ) → places ≡ line_places lines → k < length lines → k < length places
place_in lines places k e h = omega (arith, ap length e, length-line_places lines)

pub place_fits : (lines : List CodeLine) (places : List ℕ) (k : ℕ) → places ≡ line_places lines → k < length lines →
    sum_by line_size lines < 2 ^ 31 → get_or places k 0 < 2 ^ 31
place_fits lines places k e h few = omega (arith, place_is lines places k e h, sum_by-take-le line_size lines k)

-- a difference of places, as the code computes it
pub apart : (a b x y : ℕ) → a ≡ x → b ≡ y → a < 2 ^ 31 → b < 2 ^ 31 → to_z w32 (of_z w32 (to_z w32 a -ℤ to_z w32 b)) ≡ pos x -ℤ pos y
apart a b x y is_a is_b fits_a fits_b = omega (arith, ints)

pub places_all : (lines : List CodeLine) (n : ℕ) (places : List ℕ) → n ≤ length lines → length lines ≤ n →
    places ≡ map (line_address lines) (range_with_len 0 n) → places ≡ line_places lines
unfolding line_places
places_all lines n places within past so_far =
    let all : n ≡ length lines = omega arith in
    so_far ∙ ap (λ m. map (line_address lines) (range_with_len 0 m)) all

-- one more line, after the lines so far
pub place_more : (lines : List CodeLine) (n : ℕ) (d : CodeLine) (place size : ℕ) → n < length lines → place ≡ line_address lines n →
    size ≡ line_size (get_or lines n d) → place + size ≡ line_address lines (n + 1)
place_more lines n d place size h here is = omega (arith, sum_by_more line_size lines n d h)
