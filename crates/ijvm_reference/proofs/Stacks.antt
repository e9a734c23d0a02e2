-- A stack kept in a list whose end is the top.
use Rattle.std.proofs.Common.{◌≡◌, ◌==◌, false, ◌<◌, ◌≤◌, ℕ, ◌-◌, List, [], ◌∷◌, ◌++◌, length, take, drop, reverse, replicate, map, append_assoc}
use Rattle.std.proofs.Common.{slice_index, Option, Some, None, refl, ap, ap₂, sym, ◌∙◌, arith, length-drop, take-append-drop}
use Rattle.std.proofs.lemmas.List.{reverse-append, reverse-reverse, length-reverse, get_or-reverse, map-append}
use Rattle.std.proofs.Math.Seq.{take-append_seam, drop-append_seam}
use Rattle.ijvm_meaning.specs.Prelude.{are_equal, onto}
use Rattle.ijvm_reference.specs.Prelude.{IsSwapped}

pub reverse_end : {A : Type 0} (xs : List A) (x : A) → reverse (xs ++ x ∷ []) ≡ x ∷ reverse xs
reverse_end xs x = reverse-append xs (x ∷ [])

-- the last n values, and those before them
parts_reversed : (xs : List ℕ) (n : ℕ) → reverse xs ≡ reverse (drop (length xs - n) xs) ++ reverse (take (length xs - n) xs)
parts_reversed xs n = ap reverse (sym (take-append-drop (length xs - n) xs)) ∙ reverse-append (take (length xs - n) xs) (drop (length xs - n) xs)

length-last : (xs : List ℕ) (n : ℕ) → n ≤ length xs → length (reverse (drop (length xs - n) xs)) ≡ n
length-last xs n few =
    let long : length (drop (length xs - n) xs) ≡ length xs - (length xs - n) = length-drop (length xs - n) xs in
    length-reverse (drop (length xs - n) xs) ∙ long ∙ (let e : length xs - (length xs - n) ≡ n = omega arith in e)

pub take_reverse : (xs : List ℕ) (n : ℕ) → n ≤ length xs → take n (reverse xs) ≡ reverse (drop (length xs - n) xs)
take_reverse xs n few =
    let front : List ℕ = reverse (drop (length xs - n) xs) in
    ap (λ (ys : List ℕ). take n ys) (parts_reversed xs n)
    ∙ ap (λ (k : ℕ). take k (front ++ reverse (take (length xs - n) xs))) (sym (length-last xs n few))
    ∙ take-append_seam front (reverse (take (length xs - n) xs))

pub drop_reverse : (xs : List ℕ) (n : ℕ) → n ≤ length xs → drop n (reverse xs) ≡ reverse (take (length xs - n) xs)
drop_reverse xs n few =
    let front : List ℕ = reverse (drop (length xs - n) xs) in
    ap (λ (ys : List ℕ). drop n ys) (parts_reversed xs n)
    ∙ ap (λ (k : ℕ). drop k (front ++ reverse (take (length xs - n) xs))) (sym (length-last xs n few))
    ∙ drop-append_seam front (reverse (take (length xs - n) xs))

-- the parameters in front of a method's own locals, in order
abbrev set : ℕ → Option ℕ
set x = Some x

pub onto-map : (ps : List ℕ) (locals : List (Option ℕ)) → onto ps locals ≡ map set (reverse ps) ++ locals
onto-map [] locals = refl
onto-map (p ∷ ps) locals =
    let later : onto ps (Some p ∷ locals) ≡ map set (reverse ps) ++ (Some p ∷ locals) = onto-map ps (Some p ∷ locals) in
    let turned : reverse (p ∷ ps) ≡ reverse ps ++ p ∷ [] = reverse-append (p ∷ []) ps in
    let split : map set (reverse ps ++ p ∷ []) ≡ map set (reverse ps) ++ (Some p ∷ []) = map-append set (reverse ps) (p ∷ []) in
    later ∙ sym (append_assoc (map set (reverse ps)) (Some p ∷ []) locals) ∙ ap (λ (xs : List (Option ℕ)). xs ++ locals) (sym split ∙ ap (map set) (sym turned))

pub method_locals : (xs : List ℕ) (n others : ℕ) → n ≤ length xs →
    None ∷ onto (take n (reverse xs)) (replicate others None) ≡ ((None ∷ []) ++ map set (drop (length xs - n) xs)) ++ replicate others None
method_locals xs n others few =
    ap (λ (locals : List (Option ℕ)). None ∷ locals)
    (onto-map (take n (reverse xs)) (replicate others None)
    ∙ ap (λ (ps : List ℕ). map set (reverse ps) ++ replicate others None) (take_reverse xs n few)
    ∙ ap (λ (ps : List ℕ). map set ps ++ replicate others None) (reverse-reverse (drop (length xs - n) xs)))

equal_at : (xs : List ℕ) → 2 ≤ length xs → are_equal xs ≡ (slice_index xs 1 == slice_index xs 0)
equal_at [] two = absurd (omega arith)
equal_at (y ∷ []) two = absurd (omega arith)
equal_at (y ∷ x ∷ xs) two = refl

pub are_equal_last : (xs : List ℕ) → 2 ≤ length xs → are_equal (reverse xs) ≡ (slice_index xs (length xs - 1 - 1) == slice_index xs (length xs - 1))
are_equal_last xs two =
    let last : length xs - 1 - 0 ≡ length xs - 1 = omega arith in
    equal_at (reverse xs) (omega (arith, length-reverse xs))
    ∙ ap₂ (λ (x y : ℕ). x == y) (get_or-reverse xs 1 0 (omega arith)) (get_or-reverse xs 0 0 (omega arith) ∙ ap (slice_index xs) last)

pub are_equal_few : (xs : List ℕ) → length xs < 2 → are_equal (reverse xs) ≡ false
are_equal_few [] few = refl
are_equal_few (x ∷ []) few = refl
are_equal_few (x ∷ y ∷ ys) few = absurd (omega arith)

-- the last two exchanged
pub swapped_ends : (front old new : List ℕ) (x y : ℕ) → old ≡ (front ++ x ∷ []) ++ y ∷ [] → new ≡ (front ++ y ∷ []) ++ x ∷ [] →
    IsSwapped (reverse old) (reverse new)
swapped_ends front old new x y is now = (y, x, reverse front, ap reverse is ∙ turned x y, ap reverse now ∙ turned y x)
  where
    turned : (a b : ℕ) → reverse ((front ++ a ∷ []) ++ b ∷ []) ≡ b ∷ a ∷ reverse front
    turned a b = reverse_end (front ++ a ∷ []) b ∙ ap (λ (xs : List ℕ). b ∷ xs) (reverse_end front a)
