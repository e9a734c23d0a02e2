-- The first line of a text.
use Rattle.source_text.proofs.Common.{◌≡◌, ℕ, ◌+◌, ◌-◌, ◌<◌, ◌≤◌, false, List, [], ◌∷◌, take, drop, length, refl, ap, ◌∙◌, sym, arith, length-drop, not, ◌==◌}
use Rattle.source_text.proofs.Common.{prefix_len, fails_before_first, lines, lines_of_parts, strip_carriage_return, take_rest, nat_tests, before_more, parts}
use Rattle.std.proofs.lemmas.List.Splits.{slice_split_first, slice_split_none}

-- how many bytes stand before the first newline
abbrev pub len : List ℕ → ℕ
len = prefix_len (λ b. not (b == 10))

pub line_more : (text : List ℕ) (n : ℕ) → n ≡ len text → n < length text → lines text ≡ strip_carriage_return (take n text) ∷ lines (take (length text - (n + 1)) (drop (n + 1) text))
line_more text n e lt =
    let s : parts text ≡ take n text ∷ parts (drop (n + 1) text) = rw e (slice_split_first (λ b. b == 10) text 0 (rw e at lt)) in
    ap lines_of_parts s ∙ (before_more (take n text) (drop (n + 1) text) ∙ ap (λ r. strip_carriage_return (take n text) ∷ lines r) (sym (take_rest text (n + 1))))

one_line : (text : List ℕ) → 0 < length text → lines_of_parts (text ∷ []) ≡ text ∷ []
one_line [] some = absurd (omega arith)
one_line (b ∷ rest) some = let k : (length (b ∷ rest) == 0) ≡ false = grind (arith, nat_tests) in rw k refl

none_left : (ys : List ℕ) → length ys ≤ 0 → lines ys ≡ []
none_left [] h = refl
none_left (y ∷ ys) h = absurd (omega arith)

pub line_last : (text : List ℕ) (n : ℕ) → n ≡ len text → 0 < length text → length text ≤ n → lines text ≡ text ∷ lines (take (length text - n) (drop n text))
line_last text n e some le =
    let none : lines (take (length text - n) (drop n text)) ≡ [] = none_left (take (length text - n) (drop n text)) (rw (take_rest text n) (omega (arith, length-drop n text))) in
    let whole : length text ≤ len text = rw e at le in
    ap lines_of_parts (slice_split_none (λ b. b == 10) text (λ k d lt. fails_before_first (λ b. b == 10) text k d (omega arith))) ∙ (one_line text some ∙ ap (λ r. text ∷ r) (sym none))
