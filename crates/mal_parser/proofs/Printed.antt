-- The lines of a text of plain lines are these lines.
use Rattle.mal_parser.proofs.Common.{◌≡◌, ℕ, zero, suc, ◌-◌, true, false, List, [], ◌∷◌, ◌++◌, length, get_or, refl, ap, ◌∙◌, arith, cond, ◌==◌, ◌&&◌, map}
use Rattle.mal_parser.proofs.Common.{take, list_all, onto_first, nat_tests, and_parts, begins_comment, contents, without_comment, before_more, parts, is_plain}
use Rattle.std.specs.Str.Lines.{lines, lines_of_parts, strip_carriage_return}
use Rattle.mal_parser.specs.Prelude.{text_of}

abbrev pub ArePlain : List (List ℕ) → Type 0
ArePlain [] = Unit {0}
ArePlain (l ∷ ls) = (list_all is_plain l ≡ true) × ArePlain ls

abbrev pub plain_append : (ls ms : List (List ℕ)) → ArePlain ls → ArePlain ms → ArePlain (ls ++ ms)
plain_append [] ms h g = g
plain_append (l ∷ ls) ms h g = (h.0, plain_append ls ms h.1 g)

no_newline : (b : ℕ) → is_plain b ≡ true → (b == 10) ≡ false
no_newline b h = grind (arith, nat_tests)

no_return : (b : ℕ) → is_plain b ≡ true → (b == 13) ≡ false
no_return b h = grind (arith, nat_tests)

no_slash : (b : ℕ) → is_plain b ≡ true → (b == 47) ≡ false
no_slash b h = grind (arith, nat_tests)

-- a line ends at its newline
split_line : (l rest : List ℕ) → list_all is_plain l ≡ true → parts (l ++ 10 ∷ rest) ≡ l ∷ parts rest
split_line [] rest h = refl
split_line (b ∷ l) rest h =
    let p = and_parts (is_plain b) (list_all is_plain l) h in
    ap (λ w. cond w ([] ∷ parts (l ++ 10 ∷ rest)) (onto_first b (parts (l ++ 10 ∷ rest)))) (no_newline b p.0) ∙ ap (onto_first b) (split_line l rest p.1)

-- such a line ends with no carriage return
byte_at : (l : List ℕ) (i : ℕ) → list_all is_plain l ≡ true → (get_or l i 0 == 13) ≡ false
byte_at [] i h = refl
byte_at (b ∷ l) zero h = no_return b (and_parts (is_plain b) (list_all is_plain l) h).0
byte_at (b ∷ l) (suc i) h = byte_at l i (and_parts (is_plain b) (list_all is_plain l) h).1

whole_line : (l : List ℕ) → list_all is_plain l ≡ true → strip_carriage_return l ≡ l
whole_line l h = ap (λ w. cond w (take (length l - 1) l) l) (byte_at l (length l - 1) h)

-- such a line has no comment
no_comment : (l : List ℕ) → list_all is_plain l ≡ true → without_comment l ≡ l
no_comment [] h = refl
no_comment (b ∷ l) h =
    let p = and_parts (is_plain b) (list_all is_plain l) h in
    ap (λ w. cond w [] (b ∷ without_comment l)) (none b l (no_slash b p.0)) ∙ ap (λ r. b ∷ r) (no_comment l p.1)
  where
    none : (b : ℕ) (l : List ℕ) → (b == 47) ≡ false → begins_comment (b ∷ l) ≡ false
    none b [] e = refl
    none b (c ∷ l) e = ap (λ w. w && (c == 47)) e

lines_text : (ls : List (List ℕ)) → ArePlain ls → lines (text_of ls) ≡ ls
lines_text [] h = refl
lines_text (l ∷ ls) h =
    ap lines_of_parts (split_line l (text_of ls) h.0)
    ∙ (before_more l (text_of ls)
    ∙ (ap (λ x. x ∷ lines (text_of ls)) (whole_line l h.0) ∙ ap (λ xs. l ∷ xs) (lines_text ls h.1)))

same_content : (ls : List (List ℕ)) → ArePlain ls → map without_comment ls ≡ ls
same_content [] h = refl
same_content (l ∷ ls) h = ap (λ x. x ∷ map without_comment ls) (no_comment l h.0) ∙ ap (λ xs. l ∷ xs) (same_content ls h.1)

pub contents_text : (ls : List (List ℕ)) → ArePlain ls → contents (text_of ls) ≡ ls
contents_text ls h = ap (map without_comment) (lines_text ls h) ∙ same_content ls h
