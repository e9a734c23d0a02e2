-- What printing a program needs to know of it, and the lines that are printed so far.
use Rattle.mal_parser.proofs.Common.{◌≡◌, ℕ, zero, suc, ◌+◌, ◌<◌, List, [], ◌∷◌, ◌++◌, Option, Some, None, length, get_or, take, refl, sym, ap, subst, ◌∙◌}
use Rattle.mal_parser.proofs.Common.{arith, append_assoc, IsTrue, map, slice_get, option_map, option_and_then, option_to_list, cons_option, filter_map}
use Rattle.mal_parser.proofs.Common.{map-append, take_more, filter_map-append, get_or_from_slice_get, and_parts, Machine, is_next, is_part, is_valid, Statement}
use Rattle.micro_word.specs.declared.statement.Placed.{Placed}
use Rattle.mal_parser.specs.Prelude.{IsStatement, MalView, canonical_text, default_line, fix_line, labelled_line, statement_text, text_of}

-- ---- targets

pub next_valid : (machine : Machine) (p : Placed) → IsTrue (is_valid machine p) → IsTrue (is_next p.next)
next_valid machine p h = (and_parts (is_part machine p.part) (is_next p.next) h).1

some_at : (ss : List Statement) (s : ℕ) → s < length ss → (t : Statement) × (slice_get ss s ≡ Some t)
some_at [] s lt = absurd (omega arith)
some_at (t ∷ ss) zero lt = (t, refl)
some_at (t ∷ ss) (suc s) lt = some_at ss s (omega arith)

pub stands_at : (p q : MalView) (s : ℕ) (t : Statement) → q ≡ p → ((number : ℕ) (u : Statement) → slice_get q.statements number ≡ Some u → IsStatement q number u)
    → s < length p.statements → t ≡ get_or q.statements s t → IsStatement p s t
stands_at p q s t e h lt g =
    let x = some_at q.statements s (subst (λ (r : MalView). s < length r.statements) (sym e) lt) in
    let f : t ≡ x.0 = g ∙ get_or_from_slice_get q.statements s x.0 t x.1 in
    subst (λ (r : MalView). IsStatement r s t) e (h s t (x.1 ∙ ap Some (sym f)))

-- ---- texts of one statement

pub line_here : (p : MalView) (s : ℕ) (t : Statement) → slice_get p.statements s ≡ Some t → statement_text p s ≡ labelled_line p t
line_here p s t e = rw e refl

-- ---- lines one after the other

text_append : (ls ms : List (List ℕ)) → text_of (ls ++ ms) ≡ text_of ls ++ text_of ms
text_append [] ms = refl
text_append (l ∷ ls) ms = ap (λ rest. l ++ 10 ∷ rest) (text_append ls ms) ∙ sym (append_assoc l (10 ∷ text_of ls) (text_of ms))

-- more lines after those that were begun
more_lines : (begun old new : List ℕ) (ls ms all : List (List ℕ)) → old ≡ begun ++ text_of ls → new ≡ old ++ text_of ms → all ≡ ls ++ ms → new ≡ begun ++ text_of all
more_lines begun old new ls ms all e f g = rw (f, e, g, text_append ls ms) (append_assoc begun (text_of ls) (text_of ms))

taken : (ss : List Statement) (s : ℕ) (t : Statement) → s < length ss → slice_get ss s ≡ Some t → take (s + 1) ss ≡ take s ss ++ t ∷ []
taken ss s t lt e = take_more ss s t lt ∙ ap (λ u. take s ss ++ u ∷ []) (get_or_from_slice_get ss s t t e)

fixes_more : (ss : List Statement) (s : ℕ) → s < length ss → filter_map fix_line (take (s + 1) ss) ≡ filter_map fix_line (take s ss) ++ option_to_list (option_and_then fix_line (slice_get ss s))
fixes_more ss s lt =
    let t = some_at ss s lt in
    rw t.1 (ap (filter_map fix_line) (taken ss s t.0 lt t.1) ∙ (filter_map-append fix_line (take s ss) (t.0 ∷ []) ∙ ap (λ ls. filter_map fix_line (take s ss) ++ ls) (one (fix_line t.0))))
  where
    one : (o : Option (List ℕ)) → cons_option o [] ≡ option_to_list o
    one None = refl
    one (Some l) = refl

-- one more fixed address
pub fix_added : (ss : List Statement) (s : ℕ) (begun old new : List ℕ) → s < length ss
    → old ≡ begun ++ text_of (filter_map fix_line (take s ss)) → new ≡ old ++ text_of (option_to_list (option_and_then fix_line (slice_get ss s)))
    → new ≡ begun ++ text_of (filter_map fix_line (take (s + 1) ss))
fix_added ss s begun old new lt e f = more_lines begun old new _ _ _ e f (fixes_more ss s lt)

-- one more statement
pub line_added : (p : MalView) (s : ℕ) (begun old new fresh line : List ℕ) → s < length p.statements → fresh ≡ [] → line ≡ fresh ++ statement_text p s
    → old ≡ begun ++ text_of (map (labelled_line p) (take s p.statements)) → new ≡ old ++ (line ++ 10 ∷ [])
    → new ≡ begun ++ text_of (map (labelled_line p) (take (s + 1) p.statements))
line_added p s begun old new fresh line lt n l e f =
    let t = some_at p.statements s lt in
    let q : line ≡ labelled_line p t.0 = l ∙ (ap (λ x. x ++ statement_text p s) n ∙ line_here p s t.0 t.1) in
    more_lines begun old new (map (labelled_line p) (take s p.statements)) (labelled_line p t.0 ∷ []) _ e (f ∙ ap (λ x. old ++ (x ++ 10 ∷ [])) q)
    (ap (map (labelled_line p)) (taken p.statements s t.0 lt t.1) ∙ map-append (labelled_line p) (take s p.statements) (t.0 ∷ []))

-- all of them
pub mal_text : (p : MalView) (z x y w : List ℕ) → z ≡ [] → x ≡ z ++ text_of (filter_map fix_line p.statements)
    → y ≡ x ++ text_of (option_to_list (option_map (default_line p) p.fallback)) → w ≡ y ++ text_of (map (labelled_line p) p.statements) → w ≡ canonical_text p
mal_text p z x y w n e f g =
    let ls = filter_map fix_line p.statements in
    let ms = option_to_list (option_map (default_line p) p.fallback) in
    let ns = map (labelled_line p) p.statements in
    more_lines z y w (ls ++ ms) ns _ (more_lines z x y ls ms _ e f refl) g (sym (append_assoc ls ms ns)) ∙ ap (λ front. front ++ text_of (ls ++ (ms ++ ns))) n
