-- A line for each number, one after the other.
use Rattle.cli_micro.proofs.Common.{◌≡◌, ℕ, ◌+◌, List, [], ◌∷◌, ◌++◌, refl, sym, ap, ◌∙◌, append_assoc, arith, map, append-nil, text_of, below}
use Rattle.std.proofs.lemmas.List.FromFn.{map-range_with_len_more}

pub text_of-append : (xs ys : List (List ℕ)) → text_of (xs ++ ys) ≡ text_of xs ++ text_of ys
text_of-append [] ys = refl
text_of-append (l ∷ ls) ys = ap (λ (t : List ℕ). l ++ 10 ∷ t) (text_of-append ls ys) ∙ sym (append_assoc l (10 ∷ text_of ls) (text_of ys))

pub lined_none : (f : ℕ → List ℕ) → text_of (map f (below 0)) ≡ []
unfolding below
lined_none f = refl

map-below_more : (f : ℕ → List ℕ) (n : ℕ) → map f (below (n + 1)) ≡ map f (below n) ++ f n ∷ []
unfolding below
map-below_more f n = map-range_with_len_more f 0 n n (omega arith)

-- one more line
pub lined_more : (f : ℕ → List ℕ) (n : ℕ) → text_of (map f (below (n + 1))) ≡ text_of (map f (below n)) ++ (f n ++ 10 ∷ [])
lined_more f n = ap text_of (map-below_more f n) ∙ text_of-append (map f (below n)) (f n ∷ [])

-- a text of n lines gets the next one
pub line_added : (f : ℕ → List ℕ) (n : ℕ) (old new line : List ℕ) → old ≡ text_of (map f (below n)) → line ≡ f n → new ≡ old ++ (line ++ 10 ∷ []) →
    new ≡ text_of (map f (below (n + 1)))
line_added f n old new line is same added =
    added ∙ ap (λ (l : List ℕ). old ++ (l ++ 10 ∷ [])) same ∙ ap (λ (o : List ℕ). o ++ (f n ++ 10 ∷ [])) is ∙ sym (lined_more f n)

-- a text of n lines after another text gets the next one
pub line_added_after : (f : ℕ → List ℕ) (n : ℕ) (front old new line : List ℕ) → old ≡ front ++ text_of (map f (below n)) → line ≡ f n →
    new ≡ old ++ (line ++ 10 ∷ []) → new ≡ front ++ text_of (map f (below (n + 1)))
line_added_after f n front old new line is same added =
    added ∙ ap (λ (l : List ℕ). old ++ (l ++ 10 ∷ [])) same ∙ ap (λ (o : List ℕ). o ++ (f n ++ 10 ∷ [])) is
    ∙ append_assoc front (text_of (map f (below n))) (f n ++ 10 ∷ []) ∙ ap (λ (t : List ℕ). front ++ t) (sym (lined_more f n))

-- nothing is added yet
pub nothing_added : (f : ℕ → List ℕ) (front : List ℕ) → front ≡ front ++ text_of (map f (below 0))
nothing_added f front = sym (ap (λ (t : List ℕ). front ++ t) (lined_none f) ∙ append-nil front)

-- lines, and then a last one
pub last_added : (ls : List (List ℕ)) (line empty front new last : List ℕ) → empty ≡ [] → front ≡ empty ++ text_of ls → last ≡ line →
    new ≡ front ++ (last ++ 10 ∷ []) → new ≡ text_of (ls ++ line ∷ [])
last_added ls line empty front new last none is same added =
    added ∙ ap (λ (f : List ℕ). f ++ (last ++ 10 ∷ [])) (is ∙ ap (λ (e : List ℕ). e ++ text_of ls) none)
    ∙ ap (λ (l : List ℕ). text_of ls ++ (l ++ 10 ∷ [])) same ∙ sym (text_of-append ls (line ∷ []))
