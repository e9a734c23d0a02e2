-- Reading the pieces between semicolons one after the other.
use Rattle.mal_line.proofs.Common.{◌≡◌, ℕ, zero, suc, length-drop, ◌+◌, ◌<◌, ◌≤◌, List, [], ◌∷◌, Some, None, length, drop, take, refl, sym, ap, ◌∙◌, arith, inl}
use Rattle.mal_line.proofs.Common.{inr, cases_lt, not, option_and_then, prefix_len, take_all, fails_before_first, Machine, Token, Gathered}
use Rattle.std.proofs.lemmas.List.Splits.{slice_split_first, slice_split_none}
use Rattle.mal_tokens.specs.declared.token.Token.TheVariants as tokens
use Rattle.mal_line.specs.Prelude.{is_semicolon, pieces, add_tokens, adds, ended}

-- how many tokens stand before the first semicolon
abbrev pub len : List Token → ℕ
len = prefix_len (λ t. not (is_semicolon t))

split_more : (xs : List Token) → len xs < length xs → pieces xs ≡ take (len xs) xs ∷ pieces (drop (len xs + 1) xs)
split_more xs lt = slice_split_first is_semicolon xs (tokens.Name []) lt

split_last : (xs : List Token) → length xs ≤ len xs → pieces xs ≡ take (len xs) xs ∷ []
split_last xs le =
    slice_split_none is_semicolon xs (λ k d lt. fails_before_first is_semicolon xs k d (omega arith)) ∙ ap (λ ys. ys ∷ []) (sym (take_all (len xs) xs le))

tail_at : (xs : List Token) (n : ℕ) (y : Token) (ys : List Token) → drop n xs ≡ y ∷ ys → (n < length xs) × (drop (n + 1) xs ≡ ys)
tail_at [] zero y ys h = absurd (cc)
tail_at [] (suc n) y ys h = absurd (cc)
tail_at (x ∷ xs) zero y ys h = (omega arith, cc)
tail_at (x ∷ xs) (suc n) y ys h =
    let r = tail_at xs n y ys h in
    let k : suc n + 1 ≡ suc (n + 1) = omega arith in
    let lt = r.0 in
    (omega (arith, lt), rw k r.1)

pub adds_more : (m : Machine) (s u : Gathered) (xs : List Token) (n : ℕ) (piece following : List Token) (y : Token) (after : List Token) → n ≡ len xs → piece ≡ take n xs → following ≡ drop n xs → following ≡ y ∷ after
    → add_tokens m s piece ≡ Some u → adds m s (pieces xs) ≡ adds m u (pieces after)
unfolding adds
adds_more m s u xs n piece following y after e p b c h =
    let t = tail_at xs n y after (sym b ∙ c) in
    let h2 : add_tokens m s (take (len xs) xs) ≡ Some u = ap (λ i. add_tokens m s (take i xs)) (sym e) ∙ (ap (add_tokens m s) (sym p) ∙ h) in
    let d : drop (len xs + 1) xs ≡ after = ap (λ i. drop (i + 1) xs) (sym e) ∙ t.1 in
    ap (adds m s) (split_more xs (rw e at t.0)) ∙ (ap (option_and_then (λ v. adds m v (pieces (drop (len xs + 1) xs)))) h2 ∙ ap (λ r. adds m u (pieces r)) d)

pub adds_last : (m : Machine) (s u : Gathered) (xs : List Token) (n : ℕ) (piece following : List Token) → n ≡ len xs → piece ≡ take n xs → following ≡ drop n xs → length following ≡ 0
    → add_tokens m s piece ≡ Some u → adds m s (pieces xs) ≡ ended u
unfolding adds
adds_last m s u xs n piece following e p b none h =
    let l : length (drop n xs) ≡ 0 = ap length (sym b) ∙ none in
    let le : length xs ≤ n = omega (arith, length-drop n xs, l) in
    let h2 : add_tokens m s (take (len xs) xs) ≡ Some u = ap (λ i. add_tokens m s (take i xs)) (sym e) ∙ (ap (add_tokens m s) (sym p) ∙ h) in
    ap (adds m s) (split_last xs (rw e at le)) ∙ ap (option_and_then ended) h2

pub adds_none : (m : Machine) (s : Gathered) (xs : List Token) (n : ℕ) (piece : List Token) → n ≡ len xs → piece ≡ take n xs → add_tokens m s piece ≡ None → adds m s (pieces xs) ≡ None
unfolding adds
adds_none m s xs n piece e p h =
    let h2 : add_tokens m s (take (len xs) xs) ≡ None = ap (λ i. add_tokens m s (take i xs)) (sym e) ∙ (ap (add_tokens m s) (sym p) ∙ h) in
    elim (cases_lt (len xs) (length xs)) [
      | inl lt ↦ ap (adds m s) (split_more xs lt) ∙ ap (option_and_then (λ t. adds m t (pieces (drop (len xs + 1) xs)))) h2
      | inr le ↦ ap (adds m s) (split_last xs le) ∙ ap (option_and_then ended) h2
    ]
