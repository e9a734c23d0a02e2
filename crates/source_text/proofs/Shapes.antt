-- A token reaches as far as its first byte says, and what reaches so far has the shape of a token.
use Rattle.source_text.proofs.Common.{◌≡◌, ℕ, ◌≤◌, Bool, true, false, inl, inr, List, [], ◌∷◌, ◌++◌, Some, drop, take, length, refl, arith, cond, ◌⊎◌}
use Rattle.source_text.proofs.Common.{is_name_byte, Front, run_all, run_passes, run_stops, quote_len, GoesOn, MayEnd, Table, extent, front_of, is_pair, reach}
use Rattle.source_text.proofs.Common.{token_of, IsLexeme, is_blank}
use Rattle.source_text.specs.declared.table.Front.TheVariants as fronts

-- ---- after a single quote

quote_reaches : (text rest : List ℕ) → length text ≤ 2 → (length text ≡ 2) ⊎ (rest ≡ []) → quote_len (text ++ rest) ≡ length text
quote_reaches [] rest h (inl e) = absurd (omega (arith, e))
quote_reaches [] rest h (inr e) = rw e refl
quote_reaches (b ∷ []) rest h (inl e) = absurd (omega (arith, e))
quote_reaches (b ∷ []) rest h (inr e) = rw e refl
quote_reaches (b ∷ c ∷ []) rest h e = refl
quote_reaches (b ∷ c ∷ d ∷ more) rest h e = absurd (omega (arith, h))

quote_short : (rest : List ℕ) → length (take (quote_len rest) rest) ≤ 2
quote_short [] = omega arith
quote_short (b ∷ []) = omega arith
quote_short (b ∷ c ∷ rest) = omega arith

quote_ends : (rest : List ℕ) → (length (take (quote_len rest) rest) ≡ 2) ⊎ (drop (quote_len rest) rest ≡ [])
quote_ends [] = inr refl
quote_ends (b ∷ []) = inr refl
quote_ends (b ∷ c ∷ rest) = inl refl

-- ---- signs

module _ {T : Type 0} (L : Table T) where
  sign_reaches : (b : ℕ) (text rest : List ℕ) → GoesOn L fronts.Sign b text → MayEnd L fronts.Sign b text rest → reach L fronts.Sign b (text ++ rest) ≡ length text
  sign_reaches b [] rest goes ends = let e = ends refl in rw e refl
  sign_reaches b (c ∷ []) rest (inl e) ends = absurd (cc)
  sign_reaches b (c ∷ []) rest (inr w) ends = let e = w.1 in rw e refl
  sign_reaches b (c ∷ d ∷ text) rest (inl e) ends = absurd (cc)
  sign_reaches b (c ∷ d ∷ text) rest (inr w) ends = absurd (let e = w.0 in omega (arith, e))

  sign_goes : (b : ℕ) (rest : List ℕ) (w : Bool) → is_pair L b rest ≡ w → GoesOn L fronts.Sign b (take (cond w 1 0) rest)
  sign_goes b rest false h = inl refl
  sign_goes b [] true h = absurd (cc)
  sign_goes b (c ∷ rest) true h = inr (refl, h)

  sign_ends : (b : ℕ) (rest : List ℕ) (w : Bool) → is_pair L b rest ≡ w → MayEnd L fronts.Sign b (take (cond w 1 0) rest) (drop (cond w 1 0) rest)
  sign_ends b rest false h = λ _. h
  sign_ends b [] true h = absurd (cc)
  sign_ends b (c ∷ rest) true h = λ e. absurd (cc)

  -- ---- all tokens

  pub reaches : (f : Front) (b : ℕ) (text rest : List ℕ) → GoesOn L f b text → MayEnd L f b text rest → reach L f b (text ++ rest) ≡ length text
  reaches fronts.Run b text rest goes ends = run_all is_name_byte text rest goes ends
  reaches fronts.Dotted b text rest goes ends = run_all L.dotted text rest goes ends
  reaches fronts.Quote b text rest goes ends = quote_reaches text rest goes ends
  reaches fronts.Sign b text rest goes ends = sign_reaches b text rest goes ends

  goes_on : (f : Front) (b : ℕ) (rest : List ℕ) → GoesOn L f b (take (reach L f b rest) rest)
  goes_on fronts.Run b rest = run_passes is_name_byte rest
  goes_on fronts.Dotted b rest = run_passes L.dotted rest
  goes_on fronts.Quote b rest = quote_short rest
  goes_on fronts.Sign b rest = sign_goes b rest (is_pair L b rest) refl

  pub may_end : (f : Front) (b : ℕ) (rest : List ℕ) → MayEnd L f b (take (reach L f b rest) rest) (drop (reach L f b rest) rest)
  may_end fronts.Run b rest = run_stops is_name_byte rest
  may_end fronts.Dotted b rest = run_stops L.dotted rest
  may_end fronts.Quote b rest = quote_ends rest
  may_end fronts.Sign b rest = sign_ends b rest (is_pair L b rest) refl

  pub spells : (b : ℕ) (rest : List ℕ) (t : T) → is_blank b ≡ false → token_of L (take (extent L (b ∷ rest)) (b ∷ rest)) ≡ Some t
      → IsLexeme L t (take (extent L (b ∷ rest)) (b ∷ rest))
  spells b rest t dark is = (dark, goes_on (front_of L b) b rest, is)
