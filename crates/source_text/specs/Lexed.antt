-- Lemmas on reading a line: at a blank, and at a token.
use Rattle.std.proofs.Common.{◌≡◌, ℕ, zero, suc, ◌-◌, ◌<◌, true, false, List, [], ◌∷◌, Option, drop, take, refl, ap, ◌∙◌, arith}
use Rattle.std.specs.Prelude.{option_map, option_and_then}
use Rattle.source_text.specs.Table.{Table, extent, token_of}
use Rattle.source_text.specs.Tokens.{is_blank}
use Rattle.source_text.specs.Reading.{lex}

module _ {T : Type 0} (L : Table T) where
  lex_skip : (n : ℕ) (bytes : List ℕ) → lex L n bytes ≡ lex L 0 (drop n bytes)
  unfolding lex
  lex_skip zero bytes = refl
  lex_skip (suc n) [] = refl
  lex_skip (suc n) (b ∷ rest) = lex_skip n rest

  pub lex_blank : (b : ℕ) (rest : List ℕ) → is_blank b ≡ true → lex L 0 (b ∷ rest) ≡ lex L 0 rest
  unfolding lex
  lex_blank b rest h = rw h refl

  after : (b : ℕ) (rest : List ℕ) (e : ℕ) → 0 < e → drop (e - 1) rest ≡ drop e (b ∷ rest)
  after b rest zero h = absurd (omega arith)
  after b rest (suc e) h = let k : suc e - 1 ≡ e = omega arith in rw k refl

  pub lex_token : (b : ℕ) (rest : List ℕ) → is_blank b ≡ false
      → lex L 0 (b ∷ rest) ≡ option_and_then (λ t. option_map (λ ts. t ∷ ts) (lex L 0 (drop (extent L (b ∷ rest)) (b ∷ rest)))) (token_of L (take (extent L (b ∷ rest)) (b ∷ rest)))
  unfolding lex
  lex_token b rest h =
      let e : lex L (extent L (b ∷ rest) - 1) rest ≡ lex L 0 (drop (extent L (b ∷ rest)) (b ∷ rest)) =
      lex_skip (extent L (b ∷ rest) - 1) rest ∙ ap (lex L 0) (after b rest (extent L (b ∷ rest)) (omega arith)) in
      rw h (ap (λ (r : Option (List T)). option_and_then (λ t. option_map (λ ts. t ∷ ts) r) (token_of L (take (extent L (b ∷ rest)) (b ∷ rest)))) e)

  -- what is cut off is the token
  pub cut_at : (b : ℕ) (rest all : List ℕ) (n : ℕ) (text : List ℕ) → all ≡ b ∷ rest → n ≡ extent L (b ∷ rest) → text ≡ take n all → text ≡ take (extent L (b ∷ rest)) (b ∷ rest)
  cut_at b rest all n text e en et = et ∙ (ap (λ k. take k all) en ∙ ap (λ x. take (extent L (b ∷ rest)) x) e)
