-- What a line spells is what is read from it.
use Rattle.source_text.proofs.Common.{◌≡◌, ℕ, zero, suc, ◌≤◌, ◌<◌, Bool, true, false, subst, List, [], ◌∷◌, ◌++◌, Option, Some, None, drop, take, length, refl}
use Rattle.source_text.proofs.Common.{sym, ap, ◌∙◌, append_assoc, arith, length-drop, option_map, option_and_then, ◌&&◌, list_all, append-nil, take-append-drop}
use Rattle.source_text.proofs.Common.{Table, extent, front_of, token_of, AreBlank, EndsLexeme, IsLexeme, Spells, is_blank, lex, cut_at, lex_blank, lex_token}
use Rattle.std.proofs.Math.Seq.{take-append_seam, drop-append_seam}
use Rattle.source_text.proofs.Shapes.{may_end, reaches, spells}

-- the tokens that were read before, and those still read
abbrev pub onto : {T : Type 0} → List T → Option (List T) → Option (List T)
onto front read = option_map (λ ts. front ++ ts) read

module _ {T : Type 0} (L : Table T) where
  regroup : (front : List T) (t : T) (read : Option (List T)) → onto front (option_map (λ ts. t ∷ ts) read) ≡ onto (front ++ t ∷ []) read
  regroup front t (Some ts) = ap Some (sym (append_assoc front (t ∷ []) ts))
  regroup front t None = refl

  pub goes_blank : (front : List T) (b : ℕ) (rest all : List ℕ) (total : Option (List T)) → all ≡ b ∷ rest → is_blank b ≡ true → onto front (lex L 0 all) ≡ total → onto front (lex L 0 rest) ≡ total
  goes_blank front b rest all total e h so_far = ap (onto front) (sym (lex_blank L b rest h)) ∙ (ap (λ r. onto front (lex L 0 r)) (sym e) ∙ so_far)

  pub is_done : (front : List T) (rest : List ℕ) (total : Option (List T)) → length rest ≡ 0 → onto front (lex L 0 rest) ≡ total → total ≡ Some front
  unfolding lex
  is_done front [] total none so_far = sym so_far ∙ ap Some (append-nil front)
  is_done front (b ∷ rest) total none so_far = absurd (omega arith)

  -- a token, or none, and what is left
  pub steps_on : (front : List T) (b : ℕ) (rest all : List ℕ) (n : ℕ) (text after : List ℕ) (o : Option T) (total : Option (List T)) → all ≡ b ∷ rest → n ≡ extent L (b ∷ rest)
      → text ≡ take n all → after ≡ drop n all → is_blank b ≡ false → token_of L text ≡ o → onto front (lex L 0 all) ≡ total → option_and_then (λ t. onto (front ++ t ∷ []) (lex L 0 after)) o ≡ total
  steps_on front b rest all n text after o total e en et eb h found so_far =
      let next = lex L 0 (drop (extent L (b ∷ rest)) (b ∷ rest)) in
      let c = subst (λ x. token_of L x ≡ o) (cut_at L b rest all n text e en et) found in
      let d : after ≡ drop (extent L (b ∷ rest)) (b ∷ rest) = eb ∙ (ap (λ k. drop k all) en ∙ ap (λ x. drop (extent L (b ∷ rest)) x) e) in
      let one : lex L 0 all ≡ option_and_then (λ t. option_map (λ ts. t ∷ ts) next) o =
      ap (lex L 0) e ∙ (lex_token L b rest h ∙ ap (λ (o : Option T). option_and_then (λ t. option_map (λ ts. t ∷ ts) next) o) c) in
      ap (λ r. option_and_then (λ t. onto (front ++ t ∷ []) (lex L 0 r)) o) d ∙ (spread o next ∙ (ap (onto front) (sym one) ∙ so_far))
    where
      spread : (o : Option T) (next : Option (List T)) → option_and_then (λ t. onto (front ++ t ∷ []) next) o ≡ onto front (option_and_then (λ t. option_map (λ ts. t ∷ ts) next) o)
      spread None next = refl
      spread (Some t) next = sym (regroup front t next)

module _ {T : Type 0} (L : Table T) where
  spells_blank : (b : ℕ) (rest : List ℕ) (ts : List T) → is_blank b ≡ true → Spells L rest ts → Spells L (b ∷ rest) ts
  spells_blank b rest [] h s = rw h s
  spells_blank b rest (t ∷ ts) h (gap, lexeme, after, e, blank, is, ends, more) = (b ∷ gap, lexeme, after, ap (λ r. b ∷ r) e, rw h blank, is, ends, more)

  spells_token : (b : ℕ) (rest : List ℕ) (t : T) (ts : List T) → is_blank b ≡ false → token_of L (take (extent L (b ∷ rest)) (b ∷ rest)) ≡ Some t → Spells L (drop (extent L (b ∷ rest)) (b ∷ rest)) ts → Spells L (b ∷ rest) (t ∷ ts)
  spells_token b rest t ts w h s =
      ([], take (extent L (b ∷ rest)) (b ∷ rest), drop (extent L (b ∷ rest)) (b ∷ rest), sym (take-append-drop (extent L (b ∷ rest)) (b ∷ rest)), refl, spells L b rest t w h, may_end L (front_of L b) b rest, s)

  is_spelled : (n : ℕ) (text : List ℕ) (ts : List T) → length text ≤ n → lex L 0 text ≡ Some ts → Spells L text ts
  unfolding lex
  is_spelled n [] ts le h = let e : [] ≡ ts = cc in subst (Spells L []) e refl
  is_spelled zero (b ∷ rest) ts le h = absurd (omega arith)
  is_spelled (suc n) (b ∷ rest) ts le h = go (is_blank b) refl (is_spelled n rest) (is_spelled n (drop (extent L (b ∷ rest)) (b ∷ rest)))
    where
      tail : (t : T) (r : Option (List T)) → option_map (λ ts. t ∷ ts) r ≡ Some ts → (us : List T) × (r ≡ Some us) × (t ∷ us ≡ ts)
      tail t (Some us) k = (us, refl, cc)
      tail t None k = absurd (cc)

      head : is_blank b ≡ false → (o : Option T) → token_of L (take (extent L (b ∷ rest)) (b ∷ rest)) ≡ o
          → option_and_then (λ t. option_map (λ ts. t ∷ ts) (lex L 0 (drop (extent L (b ∷ rest)) (b ∷ rest)))) o ≡ Some ts
          → ((us : List T) → lex L 0 (drop (extent L (b ∷ rest)) (b ∷ rest)) ≡ Some us → Spells L (drop (extent L (b ∷ rest)) (b ∷ rest)) us) → Spells L (b ∷ rest) ts
      head w (Some t) c k rec =
          let p = tail t (lex L 0 (drop (extent L (b ∷ rest)) (b ∷ rest))) k in
          subst (Spells L (b ∷ rest)) p.2 (spells_token b rest t p.0 w c (rec p.0 p.1))
      head w None c k rec = absurd (cc)

      go : (w : Bool) → is_blank b ≡ w → ((us : List T) → length rest ≤ n → lex L 0 rest ≡ Some us → Spells L rest us)
          → ((us : List T) → length (drop (extent L (b ∷ rest)) (b ∷ rest)) ≤ n → lex L 0 (drop (extent L (b ∷ rest)) (b ∷ rest)) ≡ Some us → Spells L (drop (extent L (b ∷ rest)) (b ∷ rest)) us) → Spells L (b ∷ rest) ts
      go true w rest_is after_is = spells_blank b rest ts w (rest_is ts (omega arith) (sym (lex_blank L b rest w) ∙ h))
      go false w rest_is after_is =
          let some : 0 < extent L (b ∷ rest) = omega arith in
          let l = length-drop (extent L (b ∷ rest)) (b ∷ rest) in
          let short : length (drop (extent L (b ∷ rest)) (b ∷ rest)) ≤ n = omega (arith, l, some) in
          head w (token_of L (take (extent L (b ∷ rest)) (b ∷ rest))) refl (sym (lex_token L b rest w) ∙ h) (λ us. after_is us short)

  -- the tokens that were read are spelled
  pub spelled : (text : List ℕ) (ts : List T) → lex L 0 text ≡ Some ts → Spells L text ts
  spelled text ts h = is_spelled (length text) text ts (omega arith) h

  blank_again : (text : List ℕ) → AreBlank text → lex L 0 text ≡ Some []
  unfolding lex
  blank_again [] h = refl
  blank_again (b ∷ rest) h = go (is_blank b) refl h (blank_again rest)
    where
      go : (w : Bool) → is_blank b ≡ w → (w && list_all is_blank rest) ≡ true → (AreBlank rest → lex L 0 rest ≡ Some []) → lex L 0 (b ∷ rest) ≡ Some []
      go true w h rec = lex_blank L b rest w ∙ rec h
      go false w h rec = absurd (cc)

  skip_gap : (gap rest : List ℕ) → AreBlank gap → lex L 0 (gap ++ rest) ≡ lex L 0 rest
  skip_gap [] rest h = refl
  skip_gap (b ∷ gap) rest h = go (is_blank b) refl h (skip_gap gap rest)
    where
      go : (w : Bool) → is_blank b ≡ w → (w && list_all is_blank gap) ≡ true → (AreBlank gap → lex L 0 (gap ++ rest) ≡ lex L 0 rest) → lex L 0 (b ∷ (gap ++ rest)) ≡ lex L 0 rest
      go true w h rec = lex_blank L b (gap ++ rest) w ∙ rec h
      go false w h rec = absurd (cc)

  token_again : (text rest : List ℕ) (t : T) → IsLexeme L t text → EndsLexeme L text rest → lex L 0 (text ++ rest) ≡ option_map (λ ts. t ∷ ts) (lex L 0 rest)
  token_again [] rest t is ends = absurd is
  token_again (b ∷ text) rest t (dark, goes, found) ends =
      let far : extent L (b ∷ (text ++ rest)) ≡ length (b ∷ text) = ap suc (reaches L (front_of L b) b text rest goes ends) in
      let tk : take (extent L (b ∷ (text ++ rest))) (b ∷ (text ++ rest)) ≡ b ∷ text = ap (λ k. take k (b ∷ (text ++ rest))) far ∙ take-append_seam (b ∷ text) rest in
      let dr : drop (extent L (b ∷ (text ++ rest))) (b ∷ (text ++ rest)) ≡ rest = ap (λ k. drop k (b ∷ (text ++ rest))) far ∙ drop-append_seam (b ∷ text) rest in
      let c : token_of L (take (extent L (b ∷ (text ++ rest))) (b ∷ (text ++ rest))) ≡ Some t = ap (token_of L) tk ∙ found in
      lex_token L b (text ++ rest) dark
      ∙ (ap (λ (o : Option T). option_and_then (λ t. option_map (λ ts. t ∷ ts) (lex L 0 (drop (extent L (b ∷ (text ++ rest))) (b ∷ (text ++ rest))))) o) c
      ∙ ap (λ (r : List ℕ). option_map (λ ts. t ∷ ts) (lex L 0 r)) dr)

  -- what is spelled is read
  pub is_read : (ts : List T) (text : List ℕ) → Spells L text ts → lex L 0 text ≡ Some ts
  is_read [] text s = blank_again text s
  is_read (t ∷ ts) text (gap, lexeme, rest, e, blank, is, ends, more) =
      ap (lex L 0) e ∙ (skip_gap gap (lexeme ++ rest) blank ∙ (token_again lexeme rest t is ends ∙ ap (option_map (λ ts. t ∷ ts)) (is_read ts rest more)))
