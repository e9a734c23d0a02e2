-- Tokens that are read one after the other are those that the lines spell.
use Rattle.std.proofs.Common.{◌≡◌, ℕ, ◌+◌, true, false, List, [], ◌∷◌, ◌++◌, Option, Some, None, Ok, drop, take, length, map, refl, subst, sym, ap, ◌∙◌, append_assoc, arith}
use Rattle.std.specs.Prelude.{option_map, option_and_then, ◌↔◌}
use Rattle.std.proofs.lemmas.List.{append-nil}
use Rattle.source_text.specs.Reading as reading
use Rattle.source_text.specs.Prelude.{lex, cut_at, lex_blank, lex_token, extent, token_of, is_blank, Leads, contents}
use Rattle.tiny_draft.specs.declared.token.Token.{Token}
use Rattle.tiny_lexemes.specs.declared.lexeme.Lexeme.{Lexeme}
use Rattle.tiny_lexemes.specs.Prelude.{SpellsLexemes, read, tiny}
use Rattle.tiny_tokens.specs.Prelude.{HasTokens, SpellsLines, kind_of, main_only, number_all, HeldView, add_all, add_one, add_read, step}

abbrev pub ReadsSome : Type 0
ReadsSome = (line : List ℕ) → (ls : List Lexeme) × (read line ≡ Some ls)

-- ---- a line, token by token

some_lex : ReadsSome → (line : List ℕ) → (ls : List Lexeme) × (lex tiny 0 line ≡ Some ls)
unfolding reading.read
some_lex law line = law line

pub line_begins : (k : ℕ) (s : HeldView) (line : List ℕ) → add_read k s (lex tiny 0 line) ≡ add_read k s (read line)
unfolding reading.read
line_begins k s line = refl

pub line_blank : (k : ℕ) (s : HeldView) (b : ℕ) (rest all : List ℕ) (total : HeldView) → all ≡ b ∷ rest → is_blank b ≡ true → add_read k s (lex tiny 0 all) ≡ total
    → add_read k s (lex tiny 0 rest) ≡ total
line_blank k s b rest all total e h so_far = ap (add_read k s) (sym (lex_blank tiny b rest h)) ∙ (ap (λ x. add_read k s (lex tiny 0 x)) (sym e) ∙ so_far)

pub line_end : (k : ℕ) (s : HeldView) (all : List ℕ) (total : HeldView) → length all ≡ 0 → add_read k s (lex tiny 0 all) ≡ total → total ≡ s
unfolding lex
line_end k s [] total e so_far = sym so_far
line_end k s (b ∷ rest) total e so_far = absurd (omega (arith, e))

pub line_token : ReadsSome → (k : ℕ) (s : HeldView) (b : ℕ) (rest all : List ℕ) (n : ℕ) (text following : List ℕ) (t : Lexeme) (total : HeldView) → all ≡ b ∷ rest → n ≡ extent tiny (b ∷ rest)
    → text ≡ take n all → following ≡ drop n all → is_blank b ≡ false → token_of tiny text ≡ Some t → add_read k s (lex tiny 0 all) ≡ total → add_read k (add_one k s t) (lex tiny 0 following) ≡ total
line_token law k s b rest all n text following t total e en et eb h found so_far =
    let whole : add_read k s (lex tiny 0 (b ∷ rest)) ≡ total = subst (λ x. add_read k s (lex tiny 0 x) ≡ total) e so_far in
    let c = subst (λ x. token_of tiny x ≡ Some t) (cut_at tiny b rest all n text e en et) found in
    let d : following ≡ drop (extent tiny (b ∷ rest)) (b ∷ rest) = eb ∙ (ap (λ k. drop k all) en ∙ ap (λ x. drop (extent tiny (b ∷ rest)) x) e) in
    let one : lex tiny 0 (b ∷ rest) ≡ option_map (λ ts. t ∷ ts) (lex tiny 0 following) =
    lex_token tiny b rest h ∙ (ap (λ (o : Option Lexeme). option_and_then (λ t. option_map (λ ts. t ∷ ts) (lex tiny 0 (drop (extent tiny (b ∷ rest)) (b ∷ rest)))) o) c
    ∙ ap (λ x. option_map (λ ts. t ∷ ts) (lex tiny 0 x)) (sym d)) in
    go (some_lex law following) (ap (add_read k s) (sym one) ∙ whole)
  where
    go : (ls : List Lexeme) × (lex tiny 0 following ≡ Some ls) → add_read k s (option_map (λ ts. t ∷ ts) (lex tiny 0 following)) ≡ total → add_read k (add_one k s t) (lex tiny 0 following) ≡ total
    go (ls, r) x = ap (add_read k (add_one k s t)) r ∙ (ap (λ o. add_read k s (option_map (λ ts. t ∷ ts) o)) (sym r) ∙ x)

pub line_none : ReadsSome → (b : ℕ) (rest all : List ℕ) (n : ℕ) (text : List ℕ) → all ≡ b ∷ rest → n ≡ extent tiny (b ∷ rest) → text ≡ take n all → is_blank b ≡ false → token_of tiny text ≡ None → ⊥
line_none law b rest all n text e en et h none =
    let c = subst (λ x. token_of tiny x ≡ None) (cut_at tiny b rest all n text e en et) none in
    let one : lex tiny 0 (b ∷ rest) ≡ None =
    lex_token tiny b rest h ∙ ap (λ (o : Option Lexeme). option_and_then (λ t. option_map (λ ts. t ∷ ts) (lex tiny 0 (drop (extent tiny (b ∷ rest)) (b ∷ rest)))) o) c in
    let p = some_lex law (b ∷ rest) in
    absurd (let q = sym one ∙ p.1 in cc)

-- ---- the tokens of the lines

abbrev names_after : List (List ℕ) → List (Lexeme × ℕ) → List (List ℕ)
names_after names [] = names
names_after names (t ∷ ts) = names_after (kind_of names t.0).1 ts

abbrev at_line : ℕ → List Lexeme → List (Lexeme × ℕ)
at_line k here = map (λ x. (x, k)) here

number_append : (names : List (List ℕ)) (a b : List (Lexeme × ℕ)) → number_all names (a ++ b) ≡ number_all names a ++ number_all (names_after names a) b
number_append names [] b = refl
number_append names (t ∷ a) b = ap (λ z. record { kind = (kind_of names t.0).0; line = t.1 } ∷ z) (number_append (kind_of names t.0).1 a b)

added : (k : ℕ) (here : List Lexeme) (s : HeldView) → ((add_all k s here).names ≡ names_after s.names (at_line k here)) × ((add_all k s here).tokens ≡ s.tokens ++ number_all s.names (at_line k here))
added k [] s = (refl, sym (append-nil s.tokens))
added k (x ∷ here) s =
    let r = added k here (add_one k s x) in
    let one : List Token = record { kind = (kind_of s.names x).0; line = k } ∷ [] in
    (r.0, r.1 ∙ append_assoc s.tokens one (number_all (kind_of s.names x).1 (at_line k here)))

module _ (law : ReadsSome) (one : (line : List ℕ) (ls : List Lexeme) → (read line ≡ Some ls) ↔ SpellsLexemes line ls) where
  led : (k : ℕ) (s t : HeldView) (ls : List (List ℕ)) → Leads step k s ls t
      → (ts : List (Lexeme × ℕ)) × SpellsLines k ls ts × (t.tokens ≡ s.tokens ++ number_all s.names ts)
  led k s t [] h = ([], refl, ap (λ x. x.tokens) (sym h) ∙ sym (append-nil s.tokens))
  led k s t (l ∷ ls) (u, h, more) =
      let r = law l in
      let here = r.0 in
      let read_is : Ok (add_read k s (read l)) ≡ Ok (add_all k s here) = ap (λ o. Ok (add_read k s o)) r.1 in
      let two : Ok (add_all k s here) ≡ Ok u = sym read_is ∙ h in
      let same : add_all k s here ≡ u = cc in
      let later = led (k + 1) u t ls more in
      let a = added k here s in
      let ns : u.names ≡ names_after s.names (at_line k here) = ap (λ x. x.names) (sym same) ∙ a.0 in
      let ts : u.tokens ≡ s.tokens ++ number_all s.names (at_line k here) = ap (λ x. x.tokens) (sym same) ∙ a.1 in (
        at_line k here ++ later.0,
        (here, later.0, refl, (one l here).0 r.1, later.1),
        later.2 ∙ (ap (λ x. x ++ number_all u.names later.0) ts ∙ (append_assoc s.tokens (number_all s.names (at_line k here)) (number_all u.names later.0)
            ∙ ap (λ x. s.tokens ++ x) (ap (λ n. number_all s.names (at_line k here) ++ number_all n later.0) ns ∙ sym (number_append s.names (at_line k here) later.0)))),
      )

  pub has_tokens : (text : List ℕ) (t : HeldView) (tokens : List Token) → Leads step 1 (record { names = main_only; tokens = [] }) (contents text) t → tokens ≡ t.tokens → HasTokens text tokens
  has_tokens text t tokens h e = let r = led 1 (record { names = main_only; tokens = [] }) t (contents text) h in (r.0, r.1, e ∙ r.2)
