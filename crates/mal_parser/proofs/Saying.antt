-- The label of a statement is a label.
use Rattle.mal_parser.proofs.Common.{◌≡◌, ℕ, List, ◌∷◌, Option, Some, None, subst, inl, inr, IfSome, ◌⊎◌, mapped, SaysLine, Machine, Token, spelled_as}
use Rattle.mal_parser.proofs.Common.{IsLabelText, Parts, Form}
use Rattle.mal_tokens.specs.declared.token.Token.TheVariants as tokens
use Rattle.mal_tokens.specs.declared.sign.Sign.TheVariants as signs
use Rattle.mal_tokens.specs.Tokens as tokens_spelled
use Rattle.mal_line.specs.declared.content.Content.TheVariants as said
use Rattle.mal_line.specs.declared.line.Form.TheVariants as forms
use Rattle.mal_line.specs.Lines as lines
use Rattle.mal_parser.specs.Prelude.{grammar}

name_free : (line : List ℕ) (ts rest : List Token) (l : List ℕ) → ts ≡ tokens.Name l ∷ rest → tokens_spelled.SpellsTokens line ts → IsLabelText l
name_free line ts rest l e s = go (subst (λ ts. tokens_spelled.SpellsTokens line ts) e s)
  where
    go : tokens_spelled.SpellsTokens line (tokens.Name l ∷ rest) → IsLabelText l
    go (gap, lexeme, after, split, blank, is, ends, more) = (spelled_as (tokens.Name l) lexeme is).1

pub free_label : (m : Machine) (line : List ℕ) (label : Option (List ℕ)) (parts : Parts) → SaysLine (grammar m) line (said.Statement label parts) → IfSome label IsLabelText
free_label m line label parts s = go s.means.form s.means.has s.means.says
  where
    go : (f : Form) → lines.IsForm m s.sequence f → lines.content_of f ≡ Some (said.Statement label parts) → IfSome label IsLabelText
    go forms.Nothing is e = absurd (cc)
    go (forms.Fix l v) is e = absurd (cc)
    go (forms.Fallback t) is e = absurd (let q = mapped (λ p. said.Fallback p) (lines.parts_of t) (said.Statement label parts) e in let z = q.2 in cc)
    go (forms.Statement None t) is e =
        let q = mapped (λ p. said.Statement None p) (lines.parts_of t) (said.Statement label parts) e in
        let z = q.2 in
        let k : None ≡ label = cc in
        subst (λ o. IfSome o IsLabelText) k tt
    go (forms.Statement (Some l) t) (rest, split, a) e =
        let q = mapped (λ p. said.Statement (Some l) p) (lines.parts_of t) (said.Statement label parts) e in
        let z = q.2 in
        let k : Some l ≡ label = cc in
        subst (λ o. IfSome o IsLabelText) k (free rest split)
      where
        free : (rest : List Token) → (s.sequence ≡ tokens.Name l ∷ rest) ⊎ (s.sequence ≡ tokens.Name l ∷ tokens.Sign signs.Colon ∷ rest) → IsLabelText l
        free rest (inl d) = name_free line s.sequence rest l d s.spelled
        free rest (inr d) = name_free line s.sequence (tokens.Sign signs.Colon ∷ rest) l d s.spelled
