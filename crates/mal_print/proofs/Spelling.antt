-- What is printed spells its tokens, where each text is its token's.
use Rattle.mal_print.proofs.Common.{◌≡◌, ℕ, Bool, true, false, List, [], ◌∷◌, ◌++◌, refl, ap, sym, subst, ◌∙◌, cond, ◌&&◌, ◌||◌, codes, AllByRecursion as Each}
use Rattle.mal_print.proofs.Common.{cond_both, is_name_byte, begins_with, ends_with, AreBlank, Token, Sign, sign_text, may_end, spelled_as, IsLexeme}
use Rattle.mal_print.proofs.Common.{SpellsTokens}
use Rattle.mal_tokens.specs.declared.token.Token.TheVariants as tokens
use Rattle.mal_tokens.specs.declared.sign.Sign.TheVariants as signs
use Rattle.mal_print.specs.Prelude.{is_open, is_spaced, is_spacing, is_wordy, printed_after, token_text}

-- the text that is printed of each token spells it
abbrev pub AreLexemes : Bool → List Token → Type 0
AreLexemes spacing [] = Unit {0}
AreLexemes spacing (t ∷ ts) = IsLexeme t (token_text (is_spaced spacing t) t) × AreLexemes (is_spacing t) ts

-- after a space or not, the text of the token spells it
abbrev pub IsShown : Token → Type 0
IsShown t = (spaced : Bool) → IsLexeme t (token_text spaced t)

pub shown_lexemes : (spacing : Bool) (ts : List Token) → Each IsShown ts → AreLexemes spacing ts
shown_lexemes spacing [] h = tt
shown_lexemes spacing (t ∷ ts) h = (h.0 (is_spaced spacing t), shown_lexemes (is_spacing t) ts h.1)

-- ---- texts of signs

sign_begins : (s : Sign) (rest : List ℕ) → is_wordy (tokens.Sign s) ≡ false → begins_with is_name_byte (sign_text s ++ rest) ≡ false
sign_begins signs.Equals rest h = refl
sign_begins _ rest h = refl

sign_ends : (s : Sign) → is_wordy (tokens.Sign s) ≡ false → ends_with is_name_byte (sign_text s) ≡ false
sign_ends signs.Label h = cc
sign_ends _ h = cc

bare_begins : (t : Token) (text rest : List ℕ) → is_wordy t ≡ false → IsLexeme t text → begins_with is_name_byte (text ++ rest) ≡ false
bare_begins (tokens.Sign s) text rest h is = ap (λ x. begins_with is_name_byte (x ++ rest)) (spelled_as (tokens.Sign s) text is) ∙ sign_begins s rest h
bare_begins _ text rest h is = absurd (cc)

bare_ends : (t : Token) (text : List ℕ) → is_wordy t ≡ false → IsLexeme t text → ends_with is_name_byte text ≡ false
bare_ends (tokens.Sign s) text h is = ap (ends_with is_name_byte) (spelled_as (tokens.Sign s) text is) ∙ sign_ends s h
bare_ends _ text h is = absurd (cc)

-- ---- what is printed spells its tokens

not_wordy : (o w : Bool) → (o || (w && true)) ≡ false → w ≡ false
not_wordy true w h = absurd (cc)
not_wordy false true h = absurd (cc)
not_wordy false false h = refl

wordy_spacing : (t : Token) → is_wordy t ≡ true → is_spacing t ≡ true
wordy_spacing (tokens.Sign signs.Label) h = cc
wordy_spacing _ h = cc

-- what follows a word begins with no letter or digit
begins_fine : (ts : List Token) → AreLexemes true ts → begins_with is_name_byte (printed_after true ts) ≡ false
begins_fine [] l = refl
begins_fine (t ∷ ts) l = go (is_spaced true t) refl
  where
    go : (s : Bool) → is_spaced true t ≡ s → begins_with is_name_byte (cond s (codes " ") [] ++ (token_text (is_spaced true t) t ++ printed_after (is_spacing t) ts)) ≡ false
    go true e = refl
    go false e = bare_begins t (token_text (is_spaced true t) t) (printed_after (is_spacing t) ts) (not_wordy (is_open t) (is_wordy t) e) l.0

pub prints : (spacing : Bool) (ts : List Token) → AreLexemes spacing ts → SpellsTokens (printed_after spacing ts) ts
prints spacing [] l = refl
prints spacing (t ∷ ts) l =
    let text = token_text (is_spaced spacing t) t in
    let rest = printed_after (is_spacing t) ts in (
      cond (is_spaced spacing t) (codes " ") [],
      text,
      rest,
      refl,
      cond_both (is_spaced spacing t) (codes " ") [] AreBlank (λ e. refl) (λ e. refl),
      l.0,
      may_end t text rest l.0 (ends (is_wordy t) refl),
      prints (is_spacing t) ts l.1,
    )
  where
    ends : (w : Bool) → is_wordy t ≡ w → ends_with is_name_byte (token_text (is_spaced spacing t) t) ≡ true → begins_with is_name_byte (printed_after (is_spacing t) ts) ≡ false
    ends true e g = subst (λ s. AreLexemes s ts → begins_with is_name_byte (printed_after s ts) ≡ false) (sym (wordy_spacing t e)) (begins_fine ts) l.1
    ends false e g = absurd (let k = bare_ends t (token_text (is_spaced spacing t) t) e l.0 in cc)
