-- What is printed has no newline, no carriage return and no slash.
use Rattle.mal_print.proofs.Common.{◌≡◌, ℕ, Bool, true, List, [], ◌∷◌, ◌++◌, refl, ap, ◌∙◌, arith, cond, ◌&&◌, codes, list_all, nat_tests, and_from, and_parts}
use Rattle.mal_print.proofs.Common.{cond_both, list_all-append, is_name_byte, named, Word, Sign, Token, sign_text, word_text, IsTextOf, spelled_as, IsLexeme}
use Rattle.mal_tokens.specs.declared.word.Word.TheVariants as words
use Rattle.mal_tokens.specs.declared.sign.Sign.TheVariants as signs
use Rattle.mal_tokens.specs.declared.token.Token.TheVariants as tokens
use Rattle.mal_print.specs.Prelude.{is_spaced, is_spacing, printed_after, token_text, is_plain}
use Rattle.mal_print.proofs.Spelling.{AreLexemes}

pub all_append : {A : Type 0} (p : A → Bool) (xs ys : List A) → list_all p xs ≡ true → list_all p ys ≡ true → list_all p (xs ++ ys) ≡ true
all_append p xs ys h g = list_all-append p xs ys ∙ and_from _ _ h g

plain_byte : (b : ℕ) → is_name_byte b ≡ true → is_plain b ≡ true
plain_byte b h = grind (arith, nat_tests)

plain_bytes : (text : List ℕ) → list_all is_name_byte text ≡ true → list_all is_plain text ≡ true
plain_bytes [] h = refl
plain_bytes (b ∷ text) h = let p = and_parts (is_name_byte b) (list_all is_name_byte text) h in ap (λ t. t && list_all is_plain text) (plain_byte b p.0) ∙ plain_bytes text p.1

plain_word : (w : Word) → list_all is_plain (word_text w) ≡ true
plain_word words.Mar = refl
plain_word _ = refl

plain_sign : (s : Sign) → list_all is_plain (sign_text s) ≡ true
plain_sign signs.Equals = refl
plain_sign _ = refl

plain_lexeme : (t : Token) (text : List ℕ) → IsLexeme t text → list_all is_plain text ≡ true
plain_lexeme t text l = go t (spelled_as t text l)
  where
    go : (t : Token) → IsTextOf t text → list_all is_plain text ≡ true
    go (tokens.Word w) is = ap (list_all is_plain) is ∙ plain_word w
    go (tokens.Sign s) is = ap (list_all is_plain) is ∙ plain_sign s
    go (tokens.Name n) is = ap (list_all is_plain) is.0 ∙ plain_bytes n (named n is.1.0).all
    go (tokens.Number v) is = plain_bytes text is

pub plain_printed : (spacing : Bool) (ts : List Token) → AreLexemes spacing ts → list_all is_plain (printed_after spacing ts) ≡ true
plain_printed spacing [] l = refl
plain_printed spacing (t ∷ ts) l =
    all_append is_plain (cond (is_spaced spacing t) (codes " ") []) (token_text (is_spaced spacing t) t ++ printed_after (is_spacing t) ts)
    (cond_both (is_spaced spacing t) (codes " ") [] (λ xs. list_all is_plain xs ≡ true) (λ e. refl) (λ e. refl))
    (all_append is_plain (token_text (is_spaced spacing t) t) (printed_after (is_spacing t) ts) (plain_lexeme t (token_text (is_spaced spacing t) t) l.0) (plain_printed (is_spacing t) ts l.1))
