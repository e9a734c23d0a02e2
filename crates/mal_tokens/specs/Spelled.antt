-- Lemmas on what spells a token: words, signs, labels and numbers.
use Rattle.std.proofs.Common.{◌≡◌, ℕ, Bool, true, false, inl, inr, List, [], ◌∷◌, Option, Some, None, refl, sym, subst}
use Rattle.std.specs.Prelude.{◌⊎◌, ◌==◌, ◌||◌, ◌&&◌, ℤ, Ok, Err, Result, is_some}
use Rattle.std.specs.Char.{is_ascii_digit}
use Rattle.std.proofs.lemmas.Slice.Eq.{bytes_eq-Decides}
use Rattle.std.proofs.lemmas.Bool.{and_parts, and_right, or_cases}
use Rattle.std.specs.List.{list_all}
use Rattle.std.specs.Str.{bytes_eq}
use Rattle.mic_base.specs.Prelude.{begins_digit, is_name_byte, number_of}
use Rattle.mic_base.specs.declared.number.NumberError.{NumberError}
use Rattle.source_text.specs.Prelude.{find_passes, ends_all, begins_with, ends_with, ByTable, by_table, name_dark, named, not_of_name, GoesOn, begins_number, front_of, token_of, EndsLexeme}
use Rattle.mal_tokens.specs.declared.word.Word.{Word}
use Rattle.mal_tokens.specs.declared.word.Word.TheVariants as words
use Rattle.mal_tokens.specs.declared.sign.Sign.{Sign}
use Rattle.mal_tokens.specs.declared.sign.Sign.TheVariants as signs
use Rattle.mal_tokens.specs.declared.token.Token.{Token}
use Rattle.mal_tokens.specs.declared.token.Token.TheVariants as tokens
use Rattle.mal_tokens.specs.Words.{IsLabelText, all_signs, all_words, find_sign, find_word, sign_text, word_text}
use Rattle.mal_tokens.specs.Tokens.{IsLexeme, mal, number_token, word_or_sign}

-- ---- what these spell

pub word_lexeme : (w : Word) → IsLexeme (tokens.Word w) (word_text w)
word_lexeme w = elim w as (λ w. IsLexeme (tokens.Word w) (word_text w)) [
  | words.Mar ↦ (refl, refl, refl)
  | _ ↦ (refl, refl, refl)
]

pub sign_lexeme : (s : Sign) → IsLexeme (tokens.Sign s) (sign_text s)
sign_lexeme s = elim s as (λ s. IsLexeme (tokens.Sign s) (sign_text s)) [
  | signs.Left ↦ (refl, inr (refl, refl), refl)
  | signs.Right ↦ (refl, inr (refl, refl), refl)
  | signs.Label ↦ (refl, refl, refl)
  | signs.Default ↦ (refl, refl, refl)
  | _ ↦ (refl, inl refl, refl)
]

found_word : (text : List ℕ) (w : Word) → find_word text ≡ Some w → text ≡ word_text w
found_word text w h = sym ((bytes_eq-Decides (word_text w) text).0 (find_passes (λ w. bytes_eq (word_text w) text) all_words w h))

found_sign : (text : List ℕ) (s : Sign) → find_sign text ≡ Some s → text ≡ sign_text s
found_sign text s h = sym ((bytes_eq-Decides (sign_text s) text).0 (find_passes (λ s. bytes_eq (sign_text s) text) all_signs s h))

sign_bare : (s : Sign) → begins_with is_name_byte (sign_text s) ≡ false
sign_bare s = elim s as (λ s. begins_with is_name_byte (sign_text s) ≡ false) [
  | signs.Equals ↦ refl
  | _ ↦ refl
]

-- no sign begins with a byte of a name
no_sign : (text : List ℕ) → begins_with is_name_byte text ≡ true → find_sign text ≡ None
no_sign text h = go (find_sign text) refl
  where
    go : (r : Option Sign) → find_sign text ≡ r → r ≡ None
    go None e = refl
    go (Some s) e = let f : text ≡ sign_text s = found_sign text s e in absurd (let k = sign_bare s in cc)

no_word : (r : Option Word) → is_some r ≡ false → r ≡ None
no_word None h = refl
no_word (Some w) h = absurd (cc)

run_goes : (b : ℕ) (text : List ℕ) → is_name_byte b ≡ true → list_all is_name_byte text ≡ true → GoesOn mal (front_of mal b) b text
run_goes b text h all = rw h all

pub label_lexeme : (label : List ℕ) → IsLabelText label → IsLexeme (tokens.Name label) label
label_lexeme [] h = absurd (let n = (named [] h.0).starts in cc)
label_lexeme (b ∷ rest) h =
    let n = named (b ∷ rest) h.0 in
    let all = and_parts (is_name_byte b) (list_all is_name_byte rest) n.all in
    let minus = not_of_name b 45 all.0 refl in
    let quote = not_of_name b 39 all.0 refl in
    let token : token_of mal (b ∷ rest) ≡ Some (tokens.Name (b ∷ rest)) =
    rw (n.no_digit, minus, quote, no_word (find_word (b ∷ rest)) h.1, no_sign (b ∷ rest) all.0, h.0) refl in
    (name_dark b all.0, run_goes b rest all.0 all.1, token)

digit_name : (b : ℕ) (text : List ℕ) → begins_digit (b ∷ text) ≡ true → is_name_byte b ≡ true
digit_name b text h = rw h refl

pub number_lexeme : (text : List ℕ) (v : ℤ) → begins_digit text ≡ true → list_all is_name_byte text ≡ true → number_of text ≡ Ok v → IsLexeme (tokens.Number v) text
number_lexeme [] v d all e = absurd (cc)
number_lexeme (b ∷ text) v d all e =
    let name = digit_name b text d in
    let token : token_of mal (b ∷ text) ≡ Some (tokens.Number v) = rw (d, e) refl in
    (name_dark b name, run_goes b text name (and_parts (is_name_byte b) (list_all is_name_byte text) all).1, token)

-- ---- what spells these

-- what the text of a token is
abbrev pub IsTextOf : Token → List ℕ → Type 0
IsTextOf (tokens.Word w) text = text ≡ word_text w
IsTextOf (tokens.Sign s) text = text ≡ sign_text s
IsTextOf (tokens.Name n) text = (text ≡ n) × IsLabelText n
IsTextOf (tokens.Number v) text = list_all is_name_byte text ≡ true

digit_first : (b : ℕ) (text : List ℕ) → begins_number mal (b ∷ text) ≡ true → is_name_byte b ≡ true
digit_first b text h = go (is_ascii_digit b) refl (or_cases (is_ascii_digit b) ((b == 45 && false) || (b == 39 && false)) h)
  where
    none : ((b == 45 && false) || (b == 39 && false)) ≡ true → ⊥
    none k = let m = and_right (b == 45) false refl in let q = and_right (b == 39) false refl in let e : ((b == 45 && false) || (b == 39 && false)) ≡ false = rw (m, q) refl in cc

    go : (x : Bool) → is_ascii_digit b ≡ x → (is_ascii_digit b ≡ true) ⊎ (((b == 45 && false) || (b == 39 && false)) ≡ true) → is_name_byte b ≡ true
    go x e (inl d) = digit_name b text d
    go x e (inr k) = absurd (none k)

goes_all : (b : ℕ) (text : List ℕ) → is_name_byte b ≡ true → GoesOn mal (front_of mal b) b text → list_all is_name_byte (b ∷ text) ≡ true
goes_all b text h goes =
    let all : list_all is_name_byte text ≡ true = rw h at goes in
    rw h all

number_text : (b : ℕ) (text : List ℕ) (r : Result ℤ NumberError) (t : Token) → list_all is_name_byte (b ∷ text) ≡ true → number_token r ≡ Some t → IsTextOf t (b ∷ text)
number_text b text (Ok v) t all h = let k : tokens.Number v ≡ t = cc in subst (λ t. IsTextOf t (b ∷ text)) k all
number_text b text (Err e) t all h = absurd (cc)

found_text : (text : List ℕ) (w : Option Word) (s : Option Sign) (t : Token) → find_word text ≡ w → find_sign text ≡ s → word_or_sign w s ≡ Some t → IsTextOf t text
found_text text (Some w) s t e f h = let k : tokens.Word w ≡ t = cc in subst (λ t. IsTextOf t text) k (found_word text w e)
found_text text None (Some s) t e f h = let k : tokens.Sign s ≡ t = cc in subst (λ t. IsTextOf t text) k (found_sign text s f)
found_text text None None t e f h = absurd (cc)

unreserved : (w : Option Word) (s : Option Sign) → word_or_sign w s ≡ None → is_some w ≡ false
unreserved None s h = refl
unreserved (Some w) s h = absurd (cc)

pub spelled_as : (t : Token) (text : List ℕ) → IsLexeme t text → IsTextOf t text
spelled_as t [] is = absurd is
spelled_as t (b ∷ rest) (dark, goes, is) = go (by_table mal (b ∷ rest) t is)
  where
    go : ByTable mal (b ∷ rest) t → IsTextOf t (b ∷ rest)
    go (inl w) = number_text b rest (number_of (b ∷ rest)) t (goes_all b rest (digit_first b rest w.begins) goes) w.is
    go (inr (inl h)) = found_text (b ∷ rest) (find_word (b ∷ rest)) (find_sign (b ∷ rest)) t refl refl h
    go (inr (inr (inl w))) = subst (λ t. IsTextOf t (b ∷ rest)) w.is (refl, (w.is_name, unreserved (find_word (b ∷ rest)) (find_sign (b ∷ rest)) w.free))
    go (inr (inr (inr h))) = absurd (cc)

-- ---- what may follow

word_named : (w : Word) → list_all is_name_byte (word_text w) ≡ true
word_named w = elim w as (λ w. list_all is_name_byte (word_text w) ≡ true) [
  | words.Mar ↦ refl
  | _ ↦ refl
]

-- no letter, digit or `_` stands after one of them
abbrev pub IsEnd : List ℕ → List ℕ → Type 0
IsEnd text rest = ends_with is_name_byte text ≡ true → begins_with is_name_byte rest ≡ false

sign_may_end : (s : Sign) (rest : List ℕ) → IsEnd (sign_text s) rest → EndsLexeme mal (sign_text s) rest
sign_may_end s [] = elim s as (λ s. IsEnd (sign_text s) [] → EndsLexeme mal (sign_text s) []) [
  | signs.Left ↦ λ h e. absurd (cc)
  | signs.Right ↦ λ h e. absurd (cc)
  | signs.Label ↦ λ h. refl
  | signs.Default ↦ λ h. refl
  | _ ↦ λ h e. refl
]
sign_may_end s (c ∷ rest) = elim s as (λ s. IsEnd (sign_text s) (c ∷ rest) → EndsLexeme mal (sign_text s) (c ∷ rest)) [
  | signs.Left ↦ λ h e. absurd (cc)
  | signs.Right ↦ λ h e. absurd (cc)
  | signs.Label ↦ λ h. h refl
  | signs.Default ↦ λ h. h refl
  | _ ↦ λ h e. refl
]

run_may_end : (text rest : List ℕ) → list_all is_name_byte text ≡ true → IsEnd text rest → EndsLexeme mal text rest
run_may_end [] rest all e = tt
run_may_end (b ∷ text) rest all e =
    let first = (and_parts (is_name_byte b) (list_all is_name_byte text) all).0 in
    rw first (e (ends_all is_name_byte b text all))

pub may_end : (t : Token) (text rest : List ℕ) → IsLexeme t text → IsEnd text rest → EndsLexeme mal text rest
may_end t text rest is e = go t (spelled_as t text is)
  where
    go : (t : Token) → IsTextOf t text → EndsLexeme mal text rest
    go (tokens.Word w) is = run_may_end text rest (subst (λ x. list_all is_name_byte x ≡ true) (sym is) (word_named w)) e
    go (tokens.Sign s) is = subst (λ x. EndsLexeme mal x rest) (sym is) (sign_may_end s rest (subst (λ x. IsEnd x rest) is e))
    go (tokens.Name n) is = run_may_end text rest (subst (λ x. list_all is_name_byte x ≡ true) (sym is.0) (named n is.1.0).all) e
    go (tokens.Number v) is = run_may_end text rest is e
