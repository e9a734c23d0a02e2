-- What the text of a token is.
use Rattle.std.proofs.Common.{◌≡◌, ℕ, true, inl, inr, List, [], ◌∷◌, Some, refl, sym, subst}
use Rattle.std.proofs.lemmas.Slice.Eq.{bytes_eq-Decides}
use Rattle.std.specs.Str.{bytes_eq}
use Rattle.mic_base.specs.Prelude.{is_name, number_of}
use Rattle.source_text.specs.Prelude.{find_passes, mapped, ByTable, by_table}
use Rattle.ijvm_tokens.specs.declared.sign.Sign.{Sign}
use Rattle.ijvm_tokens.specs.declared.token.Token.{Token}
use Rattle.ijvm_tokens.specs.declared.token.Token.TheVariants as tokens
use Rattle.ijvm_tokens.specs.Signs.{all_signs, find_sign, sign_text}
use Rattle.ijvm_tokens.specs.Tokens.{IsLexeme, ijvm, value_by}

abbrev pub IsTextOf : Token → List ℕ → Type 0
IsTextOf (tokens.Sign s) text = text ≡ sign_text s
IsTextOf (tokens.Name n) text = (text ≡ n) × (is_name n ≡ true)
IsTextOf (tokens.Number v) text = value_by (number_of text) ≡ v

found_sign : (text : List ℕ) (s : Sign) → find_sign text ≡ Some s → text ≡ sign_text s
found_sign text s h = sym ((bytes_eq-Decides (sign_text s) text).0 (find_passes (λ s. bytes_eq (sign_text s) text) all_signs s h))

pub spelled_as : (t : Token) (text : List ℕ) → IsLexeme t text → IsTextOf t text
spelled_as t [] is = absurd is
spelled_as t (b ∷ rest) (dark, goes, is) = go (by_table ijvm (b ∷ rest) t is)
  where
    go : ByTable ijvm (b ∷ rest) t → IsTextOf t (b ∷ rest)
    go (inl w) = let z = w.is in let k : tokens.Number (value_by (number_of (b ∷ rest))) ≡ t = cc in subst (λ t. IsTextOf t (b ∷ rest)) k refl
    go (inr (inl h)) = let m = mapped (λ s. tokens.Sign s) (find_sign (b ∷ rest)) t h in subst (λ t. IsTextOf t (b ∷ rest)) m.2 (found_sign (b ∷ rest) m.0 m.1)
    go (inr (inr (inl w))) = subst (λ t. IsTextOf t (b ∷ rest)) w.is (refl, w.is_name)
    go (inr (inr (inr h))) = absurd (cc)
