-- The list of a method's parameters is read as what it spells.
use Rattle.ijvm_line.proofs.Common.{◌≡◌, ℕ, List, [], ◌∷◌, true, refl, ap, filter_map, Token}
use Rattle.ijvm_tokens.specs.declared.sign.Sign.TheVariants as signs
use Rattle.ijvm_tokens.specs.declared.token.Token.TheVariants as tokens
use Rattle.ijvm_line.specs.Prelude.{list_tokens, method_tokens, more_tokens, name_of, parameters, is_close, is_list, is_more}

more_names : (ps : List (List ℕ)) → filter_map name_of (more_tokens ps) ≡ ps
more_names [] = refl
more_names (p ∷ ps) = ap (λ z. p ∷ z) (more_names ps)

pub names_again : (n : List ℕ) (ps : List (List ℕ)) → parameters (method_tokens n ps) ≡ ps
names_again n [] = refl
names_again n (p ∷ ps) = ap (λ z. p ∷ z) (more_names ps)

more_again : (ps : List (List ℕ)) → is_more (more_tokens ps) ≡ true
more_again [] = refl
more_again (p ∷ ps) = more_again ps

pub list_again : (ps : List (List ℕ)) → is_list (list_tokens ps) ≡ true
list_again [] = refl
list_again (p ∷ ps) = more_again ps

more_is : (ts : List Token) → is_more ts ≡ true → (ps : List (List ℕ)) × (ts ≡ more_tokens ps)
more_is (tokens.Sign signs.Comma ∷ tokens.Name p ∷ rest) h = let r = more_is rest h in (p ∷ r.0, ap (λ z. tokens.Sign signs.Comma ∷ tokens.Name p ∷ z) r.1)
more_is (tokens.Sign signs.Close ∷ []) h = ([], refl)
more_is _ h = absurd (cc)

close_is : (ts : List Token) → is_close ts ≡ true → ts ≡ tokens.Sign signs.Close ∷ []
close_is (tokens.Sign signs.Close ∷ []) h = refl
close_is _ h = absurd (cc)

pub list_is : (ts : List Token) → is_list ts ≡ true → (ps : List (List ℕ)) × (ts ≡ list_tokens ps)
list_is [] h = absurd (cc)
list_is (tokens.Name p ∷ rest) h = let r = more_is rest h in (p ∷ r.0, ap (λ z. tokens.Name p ∷ z) r.1)
list_is (tokens.Sign s ∷ rest) h = ([], close_is (tokens.Sign s ∷ rest) h)
list_is (tokens.Number v ∷ rest) h = absurd (cc)
