-- The list of a method's parameters.
use Rattle.std.specs.Prelude.{ℕ, List, [], ◌∷◌, drop, Option, Some, None}
use Rattle.std.specs.List.{filter_map}
use Rattle.ijvm_tokens.specs.declared.sign.Sign.TheVariants as signs
use Rattle.ijvm_tokens.specs.declared.token.Token.{Token}
use Rattle.ijvm_tokens.specs.declared.token.Token.TheVariants as tokens

-- how further parameters are spelled, each after a comma
abbrev pub more_tokens : List (List ℕ) → List Token
more_tokens [] = tokens.Sign signs.Close ∷ []
more_tokens (p ∷ ps) = tokens.Sign signs.Comma ∷ tokens.Name p ∷ more_tokens ps

-- how parameters are spelled after the opening parenthesis
abbrev pub list_tokens : List (List ℕ) → List Token
list_tokens [] = tokens.Sign signs.Close ∷ []
list_tokens (p ∷ ps) = tokens.Name p ∷ more_tokens ps

abbrev pub method_tokens : List ℕ → List (List ℕ) → List Token
method_tokens name ps = tokens.Sign signs.Method ∷ tokens.Name name ∷ tokens.Sign signs.Open ∷ list_tokens ps

abbrev pub name_of : Token → Option (List ℕ)
name_of (tokens.Name name) = Some name
name_of _ = None

-- the names after the first two tokens of a line
abbrev pub parameters : List Token → List (List ℕ)
parameters ts = filter_map name_of (drop 2 ts)
