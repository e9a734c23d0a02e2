-- The forms of a line at its place: how each is spelled by tokens.
use Rattle.std.specs.Prelude.{◌≡◌, ℕ, List, [], ◌∷◌, Option, Some, None}
use Rattle.ijvm_tokens.specs.declared.sign.Sign.TheVariants as signs
use Rattle.ijvm_tokens.specs.declared.token.Token.{Token}
use Rattle.ijvm_tokens.specs.declared.token.Token.TheVariants as tokens
use Rattle.ijvm_line.specs.declared.place.Place.{Place}
use Rattle.ijvm_line.specs.declared.place.Place.TheVariants as places
use Rattle.ijvm_line.specs.declared.statement.Statement.{Statement}
use Rattle.ijvm_line.specs.declared.form.Form.{Form}
use Rattle.ijvm_line.specs.declared.form.Form.TheVariants as forms
use Rattle.ijvm_line.specs.Parameters.{method_tokens}
use Rattle.ijvm_line.specs.Places.{mark_place, mark_sign}
use Rattle.ijvm_line.specs.Statements.{IsStatement}

-- `[LABEL:] [INSTRUCTION]`, not both missing
abbrev pub IsCode : List Token → Option (List ℕ) → Option Statement → Type 0
IsCode ts None None = ⊥
IsCode ts None (Some statement) = IsStatement ts statement
IsCode ts (Some label) None = ts ≡ tokens.Name label ∷ tokens.Sign signs.Colon ∷ []
IsCode ts (Some label) (Some statement) = (rest : List Token) × (ts ≡ tokens.Name label ∷ tokens.Sign signs.Colon ∷ rest) × IsStatement rest statement

-- the tokens of a line at this place have the form
abbrev pub IsForm : Place → List Token → Form → Type 0
IsForm place ts forms.Nothing = ts ≡ []
IsForm place ts (forms.Mark mark) = (place ≡ mark_place mark) × (ts ≡ tokens.Sign (mark_sign mark) ∷ [])
IsForm place ts (forms.Method name) = (place ≡ places.Outside) × ((parameters : List (List ℕ)) × (ts ≡ method_tokens name parameters))
IsForm place ts (forms.Constant name value) = (place ≡ places.Constants) × (ts ≡ tokens.Name name ∷ tokens.Number value ∷ [])
IsForm place ts (forms.Local name) = (place ≡ places.Locals) × (ts ≡ tokens.Name name ∷ [])
IsForm place ts (forms.Code label statement) = (place ≡ places.Code) × IsCode ts label statement
