-- A language by its table: its signs, its numbers and its names, and how a token goes on after its first byte.
use Rattle.std.specs.Prelude.{◌≡◌, ◌⊎◌, ℕ, suc, ◌≤◌, ◌==◌, ◌&&◌, ◌||◌, Bool, true, false, List, [], ◌∷◌, length, Option, Some, None, is_some, if◌then◌else◌}
use Rattle.std.specs.Char.{is_ascii_digit}
use Rattle.std.specs.List.{list_all, prefix_len}
use Rattle.mic_base.specs.Prelude.{is_name, is_name_byte}
use Rattle.source_text.specs.declared.table.Front.{Front}
use Rattle.source_text.specs.declared.table.Front.TheVariants as fronts
use Rattle.source_text.specs.Runs.{begins_with, name_len, quote_len}

pub record Table (T : Type 0) : Type 0 where
  -- the token of a sign, a dotted word or a reserved word
  pub sign : List ℕ → Option T
  -- the token of a number's text, if it has one
  pub number : List ℕ → Option T
  -- the token of a name that is not reserved
  pub name : List ℕ → T
  -- the token of any other text, if the language has one
  pub other : Option T
  -- whether `-` begins a number
  pub minus : Bool
  -- whether a single quote does
  pub quotes : Bool
  -- the bytes that may stand after a dot
  pub dotted : ℕ → Bool

-- ---- which token a text is

-- a digit, and `-` and a single quote if the language has such numbers
abbrev pub begins_number : {T : Type 0} → Table T → List ℕ → Bool
begins_number L [] = false
begins_number L (b ∷ rest) = is_ascii_digit b || ((b == 45 && L.minus) || (b == 39 && L.quotes))

abbrev pub name_or_other : {T : Type 0} → Table T → List ℕ → Option T
name_or_other L text = if is_name text then Some (L.name text) else L.other

abbrev pub sign_or_name : {T : Type 0} → Table T → List ℕ → Option T → Option T
sign_or_name L text (Some t) = Some t
sign_or_name L text None = name_or_other L text

-- a number by its first byte, or else a sign, a name, or any other text
abbrev pub token_of : {T : Type 0} → Table T → List ℕ → Option T
token_of L text = if begins_number L text then L.number text else sign_or_name L text (L.sign text)

-- ---- how a token goes on after its first byte

abbrev pub begins_run : {T : Type 0} → Table T → ℕ → Bool
begins_run L b = is_name_byte b || (b == 45 && L.minus)

abbrev pub front_of : {T : Type 0} → Table T → ℕ → Front
front_of L b = if begins_run L b then fronts.Run else (if b == 46 then fronts.Dotted else (if b == 39 && L.quotes then fronts.Quote else fronts.Sign))

-- this byte and the next are a sign
abbrev pub is_pair : {T : Type 0} → Table T → ℕ → List ℕ → Bool
is_pair L b [] = false
is_pair L b (c ∷ rest) = is_some (L.sign (b ∷ c ∷ []))

-- what may stand after the first byte
abbrev pub GoesOn : {T : Type 0} → Table T → Front → ℕ → List ℕ → Type 0
GoesOn L fronts.Run b text = list_all is_name_byte text ≡ true
GoesOn L fronts.Dotted b text = list_all L.dotted text ≡ true
GoesOn L fronts.Quote b text = length text ≤ 2
GoesOn L fronts.Sign b text = (text ≡ []) ⊎ ((length text ≡ 1) × (is_pair L b text ≡ true))

-- what may stand after all of it: runs and dotted words are the longest, two bytes stand after a quote if the line has them,
-- and two bytes that are a sign are not two tokens
abbrev pub MayEnd : {T : Type 0} → Table T → Front → ℕ → List ℕ → List ℕ → Type 0
MayEnd L fronts.Run b text rest = begins_with is_name_byte rest ≡ false
MayEnd L fronts.Dotted b text rest = begins_with L.dotted rest ≡ false
MayEnd L fronts.Quote b text rest = (length text ≡ 2) ⊎ (rest ≡ [])
MayEnd L fronts.Sign b text rest = text ≡ [] → is_pair L b rest ≡ false

-- ---- how far it goes

-- how many bytes of the token stand after its first
abbrev pub reach : {T : Type 0} → Table T → Front → ℕ → List ℕ → ℕ
reach L fronts.Run b rest = name_len rest
reach L fronts.Dotted b rest = prefix_len L.dotted rest
reach L fronts.Quote b rest = quote_len rest
reach L fronts.Sign b rest = if is_pair L b rest then 1 else 0

abbrev pub extent : {T : Type 0} → Table T → List ℕ → ℕ
extent L [] = 0
extent L (b ∷ rest) = suc (reach L (front_of L b) b rest)
