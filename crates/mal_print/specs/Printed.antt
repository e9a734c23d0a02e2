-- Tokens printed one after the other, and the spaces between them.
use Rattle.std.specs.Prelude.{ℕ, ℤ, pos, negsuc, ◌+◌, ◌||◌, ◌&&◌, Bool, true, false, List, [], ◌∷◌, ◌++◌, Option, Some, None, codes, length, if◌then◌else◌, nat_lt}
use Rattle.std.specs.Fmt.{signed_decimal}
use Rattle.mic_base.specs.Prelude.{hex_text}
use Rattle.mal_tokens.specs.declared.sign.Sign.TheVariants as signs
use Rattle.mal_tokens.specs.declared.token.Token.{Token}
use Rattle.mal_tokens.specs.declared.token.Token.TheVariants as tokens
use Rattle.mal_tokens.specs.Prelude.{sign_text, word_text}

-- a word, a name, a number or a dotted word
abbrev pub is_wordy : Token → Bool
is_wordy (tokens.Sign signs.Label) = true
is_wordy (tokens.Sign signs.Default) = true
is_wordy (tokens.Sign _) = false
is_wordy _ = true

abbrev pub is_open : Token → Bool
is_open (tokens.Sign signs.Open) = true
is_open _ = false

-- a word after this token has a space before it
abbrev pub is_spacing : Token → Bool
is_spacing (tokens.Sign signs.Close) = true
is_spacing (tokens.Sign signs.Semicolon) = true
is_spacing t = is_wordy t

-- a space stands before `(`, and before a word after another, after `)` or after `;`
abbrev pub is_spaced : Bool → Token → Bool
is_spaced spacing t = is_open t || (is_wordy t && spacing)

-- the number, where three hexadecimal digits hold it
abbrev pub address_of : ℤ → Option ℕ
address_of (pos n) = if nat_lt n 4096 then Some n else None
address_of (negsuc n) = None

-- `0xAAA` after a space, and else decimal digits
abbrev pub number_text : Bool → Option ℕ → ℤ → List ℕ
number_text true (Some address) v = codes "0x" ++ hex_text 3 address
number_text _ _ v = signed_decimal v

abbrev pub token_text : Bool → Token → List ℕ
token_text spaced (tokens.Word w) = word_text w
token_text spaced (tokens.Sign s) = sign_text s
token_text spaced (tokens.Name n) = n
token_text spaced (tokens.Number v) = number_text spaced (address_of v) v

-- the tokens after one that has a space after it or not
abbrev pub printed_after : Bool → List Token → List ℕ
printed_after spacing [] = []
printed_after spacing (t ∷ ts) = (if is_spaced spacing t then codes " " else []) ++ (token_text (is_spaced spacing t) t ++ printed_after (is_spacing t) ts)

abbrev pub printed : List Token → List ℕ
printed = printed_after false

-- ---- the most bytes that tokens take, each with a space before it

abbrev pub number_width : Option ℕ → ℕ
number_width (Some address) = 6
number_width None = 21

-- a name has at most 64
abbrev pub token_width : Token → ℕ
token_width (tokens.Word w) = 1 + length (word_text w)
token_width (tokens.Sign s) = 1 + length (sign_text s)
token_width (tokens.Name n) = 65
token_width (tokens.Number v) = number_width (address_of v)

abbrev pub width : List Token → ℕ
width [] = 0
width (t ∷ ts) = token_width t + width ts
