-- How a text is read as a number: decimal digits, or `0x` with hexadecimal digits, each with a `-` in front or none, of a
-- magnitude of at most 4,294,967,295; or one printable byte in single quotes.
use Rattle.std.specs.Prelude.{ℕ, ℤ, pos, neg_ℤ, ◌+◌, ◌-◌, ◌==◌, ◌&&◌, Bool, false, not, List, [], ◌∷◌, length, drop, nat_le, nat_lt, if◌then◌else◌, Option, Some, None, Result, Ok, Err, ◌≡◌, ◌++◌, codes}
use Rattle.std.specs.Char.{is_digit}
use Rattle.std.specs.List.{position}
use Rattle.mic_base.specs.Digits.{value_of, hex_text}
use Rattle.mic_base.specs.declared.number.NumberError.{NumberError}
use Rattle.mic_base.specs.declared.number.NumberError.TheVariants.{Empty, BadDigit, TooLarge}

-- the byte between two single quotes, where it is printable and alone
abbrev pub quoted : List ℕ → Option ℕ
quoted (open_quote ∷ byte ∷ close_quote ∷ []) = if open_quote == 39 && (close_quote == 39 && (nat_le 32 byte && nat_le byte 126)) then Some byte else None
quoted _ = None

abbrev pub begins_minus : List ℕ → Bool
begins_minus [] = false
begins_minus (b ∷ rest) = b == 45

abbrev pub begins_hex : List ℕ → Bool
begins_hex (b ∷ c ∷ rest) = b == 48 && c == 120
begins_hex _ = false

-- the text after a leading `-`, or all of it where there is none
abbrev pub unsigned_of : List ℕ → List ℕ
unsigned_of text = if begins_minus text then drop 1 text else text

-- the text after a leading `0x`, or all of it where there is none
abbrev pub digits_of : List ℕ → List ℕ
digits_of unsigned = if begins_hex unsigned then drop 2 unsigned else unsigned

abbrev pub base_of : List ℕ → ℕ
base_of unsigned = if begins_hex unsigned then 16 else 10

abbrev pub signed : Bool → ℕ → ℤ
signed is_negative magnitude = if is_negative then neg_ℤ (pos magnitude) else pos magnitude

abbrev pub sized : Bool → ℕ → Result ℤ NumberError
sized is_negative magnitude = if nat_lt 0xFFFF_FFFF magnitude then Err TooLarge else Ok (signed is_negative magnitude)

-- the number with these digits, unless one of them, the first at this place, is no digit
abbrev pub checked : Bool → ℕ → ℕ → List ℕ → Option ℕ → Result ℤ NumberError
checked is_negative base place digits (Some at) = Err (BadDigit (place + at))
checked is_negative base place digits None = sized is_negative (value_of base digits)

-- the number with these digits, the first of which stands at this place of the text
abbrev pub digits_read : Bool → ℕ → ℕ → List ℕ → Result ℤ NumberError
digits_read is_negative base place digits = if length digits == 0 then Err Empty
    else checked is_negative base place digits (position (λ b. not (is_digit b base)) digits)

abbrev pub unquoted : List ℕ → Result ℤ NumberError
unquoted text =
    let unsigned = unsigned_of text in
    let digits = digits_of unsigned in
    digits_read (begins_minus text) (base_of unsigned) (length text - length digits) digits

abbrev pub quoted_or : Option ℕ → List ℕ → Result ℤ NumberError
quoted_or (Some byte) text = Ok (pos byte)
quoted_or None text = unquoted text

unfoldable pub number_of : List ℕ → Result ℤ NumberError
number_of text = quoted_or (quoted text) text

-- after `0x`, the value in this many hexadecimal digits is read as that value
abbrev pub IsReadBack : ℕ → ℕ → Type 0
IsReadBack digits value = number_of (codes "0x" ++ hex_text digits value) ≡ Ok (pos value)
