-- The value of digits, and the hexadecimal digits of a value.
use Rattle.std.specs.Prelude.{ℕ, zero, suc, ◌+◌, ◌*◌, ◌/◌, ◌%◌, ◌^◌, List, [], ◌∷◌, ◌++◌, length}
use Rattle.std.specs.Char.{digit_value, digit_char}

-- each digit times the base to the number of digits after it
abbrev pub value_of : ℕ → List ℕ → ℕ
value_of base [] = 0
value_of base (digit ∷ rest) = digit_value digit * base ^ length rest + value_of base rest

-- the last n hexadecimal digits of a value, letters in lower case
unfoldable pub hex_text : ℕ → ℕ → List ℕ
hex_text zero value = []
hex_text (suc n) value = hex_text n (value / 16) ++ digit_char (value % 16) ∷ []
