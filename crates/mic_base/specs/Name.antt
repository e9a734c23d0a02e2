-- The names of a source: 1 to 64 letters, digits and `_`, the first no digit.
use Rattle.std.specs.Prelude.{ℕ, ◌-◌, ◌==◌, ◌&&◌, ◌||◌, Bool, false, not, List, [], ◌∷◌, ◌++◌, length, replicate, nat_le}
use Rattle.std.specs.Char.{is_ascii_alphanumeric, is_ascii_digit}
use Rattle.std.specs.List.{list_all}

-- a letter, a digit or `_`
abbrev pub is_name_byte : ℕ → Bool
is_name_byte b = is_ascii_alphanumeric b || b == 95

abbrev pub begins_digit : List ℕ → Bool
begins_digit [] = false
begins_digit (b ∷ rest) = is_ascii_digit b

abbrev pub is_name : List ℕ → Bool
is_name text = nat_le 1 (length text) && (nat_le (length text) 64 && (list_all is_name_byte text && not (begins_digit text)))

-- a text with zeros after it, up to 64 bytes
abbrev pub padded : List ℕ → List ℕ
padded text = text ++ replicate (64 - length text) 0
