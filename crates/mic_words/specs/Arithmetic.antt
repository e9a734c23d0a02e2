-- The arithmetic of 32-bit words.
use Rattle.std.specs.Prelude.{ℕ, ◌+◌, ◌-◌, ◌*◌, ◌/◌, ◌%◌, Bool, if◌then◌else◌, nat_lt, nat_le}

-- modulo 2^32
unfoldable pub wrap : ℕ → ℕ
wrap x = x % 4294967296

abbrev pub plus : ℕ → ℕ → ℕ
plus x y = wrap (x + y)

-- x - y
abbrev pub minus : ℕ → ℕ → ℕ
minus x y = wrap (x + (4294967296 - y))

abbrev pub next : ℕ → ℕ
next x = wrap (x + 1)

abbrev pub before : ℕ → ℕ
before x = wrap (x + 4294967295)

abbrev pub negation : ℕ → ℕ
negation x = minus 0 x

-- every bit turned
abbrev pub complement : ℕ → ℕ
complement x = 4294967295 - x

-- whether a word is negative as a signed number
abbrev pub is_negative : ℕ → Bool
is_negative x = nat_le 2147483648 x

-- half of a signed word, downwards: the arithmetic shift by one place
unfoldable pub half : ℕ → ℕ
half x = if nat_lt x 2147483648 then x / 2 else x / 2 + 2147483648

-- a signed byte as a word
unfoldable pub signed_byte : ℕ → ℕ
signed_byte x = if nat_lt x 128 then x else x + 4294967040

-- a signed number of two bytes, the high one first, as a word
unfoldable pub signed_pair : ℕ → ℕ → ℕ
signed_pair high low = if nat_lt high 128 then 256 * high + low else 256 * high + low + 4294901760
