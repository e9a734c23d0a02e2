-- Runs that pass a test, such as the bytes of a name.
use Rattle.std.specs.Prelude.{ℕ, Bool, false, List, [], ◌∷◌}
use Rattle.std.specs.List.{prefix_len}
use Rattle.mic_base.specs.Prelude.{is_name_byte}

abbrev pub begins_with : {X : Type 0} → (X → Bool) → List X → Bool
begins_with passes [] = false
begins_with passes (b ∷ rest) = passes b

abbrev pub ends_with : (ℕ → Bool) → List ℕ → Bool
ends_with passes [] = false
ends_with passes (b ∷ []) = passes b
ends_with passes (b ∷ c ∷ rest) = ends_with passes (c ∷ rest)

-- how many letters, digits and `_` stand at the front
abbrev pub name_len : List ℕ → ℕ
name_len = prefix_len is_name_byte

-- how many bytes stand after a single quote: two, if the line has them
abbrev pub quote_len : List ℕ → ℕ
quote_len [] = 0
quote_len (b ∷ []) = 1
quote_len (b ∷ c ∷ rest) = 2
