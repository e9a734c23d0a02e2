-- Computes which tokens a line spells, from front to back.
use Rattle.std.specs.Prelude.{ℕ, zero, suc, ◌-◌, List, [], ◌∷◌, take, Option, Some, if◌then◌else◌, option_and_then, option_map}
use Rattle.source_text.specs.Table.{Table, extent, token_of}
use Rattle.source_text.specs.Tokens.{is_blank}

-- the tokens after this many bytes, if there are some
unfoldable pub lex : {T : Type 0} → Table T → ℕ → List ℕ → Option (List T)
lex L n [] = Some []
lex L (suc n) (b ∷ rest) = lex L n rest
lex L zero (b ∷ rest) = if is_blank b then lex L 0 rest
    else option_and_then (λ t. option_map (λ ts. t ∷ ts) (lex L (extent L (b ∷ rest) - 1) rest)) (token_of L (take (extent L (b ∷ rest)) (b ∷ rest)))

-- the tokens of a line, if it has some
unfoldable pub read : {T : Type 0} → Table T → List ℕ → Option (List T)
read L line = lex L 0 line
