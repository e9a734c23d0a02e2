-- Which tokens a line of an IJVM source spells.
use Rattle.std.specs.Prelude.{ℕ, ℤ, ◌==◌, ◌||◌, Bool, true, List, Option, Some, None, Result, Ok, Err, option_map}
use Rattle.mic_base.specs.Prelude.{is_name_byte, number_of}
use Rattle.mic_base.specs.declared.number.NumberError.{NumberError}
use Rattle.source_text.specs.Reading as reading
use Rattle.source_text.specs.Prelude.{Table}
use Rattle.source_text.specs.Tokens as source
use Rattle.ijvm_tokens.specs.declared.token.Token.{Token}
use Rattle.ijvm_tokens.specs.declared.token.Token.TheVariants as tokens
use Rattle.ijvm_tokens.specs.Signs.{find_sign}

-- a letter, a digit, `_` or `-`: what stands after the dot of a dotted word
abbrev pub is_word_byte : ℕ → Bool
is_word_byte b = is_name_byte b || b == 45

-- the value of a number's text, if it reads as one
abbrev pub value_by : Result ℤ NumberError → Option ℤ
value_by (Ok v) = Some v
value_by (Err e) = None

abbrev pub ijvm : Table Token
ijvm = record {
  sign = λ text. option_map (λ s. tokens.Sign s) (find_sign text);
  number = λ text. Some (tokens.Number (value_by (number_of text)));
  name = λ text. tokens.Name text;
  other = None;
  minus = true;
  quotes = true;
  dotted = is_word_byte;
}

-- the token is spelled by these bytes
abbrev pub IsLexeme : Token → List ℕ → Type 0
IsLexeme = source.IsLexeme ijvm

-- the line is the tokens in order, with blanks before, between and after them
abbrev pub SpellsTokens : List ℕ → List Token → Type 0
SpellsTokens = source.Spells ijvm

-- the tokens of a line, if it has some
abbrev pub read : List ℕ → Option (List Token)
read = reading.read ijvm
