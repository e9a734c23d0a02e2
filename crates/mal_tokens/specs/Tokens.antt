-- Which tokens a line of the microassembly language spells.
use Rattle.std.specs.Prelude.{ℕ, ℤ, false, List, Option, Some, None, Result, Ok, Err, option_map}
use Rattle.mic_base.specs.Prelude.{is_name_byte, number_of}
use Rattle.mic_base.specs.declared.number.NumberError.{NumberError}
use Rattle.source_text.specs.Reading as reading
use Rattle.source_text.specs.Prelude.{Table}
use Rattle.source_text.specs.Tokens as source
use Rattle.mal_tokens.specs.declared.word.Word.{Word}
use Rattle.mal_tokens.specs.declared.sign.Sign.{Sign}
use Rattle.mal_tokens.specs.declared.token.Token.{Token}
use Rattle.mal_tokens.specs.declared.token.Token.TheVariants as tokens
use Rattle.mal_tokens.specs.Words.{find_sign, find_word}

abbrev pub word_or_sign : Option Word → Option Sign → Option Token
word_or_sign (Some w) s = Some (tokens.Word w)
word_or_sign None s = option_map (λ s. tokens.Sign s) s

abbrev pub number_token : Result ℤ NumberError → Option Token
number_token (Ok v) = Some (tokens.Number v)
number_token (Err e) = None

abbrev pub mal : Table Token
mal = record {
  sign = λ text. word_or_sign (find_word text) (find_sign text);
  number = λ text. number_token (number_of text);
  name = λ text. tokens.Name text;
  other = None;
  minus = false;
  quotes = false;
  dotted = is_name_byte;
}

-- the token is spelled by these bytes
abbrev pub IsLexeme : Token → List ℕ → Type 0
IsLexeme = source.IsLexeme mal

-- the line is the tokens in order, with blanks before, between and after them
abbrev pub SpellsTokens : List ℕ → List Token → Type 0
SpellsTokens = source.Spells mal

-- the tokens of a line, if it has some
abbrev pub read : List ℕ → Option (List Token)
read = reading.read mal
