-- Which tokens a line spells. Every byte that is no blank belongs to one: what begins no token, and a number that cannot
-- be read, are tokens of kinds of their own.
use Rattle.std.specs.Prelude.{ℕ, ℤ, pos, true, false, List, Option, Some, None, Result, Ok, if◌then◌else◌, nat_le, option_map}
use Rattle.mic_base.specs.Prelude.{number_of}
use Rattle.mic_base.specs.declared.number.NumberError.{NumberError}
use Rattle.source_text.specs.Reading as reading
use Rattle.source_text.specs.Prelude.{Table}
use Rattle.source_text.specs.Tokens as source
use Rattle.tiny_lexemes.specs.declared.lexeme.Lexeme.{Lexeme}
use Rattle.tiny_lexemes.specs.declared.lexeme.Lexeme.TheVariants as lexemes
use Rattle.tiny_lexemes.specs.Signs.{find_sign}

-- the value of a number's text, if it reads as one
abbrev pub value_by : Result ℤ NumberError → Option ℕ
value_by (Ok (pos v)) = if nat_le v 0xFFFF_FFFF then Some v else None
value_by _ = None

abbrev pub number_lexeme : Option ℕ → Lexeme
number_lexeme (Some v) = lexemes.Number v
number_lexeme None = lexemes.Unread

abbrev pub tiny : Table Lexeme
tiny = record {
  sign = λ text. option_map (λ s. lexemes.Of s) (find_sign text);
  number = λ text. Some (number_lexeme (value_by (number_of text)));
  name = λ text. lexemes.Name text;
  other = Some lexemes.Bad;
  minus = false;
  quotes = true;
  dotted = λ b. false;
}

-- the token is spelled by these bytes
abbrev pub IsLexeme : Lexeme → List ℕ → Type 0
IsLexeme = source.IsLexeme tiny

-- the line is the tokens in order, with blanks before, between and after them
abbrev pub SpellsLexemes : List ℕ → List Lexeme → Type 0
SpellsLexemes = source.Spells tiny

-- the tokens of a line
abbrev pub read : List ℕ → Option (List Lexeme)
read = reading.read tiny
