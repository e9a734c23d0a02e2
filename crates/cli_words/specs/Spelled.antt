-- What is written in a command line: its pieces, one after the other, and what each gives.
use Rattle.std.specs.Prelude.{◌≡◌, ◌==◌, Bool, true, false, List, [], ◌∷◌, ◌++◌, Some, None}
use Rattle.std.specs.List.{flat_map, list_any}
use Rattle.cli_words.specs.Reading.{Entry, Form, Text, is_in, is_value, look, plain, reads}
use Rattle.cli_words.specs.Given.{IsGiven}

pub data Piece : Type 0 where
  -- a plain word, for this name of the row
  Plain : Text → Text → Piece
  -- an option, and its value in the next word
  Apart : Text → Text → Piece
  -- an option, and its value after `=` in the same word
  Joined : Text → Text → Piece
  Flag : Text → Piece
  -- two dashes: after them each word is plain
  Dashes : Piece

-- the words of a piece, as it is written
abbrev pub written : Piece → List Text
written (Plain name word) = word ∷ []
written (Apart name v) = (45 ∷ 45 ∷ name) ∷ v ∷ []
written (Joined name v) = (45 ∷ 45 ∷ name ++ 61 ∷ v) ∷ []
written (Flag name) = (45 ∷ 45 ∷ name) ∷ []
written Dashes = (45 ∷ 45 ∷ []) ∷ []

-- the entries that a piece gives
abbrev pub entries : Piece → List Entry
entries (Plain name word) = (name, Some word) ∷ []
entries (Apart name v) = (name, Some v) ∷ []
entries (Joined name v) = (name, Some v) ∷ []
entries (Flag name) = (name, None) ∷ []
entries Dashes = []

-- the name of a plain word
abbrev pub plain_names : Piece → List Text
plain_names (Plain name word) = name ∷ []
plain_names _ = []

abbrev pub ArePlain : List Piece → Type 0
ArePlain [] = Unit {0}
ArePlain (Plain name word ∷ ps) = ArePlain ps
ArePlain (_ ∷ ps) = ⊥

abbrev pub has_equals : Text → Bool
has_equals = list_any (λ x. x == 61)

-- a name of one of these, without `=`
abbrev pub IsNameOf : List Text → Text → Type 0
IsNameOf names name = (is_in name names ≡ true) × (has_equals name ≡ false)

-- Options and flags are the row's. Before the dashes a plain word, and a value in a word of its own, begins with no dash or is one dash.
abbrev pub IsLine : Form → List Piece → Type 0
IsLine f [] = Unit {0}
IsLine f (Plain name word ∷ ps) = (look word ≡ plain) × IsLine f ps
IsLine f (Apart name v ∷ ps) = IsNameOf f.options name × (is_value (look v) ≡ true) × IsLine f ps
IsLine f (Joined name v ∷ ps) = IsNameOf f.options name × IsLine f ps
IsLine f (Flag name ∷ ps) = IsNameOf f.flags name × IsLine f ps
IsLine f (Dashes ∷ ps) = ArePlain ps

-- these words are such pieces, and give this; their plain words have the first of these names, in order
pub record IsSpelledBy (AreIts : List Piece → Type 0) (names : List Text) (words : List Text) (given : List Entry) : Type 0 where
  pub pieces : List Piece
  pub are : AreIts pieces
  pub words_are : words ≡ flat_map written pieces
  pub given_is : given ≡ flat_map entries pieces
  pub left : List Text
  pub in_order : names ≡ flat_map plain_names pieces ++ left

abbrev pub IsSpelled : Form → List Text → List Entry → Type 0
IsSpelled f = IsSpelledBy (IsLine f) f.plain

-- words that give this have it written in them
abbrev pub IsWritten : Form → List Text → List Entry → Type 0
IsWritten f words given = reads f words ≡ Some given → IsSpelled f words given

-- words in which this is written, each name once and none missing, give it
abbrev pub IsTaken : Form → List Text → List Entry → Type 0
IsTaken f words given = IsSpelled f words given → IsGiven f given → reads f words ≡ Some given
