-- What every list of words that is taken gives: each name once, with a value that is not empty, and no plain word is missing.
use Rattle.std.specs.Prelude.{◌≡◌, true, false, List, [], ◌∷◌, ◌++◌}
use Rattle.cli_words.specs.Reading.{Entry, Form, has, is_complete, is_filled}

-- the name of an entry is none of those before it, and its value, where it has one, is not empty
abbrev pub IsNew : List Entry → Entry → Type 0
IsNew before e = (has e.0 before ≡ false) × (is_filled e.1 ≡ true)

-- each of these is new after those before it
abbrev pub AreNewAfter : List Entry → List Entry → Type 0
AreNewAfter before [] = Unit {0}
AreNewAfter before (e ∷ es) = IsNew before e × AreNewAfter (before ++ e ∷ []) es

pub record IsGiven (f : Form) (given : List Entry) : Type 0 where
  pub once : AreNewAfter [] given
  pub complete : is_complete f given ≡ true
