-- The row that a word names is that of the command that it names.
use Rattle.std.proofs.Common.{◌≡◌, refl, sym, ap, Bool, true, false, List, [], ◌∷◌, map, Option, find, bytes_eq}
use Rattle.cli_words.specs.declared.table.Row.{Row}
use Rattle.cli_words.specs.Prelude.{Text, AreTableRows, IsRowOf, named_in, row_for}

abbrev first : Text → List Row → Option Row
first word rows = find (λ row. bytes_eq row.name.now word) rows

abbrev IsRowNamed : Text → List Row → Option Row → Type 0
IsRowNamed word rows = IsRowOf (named_in word (map (λ row. row.command) rows))

names : (word : Text) (rows : List Row) → AreTableRows rows → IsRowNamed word rows (first word rows)
names word [] h = refl
names word (row ∷ rows) h = go (bytes_eq row.name.now word) refl (ap (λ (name : Text). bytes_eq name word) h.0.0) (names word rows h.1)
  where
    go : (b : Bool) → bytes_eq row.name.now word ≡ b → bytes_eq row.name.now word ≡ bytes_eq (row_for row.command).name word → IsRowNamed word rows (first word rows)
        → IsRowNamed word (row ∷ rows) (first word (row ∷ rows))
    go true e same rec = rw (sym same, e) (refl, h.0)
    go false e same rec = rw (sym same, e) rec

pub first_is_row : (word : Text) (rows : List Row) (named : Option Row) → named ≡ first word rows → AreTableRows rows → IsRowNamed word rows named
first_is_row word rows named is h = rw is (names word rows h)
