-- The row that a word names is that of the command with that word.
use Rattle.std.proofs.Common.{◌≡◌, refl, ℕ, Bool, true, false, List, [], ◌∷◌, map, Option, find, bytes_eq}
use Rattle.std.specs.Option.{option_map}
use Rattle.cli_session.specs.Prelude.{form_of, row_in}
use Rattle.cli_session.specs.declared.table.CommandRow.{CommandRow}

found : {V : Type 0} (word : List ℕ) (rows : List (CommandRow V)) →
    option_map form_of (find (λ (row : CommandRow V). bytes_eq row.word.now word) rows) ≡ row_in word (map form_of rows)
found word [] = refl
found {V} word (row ∷ rows) = go (bytes_eq row.word.now word) refl (found word rows)
  where
    go : (b : Bool) → bytes_eq row.word.now word ≡ b →
        option_map form_of (find (λ (r : CommandRow V). bytes_eq r.word.now word) rows) ≡ row_in word (map form_of rows) →
        option_map form_of (find (λ (r : CommandRow V). bytes_eq r.word.now word) (row ∷ rows)) ≡ row_in word (map form_of (row ∷ rows))
    go true e rec = rw e refl
    go false e rec = rw e rec

pub first_is_row : {V : Type 0} (word : List ℕ) (rows : List (CommandRow V)) (row : Option (CommandRow V)) →
    row ≡ find (λ (r : CommandRow V). bytes_eq r.word.now word) rows → option_map form_of row ≡ row_in word (map form_of rows)
first_is_row word rows row is = rw is (found word rows)
