-- The lines of rows, one after another.
use Rattle.cli_watchers.proofs.Common.{◌≡◌, ℕ, ◌+◌, ◌<◌, ◌≤◌, List, ◌∷◌, ◌++◌, length, get_or, drop, ap, sym, ◌∙◌, append_assoc, add-one, drop-cons, append-nil}
use Rattle.cli_watchers.proofs.Common.{drop_all, RowCount, row_line, rows_text}

-- the lines from this row on
rows_rest : (row : ℕ) (ts : List RowCount) (d : RowCount) → row < length ts →
    rows_text row (drop row ts) ≡ row_line row (get_or ts row d) ++ rows_text (row + 1) (drop (row + 1) ts)
rows_rest row ts d h =
    let e : drop row ts ≡ get_or ts row d ∷ drop (row + 1) ts = rw add-one (drop-cons ts row d h) in
    ap (rows_text row) e

-- a row's line is put after the lines before it
pub rows_step : (row : ℕ) (ts : List RowCount) (d : RowCount) (done whole line : List ℕ) → row < length ts → line ≡ row_line row (get_or ts row d) →
    done ++ rows_text row (drop row ts) ≡ whole → (done ++ line) ++ rows_text (row + 1) (drop (row + 1) ts) ≡ whole
rows_step row ts d done whole line h is so =
    append_assoc done line (rows_text (row + 1) (drop (row + 1) ts))
    ∙ ap (λ (l : List ℕ). done ++ (l ++ rows_text (row + 1) (drop (row + 1) ts))) is
    ∙ ap (λ (l : List ℕ). done ++ l) (sym (rows_rest row ts d h)) ∙ so

-- after the last row nothing is left
pub rows_end : (row : ℕ) (ts : List RowCount) (done whole : List ℕ) → length ts ≤ row → done ++ rows_text row (drop row ts) ≡ whole → done ≡ whole
rows_end row ts done whole past so =
    sym (append-nil done) ∙ ap (λ (l : List ℕ). done ++ l) (sym (ap (rows_text row) (drop_all row ts past))) ∙ so
