-- The lines of the rows, one after another.
use Rattle.cli_check.proofs.Common.{◌≡◌, ℕ, ◌+◌, ◌<◌, ◌≤◌, List, ◌∷◌, ◌++◌, length, get_or, drop, ap, sym, ◌∙◌, append_assoc, add-one, drop-cons, append-nil}
use Rattle.cli_check.proofs.Common.{drop_all, Instr, Costs, instr_line, rows_text}

-- the lines from this row on
rows_rest : (costs : Costs) (row : ℕ) (is : List Instr) (d : Instr) → row < length is →
    rows_text costs (drop row is) ≡ instr_line costs (get_or is row d) ++ rows_text costs (drop (row + 1) is)
rows_rest costs row is d h =
    let e : drop row is ≡ get_or is row d ∷ drop (row + 1) is = rw add-one (drop-cons is row d h) in
    ap (rows_text costs) e

-- a row's line is added after the lines before it
pub rows_step : (costs : Costs) (row : ℕ) (is : List Instr) (d : Instr) (done whole line : List ℕ) →
    row < length is → line ≡ instr_line costs (get_or is row d) → done ++ rows_text costs (drop row is) ≡ whole →
    (done ++ line) ++ rows_text costs (drop (row + 1) is) ≡ whole
rows_step costs row is d done whole line h same so =
    append_assoc done line (rows_text costs (drop (row + 1) is))
    ∙ ap (λ (l : List ℕ). done ++ (l ++ rows_text costs (drop (row + 1) is))) same
    ∙ ap (λ (l : List ℕ). done ++ l) (sym (rows_rest costs row is d h)) ∙ so

-- after the last row nothing is left
pub rows_end : (costs : Costs) (row : ℕ) (is : List Instr) (done whole : List ℕ) → length is ≤ row →
    done ++ rows_text costs (drop row is) ≡ whole → done ≡ whole
rows_end costs row is done whole past so =
    sym (append-nil done) ∙ ap (λ (l : List ℕ). done ++ l) (sym (ap (rows_text costs) (drop_all row is past))) ∙ so
