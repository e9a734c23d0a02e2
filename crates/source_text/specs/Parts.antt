-- The parts of a text between its newlines: the first one is a line, and the others are the lines of the rest.
use Rattle.std.proofs.Common.{◌≡◌, ℕ, Bool, true, false, List, [], ◌∷◌, refl, ap, ◌∙◌, sym, cond}
use Rattle.std.specs.Prelude.{◌==◌}
use Rattle.std.specs.List.{onto_first, slice_split}
use Rattle.std.specs.Str.Lines.{lines, lines_of_parts, strip_carriage_return}

abbrev pub parts : List ℕ → List (List ℕ)
parts = slice_split (λ b. b == 10)

-- a text has at least one part
some_part : (text : List ℕ) → (x : List ℕ) × (xs : List (List ℕ)) × (parts text ≡ x ∷ xs)
some_part [] = ([], [], refl)
some_part (b ∷ rest) = go (b == 10) (some_part rest)
  where
    go : (w : Bool) → (x : List ℕ) × (xs : List (List ℕ)) × (parts rest ≡ x ∷ xs)
        → (x : List ℕ) × (xs : List (List ℕ)) × (cond w ([] ∷ parts rest) (onto_first b (parts rest)) ≡ x ∷ xs)
    go true s = ([], parts rest, refl)
    go false s = (b ∷ s.0, s.1, ap (onto_first b) s.2)

pub before_more : (x : List ℕ) (rest : List ℕ) → lines_of_parts (x ∷ parts rest) ≡ strip_carriage_return x ∷ lines rest
before_more x rest =
    let s = some_part rest in
    ap (λ ps. lines_of_parts (x ∷ ps)) s.2 ∙ ap (λ ps. strip_carriage_return x ∷ lines_of_parts ps) (sym s.2)
