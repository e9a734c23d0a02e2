-- Lines of the listing, one after another.
use Rattle.std.proofs.Common.{◌≡◌, ℕ, ◌+◌, ◌<◌, ◌≤◌, ◌⊎◌, inl, inr, List, [], ◌∷◌, ◌++◌, length, get_or, drop, refl, ap, sym, ◌∙◌, subst, add-one, arith, length-append, drop-cons, Some, append_assoc}
use Rattle.std.specs.Prelude.{slice_get}
use Rattle.std.proofs.lemmas.Option.{slice_get_within, get_or_from_slice_get, slice_get-get_or}
use Rattle.std.proofs.lemmas.List.{append-nil, drop_all}
use Rattle.std.proofs.lemmas.List.Folds.{concat-append}
use Rattle.std.specs.List.{concat}
use Rattle.std.proofs.Math.ListN.{get_or-append}
use Rattle.std.proofs.Math.Seq.{get_or-append_seam}
use Rattle.ijvm_image.specs.Prelude.{ImageView}
use Rattle.cli_program_texts.specs.Prelude.{AreListingLines, IsLineAt, constant_line, pool_text}

-- the lines of the constants from this one on
pub pool_rest : (index : ℕ) (pool : List ℕ) → index < length pool →
    pool_text index (drop index pool) ≡ constant_line index (get_or pool index 0) ++ pool_text (index + 1) (drop (index + 1) pool)
pool_rest index pool h =
    let e : drop index pool ≡ get_or pool index 0 ∷ drop (index + 1) pool = rw add-one (drop-cons pool index 0 h) in
    ap (pool_text index) e

-- a constant's line is put after the lines before it
pub pool_step : (index : ℕ) (pool listed whole line : List ℕ) → index < length pool → line ≡ constant_line index (get_or pool index 0) →
    listed ++ pool_text index (drop index pool) ≡ whole → (listed ++ line) ++ pool_text (index + 1) (drop (index + 1) pool) ≡ whole
pool_step index pool listed whole line h is so =
    append_assoc listed line (pool_text (index + 1) (drop (index + 1) pool))
    ∙ ap (λ (l : List ℕ). listed ++ (l ++ pool_text (index + 1) (drop (index + 1) pool))) is
    ∙ ap (λ (l : List ℕ). listed ++ l) (sym (pool_rest index pool h)) ∙ so

where_is : (k n : ℕ) → k < n + 1 → (k < n) ⊎ (k ≡ n)
where_is k n h = grind arith

-- after the last constant nothing is left
pub pool_end : (index : ℕ) (pool listed whole : List ℕ) → length pool ≤ index → listed ++ pool_text index (drop index pool) ≡ whole → listed ≡ whole
pool_end index pool listed whole past so =
    sym (append-nil listed) ∙ ap (λ (l : List ℕ). listed ++ l) (sym (ap (pool_text index) (drop_all index pool past))) ∙ so

-- a member of a list with one more is of the list, or is the one more
last_or_before : (xs : List (List ℕ)) (x : List ℕ) (k : ℕ) (y : List ℕ) → slice_get (xs ++ x ∷ []) k ≡ Some y →
    (slice_get xs k ≡ Some y) ⊎ ((k ≡ length xs) × (x ≡ y))
last_or_before xs x k y h =
    let within : k < length (xs ++ x ∷ []) = slice_get_within (xs ++ x ∷ []) k y h in
    let read : get_or (xs ++ x ∷ []) k y ≡ y = get_or_from_slice_get (xs ++ x ∷ []) k y y h in
    let long : length (xs ++ x ∷ []) ≡ length xs + 1 = length-append xs (x ∷ []) in
    elim (where_is k (length xs) (omega arith)) [
      | inl before ↦ inl (slice_get-get_or xs k y before ∙ ap Some (sym (get_or-append xs (x ∷ []) y k before) ∙ read))
      | inr here ↦ inr (here, sym (get_or-append_seam xs x [] y) ∙ subst (λ (n : ℕ). get_or (xs ++ x ∷ []) n y ≡ y) here read)
    ]

-- one more address
pub more_lines : (image : ImageView) (count : ℕ) (lines : List (List ℕ)) (line : List ℕ) → AreListingLines image count lines → IsLineAt image count line →
    AreListingLines image (count + 1) (lines ++ line ∷ [])
more_lines image count lines line are is = record {
  long = length-append lines (line ∷ []) ∙ ap (λ (n : ℕ). n + 1) are.long;
  each = λ at other h. one at other (last_or_before lines line at other h);
}
  where
    one : (at : ℕ) (other : List ℕ) → (slice_get lines at ≡ Some other) ⊎ ((at ≡ length lines) × (line ≡ other)) → IsLineAt image at other
    one at other (inl before) = are.each at other before
    one at other (inr (here, same)) =
        subst (λ (l : List ℕ). IsLineAt image at l) same (subst (λ (n : ℕ). IsLineAt image n line) (sym (here ∙ are.long)) is)

-- a line is put after the lines before it
pub concat_step : (before : List ℕ) (lines : List (List ℕ)) (line : List ℕ) → (before ++ concat lines) ++ line ≡ before ++ concat (lines ++ line ∷ [])
concat_step before lines line =
    append_assoc before (concat lines) line ∙ ap (λ (l : List ℕ). before ++ l) (sym (concat-append lines (line ∷ []) ∙ ap (λ (l : List ℕ). concat lines ++ l) (append-nil line)))

-- no lines yet
pub no_lines : (image : ImageView) → AreListingLines image 0 []
no_lines image = record { long = refl; each = λ at line h. cc }
