-- The rows of addresses, one after another.
use Rattle.cli_watchers.proofs.Common.{◌≡◌, ℕ, ◌+◌, ◌<◌, ◌⊎◌, inl, inr, List, [], ◌∷◌, ◌++◌, length, get_or, refl, ap, sym, ◌∙◌, subst, arith, length-append}
use Rattle.cli_watchers.proofs.Common.{Some, slice_get, slice_get_within, get_or_from_slice_get, slice_get-get_or, get_or-append, get_or-append_seam, cases_lt}
use Rattle.cli_watchers.proofs.Common.{ImageView, AreRowsUpTo, IsRowAt}

-- a member of a list with one more is of the list, or is the one more
last_or_before : (xs : List ℕ) (x k y : ℕ) → slice_get (xs ++ x ∷ []) k ≡ Some y → (slice_get xs k ≡ Some y) ⊎ ((k ≡ length xs) × (x ≡ y))
last_or_before xs x k y h =
    let within : k < length (xs ++ x ∷ []) = slice_get_within (xs ++ x ∷ []) k y h in
    let read : get_or (xs ++ x ∷ []) k y ≡ y = get_or_from_slice_get (xs ++ x ∷ []) k y y h in
    let long : length (xs ++ x ∷ []) ≡ length xs + 1 = length-append xs (x ∷ []) in
    elim (cases_lt k (length xs)) [
      | inl before ↦ inl (slice_get-get_or xs k y before ∙ ap Some (sym (get_or-append xs (x ∷ []) y k before) ∙ read))
      | inr past ↦ let here : k ≡ length xs = omega arith in inr (here, sym (get_or-append_seam xs x [] y) ∙ subst (λ (n : ℕ). get_or (xs ++ x ∷ []) n y ≡ y) here read)
    ]

-- none
pub no_rows : (image : ImageView) → AreRowsUpTo image 0 []
no_rows image = record { long = refl; each = λ at row h. absurd (cc) }

-- one more address
pub more_rows : (image : ImageView) (count : ℕ) (rows : List ℕ) (row : ℕ) → AreRowsUpTo image count rows → IsRowAt image count row →
    AreRowsUpTo image (count + 1) (rows ++ row ∷ [])
more_rows image count rows row are is = record {
  long = length-append rows (row ∷ []) ∙ ap (λ (n : ℕ). n + 1) are.long;
  each = λ at other h. one at other (last_or_before rows row at other h);
}
  where
    one : (at other : ℕ) → (slice_get rows at ≡ Some other) ⊎ ((at ≡ length rows) × (row ≡ other)) → IsRowAt image at other
    one at other (inl before) = are.each at other before
    one at other (inr here) =
        let same : count ≡ at = sym (here.0 ∙ are.long) in
        subst (λ (a : ℕ). IsRowAt image a other) same (subst (λ (r : ℕ). IsRowAt image count r) here.1 is)
