-- One more item in a list of items that are found by their names.
use Rattle.source_text.proofs.Common.{◌≡◌, ℕ, ◌+◌, ◌<◌, Bool, true, false, List, [], ◌∷◌, ◌++◌, Option, Some, None, length, refl, sym, ap, subst, ◌∙◌, cond, arith}
use Rattle.source_text.proofs.Common.{option_map, nat_cmp, slice_cmp, texts_ties, is_at, length_push, is_called, place_of}
use Rattle.std.proofs.lemmas.Slice.Eq.{bytes_eq-Decides}
use Rattle.std.specs.Option.{option_or}

last_place : (b : Bool) (o : Option ℕ) (n : ℕ) → (b ≡ true → o ≡ None) → cond b (Some n) o ≡ option_or o (cond b (Some n) None)
last_place true None n h = refl
last_place true (Some k) n h = absurd (let e = h refl in cc)
last_place false None n h = refl
last_place false (Some k) n h = refl

module _ {A : Type 0} (name_of : A → Option (List ℕ)) (items : List A) (item : A) where
  -- the place of a name in a list with one more
  place_push : (xs : List A) (q : List ℕ) → place_of name_of (xs ++ item ∷ []) q ≡ option_or (place_of name_of xs q) (cond (is_called q (name_of item)) (Some (length xs)) None)
  place_push [] q = refl
  place_push (x ∷ xs) q = ap (λ o. cond (is_called q (name_of x)) (Some 0) (option_map (λ i. i + 1) o)) (place_push xs q) ∙ go (is_called q (name_of x)) (place_of name_of xs q) (is_called q (name_of item))
    where
      go : (b : Bool) (o : Option ℕ) (c : Bool) → cond b (Some 0) (option_map (λ i. i + 1) (option_or o (cond c (Some (length xs)) None)))
          ≡ option_or (cond b (Some 0) (option_map (λ i. i + 1) o)) (cond c (Some (length (x ∷ xs))) None)
      go true o c = refl
      go false (Some i) c = refl
      go false None true = ap Some (omega arith)
      go false None false = refl

  -- what a map has at a name, once the item's name, where it has one, has the last place
  placed : (xs : List A) (q : List ℕ) (new : Option ℕ) → xs ≡ items ++ item ∷ [] → (is_called q (name_of item) ≡ true → place_of name_of items q ≡ None)
      → new ≡ cond (is_called q (name_of item)) (Some (length items)) (place_of name_of items q) → new ≡ place_of name_of xs q
  placed xs q new e free h =
      h ∙ (last_place (is_called q (name_of item)) (place_of name_of items q) (length items) free ∙ (sym (place_push items q) ∙ ap (λ ys. place_of name_of ys q) (sym e)))

  pub unnamed : (xs : List A) (q : List ℕ) (old : Option ℕ) → xs ≡ items ++ item ∷ [] → name_of item ≡ None → old ≡ place_of name_of items q → old ≡ place_of name_of xs q
  unnamed xs q old e own h =
      placed xs q old e (λ c. absurd (let n : is_called q (name_of item) ≡ false = ap (is_called q) own in cc))
      (h ∙ sym (ap (λ o. cond (is_called q o) (Some (length items)) (place_of name_of items q)) own))

  pub named : (xs : List A) (q name : List ℕ) (place : ℕ) (old new : Option ℕ) → xs ≡ items ++ item ∷ [] → name_of item ≡ Some name → place ≡ length items
      → old ≡ place_of name_of items q → place_of name_of items name ≡ None → new ≡ cond (is_at (slice_cmp nat_cmp name) q) (Some place) old → new ≡ place_of name_of xs q
  named xs q name place old new e own count h fresh kept =
      let called : is_at (slice_cmp nat_cmp name) q ≡ is_called q (name_of item) = sym (texts_ties name q) ∙ sym (ap (is_called q) own) in
      let free : is_called q (name_of item) ≡ true → place_of name_of items q ≡ None = λ is.
      ap (place_of name_of items) (sym ((bytes_eq-Decides name q).0 (sym (ap (is_called q) own) ∙ is))) ∙ fresh in
      placed xs q new e free (kept ∙ (ap (λ b. cond b (Some place) old) called ∙ (ap (λ n. cond (is_called q (name_of item)) (Some n) old) count ∙ ap (cond (is_called q (name_of item)) (Some (length items))) h)))

  pub few : (xs : List A) (place most : ℕ) → xs ≡ items ++ item ∷ [] → place ≡ length items → place < most → most < 4294967296 → length xs < 4294967296
  few xs place most e count less fits = let l = ap length e ∙ length_push items item in omega (arith, l, count, less, fits)
