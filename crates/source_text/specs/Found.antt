-- What the place of a name in a list says.
use Rattle.std.proofs.Common.{◌≡◌, ℕ, suc, ◌+◌, ◌<◌, ◌||◌, Bool, true, false, List, [], ◌∷◌, Option, Some, None, length, refl, cond, arith, is_some, find}
use Rattle.std.proofs.Common.{option_and_then, option_map, slice_get}
use Rattle.source_text.specs.Places.{is_called, is_taken, place_of}

module _ {A : Type 0} (name_of : A → Option (List ℕ)) where
  pub place_below : (items : List A) (name : List ℕ) (i : ℕ) → place_of name_of items name ≡ Some i → i < length items
  place_below [] name i h = absurd (cc)
  place_below (x ∷ items) name i h = go (is_called name (name_of x)) (place_of name_of items name) (place_below items name) h
    where
      go : (b : Bool) (o : Option ℕ) → ((j : ℕ) → o ≡ Some j → j < length items)
          → cond b (Some 0) (option_map (λ j. j + 1) o) ≡ Some i → i < length (x ∷ items)
      go true o f h = let e : 0 ≡ i = cc in omega (arith, e)
      go false None f h = absurd (cc)
      go false (Some j) f h = let e : j + 1 ≡ i = cc in let l = f j refl in omega (arith, e, l)

  -- a name has a place where an item is called so
  pub some_place : (items : List A) (name : List ℕ) → is_some (place_of name_of items name) ≡ is_taken name_of items name
  some_place [] name = refl
  some_place (x ∷ items) name = go (is_called name (name_of x)) (place_of name_of items name) (some_place items name)
    where
      go : (b : Bool) (o : Option ℕ) → is_some o ≡ is_taken name_of items name
          → is_some (cond b (Some 0) (option_map (λ i. i + 1) o)) ≡ (b || is_taken name_of items name)
      go true o rec = refl
      go false None rec = rec
      go false (Some i) rec = rec

  -- at its place stands the first item that is called so
  pub item_found : (items : List A) (name : List ℕ)
      → option_and_then (slice_get items) (place_of name_of items name) ≡ find (λ item. is_called name (name_of item)) items
  item_found [] name = refl
  item_found (x ∷ items) name = go (is_called name (name_of x)) (place_of name_of items name) (item_found items name)
    where
      go : (b : Bool) (o : Option ℕ) → option_and_then (slice_get items) o ≡ find (λ item. is_called name (name_of item)) items
          → option_and_then (slice_get (x ∷ items)) (cond b (Some 0) (option_map (λ i. i + 1) o)) ≡ cond b (Some x) (find (λ item. is_called name (name_of item)) items)
      go true o rec = refl
      go false None rec = rec
      go false (Some i) rec = let e : i + 1 ≡ suc i = omega arith in rw e rec
