-- The places of items in a list, by their names.
use Rattle.std.specs.Prelude.{◌≡◌, ℕ, ◌+◌, ◌<◌, ◌≤◌, Bool, false, List, [], ◌∷◌, Option, Some, None, option_and_then, option_map, if◌then◌else◌}
use Rattle.std.specs.List.{list_any}
use Rattle.std.specs.Str.{bytes_eq}
use Rattle.std.specs.Ordering.{nat_cmp}
use Rattle.std.specs.Cmp.Lexicographic.{slice_cmp}
use Rattle.std.specs.BTreeMap.{BTreeMap, get}
use Rattle.source_text.specs.declared.names.NotAdded.{NotAdded}
use Rattle.source_text.specs.declared.names.NotAdded.TheVariants.{Again, Full, OutOfMemory}

-- an item with this name, if it has one, is called so
abbrev pub is_called : List ℕ → Option (List ℕ) → Bool
is_called name (Some own) = bytes_eq own name
is_called name None = false

-- an item is called so
abbrev pub is_taken : {A : Type 0} → (A → Option (List ℕ)) → List A → List ℕ → Bool
is_taken name_of items name = list_any (λ item. is_called name (name_of item)) items

-- where the first item that is called so stands in the list, from 0
abbrev pub place_of : {A : Type 0} → (A → Option (List ℕ)) → List A → List ℕ → Option ℕ
place_of name_of [] name = None
place_of name_of (item ∷ items) name = if is_called name (name_of item) then Some 0 else option_map (λ i. i + 1) (place_of name_of items name)

-- the same in a list of names
abbrev pub place_of_name : List (List ℕ) → List ℕ → Option ℕ
place_of_name names name = place_of (λ own. Some own) names name

-- where the first item of the same name stands
abbrev pub place_again : {A : Type 0} → (A → Option (List ℕ)) → List A → A → Option ℕ
place_again name_of items item = option_and_then (place_of name_of items) (name_of item)

-- the map has the place of each name
abbrev pub ArePlaces : {A : Type 0} → (A → Option (List ℕ)) → List A → BTreeMap (List ℕ) ℕ → Type 0
ArePlaces name_of items map = (name : List ℕ) → get (slice_cmp nat_cmp) map name ≡ place_of name_of items name

-- why an item, whose name has this place, is not added to so many items, of which there may be so many
abbrev pub IsNotAdded : Option ℕ → ℕ → ℕ → NotAdded → Type 0
IsNotAdded again count most (Again place) = again ≡ Some place
IsNotAdded again count most Full = (again ≡ None) × (most ≤ count)
IsNotAdded again count most OutOfMemory = (again ≡ None) × (count < most)
