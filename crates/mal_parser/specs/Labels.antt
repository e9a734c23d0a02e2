-- Labels of statements and of `.label` lines.
use Rattle.std.specs.Prelude.{◌≡◌, ℕ, ℤ, pos, negsuc, Bool, false, List, [], ◌∷◌, Option, Some, None, if◌then◌else◌, nat_lt}
use Rattle.mal_parser.specs.Common.{filter_map, list_any, bytes_eq, is_taken}
use Rattle.mal_parser.specs.declared.source.Draft.{Draft}
use Rattle.mal_parser.specs.declared.source.Fix.{Fix}

abbrev pub own_label : Draft → Option (List ℕ)
own_label d = d.label

abbrev pub fixed_label : Fix → Option (List ℕ)
fixed_label f = Some f.label

-- a statement has this label
abbrev pub has_label : List Draft → List ℕ → Bool
has_label ds label = is_taken own_label ds label

abbrev pub has_name : List Draft → Option (List ℕ) → Bool
has_name ds (Some label) = has_label ds label
has_name ds None = false

-- a `.label` line has this label
abbrev pub has_fix : List Fix → List ℕ → Bool
has_fix fs label = is_taken fixed_label fs label

abbrev pub fix_labels : List Fix → List (List ℕ)
fix_labels = filter_map fixed_label

abbrev pub is_among : List ℕ → List (List ℕ) → Bool
is_among label labels = list_any (λ other. bytes_eq other label) labels

-- no name stands twice
abbrev pub AreDistinct : List (List ℕ) → Type 0
AreDistinct [] = Unit {0}
AreDistinct (label ∷ labels) = (is_among label labels ≡ false) × AreDistinct labels

abbrev pub labels_of : List Draft → List (List ℕ)
labels_of = filter_map own_label

-- the address that a number is, where it is one
abbrev pub address_of : ℤ → Option ℕ
address_of (pos n) = if nat_lt n 512 then Some n else None
address_of (negsuc n) = None
