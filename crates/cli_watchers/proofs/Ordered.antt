-- The table of instructions has the names of the rows, in their order.
use Rattle.cli_watchers.proofs.Common.{◌≡◌, ℕ, List, refl, ap, sym, ◌∙◌, map, option_map, slice_get, slice_get-map, INSTRUCTIONS, mnemonic_of, row_names}

in_order : map mnemonic_of INSTRUCTIONS ≡ row_names
in_order = refl

pub name_at : (row : ℕ) → option_map mnemonic_of (slice_get INSTRUCTIONS row) ≡ slice_get row_names row
name_at row = sym (slice_get-map mnemonic_of INSTRUCTIONS row) ∙ ap (λ (names : List (List ℕ)). slice_get names row) in_order
