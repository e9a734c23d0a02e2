-- The files in memory by their names: the list of them has what the map has.
use Rattle.mic_base.proofs.Common.{◌≡◌, ℕ, List, [], ◌∷◌, Some, refl, true, false, cond, Vec, map, option_map, string_bytes, String, get_by_text, lookup}
use Rattle.mic_base.proofs.Common.{nat_cmp, is_eq, slice_cmp, find, Global, file_in, files_contents, MemFiles}

by_entries : (name : List ℕ) (es : List (String Global × Vec ℕ Global)) →
    find (slice_cmp nat_cmp) name (map (λ e. (string_bytes e.0, e.1.items)) es)
    ≡ option_map (λ bytes. bytes.items) (lookup (λ k. is_eq (slice_cmp nat_cmp name (string_bytes k))) es)
by_entries name [] = refl
by_entries name (e ∷ es) =
    elim (is_eq (slice_cmp nat_cmp name (string_bytes e.0))) as (λ b. cond b (Some e.1.items) (find (slice_cmp nat_cmp) name (map (λ e. (string_bytes e.0, e.1.items)) es))
    ≡ option_map (λ bytes. bytes.items) (cond b (Some e.1) (lookup (λ k. is_eq (slice_cmp nat_cmp name (string_bytes k))) es))) [
      | true ↦ refl
      | false ↦ by_entries name es
    ]

pub file_is : (s : MemFiles) (name : List ℕ) → file_in (files_contents s) name ≡ option_map (λ bytes. bytes.items) (get_by_text s.files name)
file_is s name = by_entries name s.files.entries
