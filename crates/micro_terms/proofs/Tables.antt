-- A table with one node more.
use Rattle.micro_terms.proofs.Common.{◌≡◌, ℕ, ◌<◌, List, [], ◌∷◌, ◌++◌, Some, length, ap, ◌∙◌, arith, slice_get, slice_get_within, slice_get-get_or}
use Rattle.micro_terms.proofs.Common.{get_or_from_slice_get, length_push, get_or_push, get_or_append_left, Node}

pub still_there : (xs : List Node) (x : Node) (i : ℕ) (a : Node) → slice_get xs i ≡ Some a → slice_get (xs ++ x ∷ []) i ≡ Some a
still_there xs x i a h =
    let within : i < length xs = slice_get_within xs i a h in
    let l = length_push xs x in
    slice_get-get_or (xs ++ x ∷ []) i a (omega (arith, l, within))
    ∙ ap Some (get_or_append_left xs (x ∷ []) a i within ∙ get_or_from_slice_get xs i a a h)

pub newest : (xs : List Node) (x : Node) (i : ℕ) → i ≡ length xs → slice_get (xs ++ x ∷ []) i ≡ Some x
newest xs x i e =
    let l = length_push xs x in
    slice_get-get_or (xs ++ x ∷ []) i x (omega (arith, l, e)) ∙ ap Some (get_or_push xs x x i (omega (arith, e)))
