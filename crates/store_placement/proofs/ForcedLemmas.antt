-- What each statement is forced to, read from the list.
use Rattle.store_placement.proofs.Common.{◌≡◌, ℕ, ◌<◌, List, Option, length, get_or, arith, get_or-map-range_with_len, Pair, below, forced, all_forced}
use Rattle.store_placement.proofs.Below.{length-map_below}

pub length-all_forced : (fixed : List (Option ℕ)) (pairs : List Pair) → length (all_forced fixed pairs) ≡ length fixed
unfolding all_forced
length-all_forced fixed pairs = length-map_below (forced fixed pairs) (length fixed)

pub at_all_forced : (fixed : List (Option ℕ)) (pairs : List Pair) (s : ℕ) (d : Option ℕ) → s < length fixed → get_or (all_forced fixed pairs) s d ≡ forced fixed pairs s
unfolding all_forced below
at_all_forced fixed pairs s d h = get_or-map-range_with_len (forced fixed pairs) 0 (length fixed) s s d h (omega arith)

pub ruleset all_forceds = (length-all_forced, at_all_forced)
