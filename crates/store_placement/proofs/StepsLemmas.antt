-- The steps of placing give the chosen placement.
use Rattle.store_placement.proofs.Common.{◌≡◌, ◌≢◌, ℕ, ◌+◌, ◌<◌, ◌≤◌, Bool, true, false, cond, List, [], ◌∷◌, ◌++◌, Option, Some, None, length, map, take}
use Rattle.store_placement.proofs.Common.{get_or, eqb, zero, suc, refl, sym, ap, ◌∙◌, inl, inr, arith, is_none, filter_map, count_by, eqb-true, eq-eqb, ne_eqb}
use Rattle.store_placement.proofs.Common.{map-append, take_more, length_push, length-filter_both, is_count_by, Pair, below, same_address, is_taken, is_free}
use Rattle.store_placement.proofs.Common.{free_addresses, pair_address, with_free}
use Rattle.std.specs.List.{filter}
use Rattle.store_placement.proofs.Among.{Among, from_any, among-filter, among_filter_map}
use Rattle.store_placement.proofs.Apart.{Apart, Apart-below, Apart-weaker, Apart-filter, length-le_from_among}
use Rattle.store_placement.proofs.Below.{length-below, below_none, filter-below_kept, filter-below_dropped}
use Rattle.store_placement.proofs.OpenPairs.{AreDisjoint, none_is}

-- the pairs' targets, one at a low address and one 256 above
pub at_low : (pairs : List Pair) (lows : List ℕ) (f : Pair → ℕ) → Apart AreDisjoint pairs → length pairs ≤ length lows → ((p : Pair) → Among p pairs → pair_address pairs lows p.no ≡ Some (f p)) → map f pairs ≡ take (length pairs) lows
at_low [] lows f apart enough is = refl
at_low (p ∷ pairs) [] f apart enough is = absurd (omega arith)
at_low (p ∷ pairs) (a ∷ lows) f apart enough is =
    let here : Some a ≡ Some (f p) = sym (rw (eq-eqb p.no p.no refl) refl) ∙ is p (inl refl) in
    let first : f p ≡ a = cc in
    let rest = at_low pairs lows f apart.1 (omega arith) (λ q among.
    let other = apart.0 q among in
    let not_low : eqb p.no q.no ≡ false = ne_eqb p.no q.no other.no_no in
    let not_high : eqb p.yes q.no ≡ false = ne_eqb p.yes q.no other.yes_no in
    sym (rw (not_low, not_high) refl) ∙ is q (inr among)) in
    ap (λ x. x ∷ map f pairs) first ∙ ap (λ xs. a ∷ xs) rest

pub pair_places : (pairs : List Pair) (lows : List ℕ) → Apart AreDisjoint pairs → ((p : Pair) → Among p pairs → p.yes ≢ p.no) → length pairs ≤ length lows → (p : Pair) → Among p pairs → (a : ℕ) × (pair_address pairs lows p.no ≡ Some a) × (pair_address pairs lows p.yes ≡ Some (a + 256))
pair_places [] lows apart roles enough p among = absurd among
pair_places (q ∷ pairs) [] apart roles enough p among = absurd (omega arith)
pair_places (q ∷ pairs) (a ∷ lows) apart roles enough p (inl here) =
    let not_low : eqb q.no p.yes ≡ false = ne_eqb q.no p.yes (λ e. roles p (inl here) (sym e ∙ ap (λ (r : Pair). r.no) (sym here))) in (
      a,
      rw (eq-eqb q.no p.no (ap (λ (r : Pair). r.no) (sym here))) refl,
      rw (not_low, eq-eqb q.yes p.yes (ap (λ (r : Pair). r.yes) (sym here))) refl,
    )
pair_places (q ∷ pairs) (a ∷ lows) apart roles enough p (inr among) =
    let other = apart.0 p among in
    let r = pair_places pairs lows apart.1 (λ x in_rest. roles x (inr in_rest)) (omega arith) p among in (
      r.0,
      rw (ne_eqb q.no p.no other.no_no, ne_eqb q.yes p.no other.yes_no) r.1,
      rw (ne_eqb q.no p.yes other.no_yes, ne_eqb q.yes p.yes other.yes_yes) r.2,
    )

pub pair_misses : (pairs : List Pair) (lows : List ℕ) (s : ℕ) → ((p : Pair) → Among p pairs → (p.no ≢ s) × (p.yes ≢ s)) → pair_address pairs lows s ≡ None
pair_misses [] lows s h = refl
pair_misses (p ∷ pairs) [] s h = refl
pair_misses (p ∷ pairs) (a ∷ lows) s h =
    let here = h p (inl refl) in
    rw (ne_eqb p.no s here.0, ne_eqb p.yes s here.1) (pair_misses pairs lows s (λ q among. h q (inr among)))

-- how many statements have no address yet
abbrev pub nones : List (Option ℕ) → ℕ
nones [] = 0
nones (None ∷ placed) = suc (nones placed)
nones (Some a ∷ placed) = nones placed

nones_step : (o : Option ℕ) (placed : List (Option ℕ)) → nones (o ∷ placed) ≡ cond (is_none o) (1 + nones placed) (nones placed)
nones_step None placed = omega arith
nones_step (Some a) placed = refl

pub nones-count : (placed : List (Option ℕ)) → nones placed ≡ count_by (λ o. is_none o) placed
nones-count = is_count_by nones (λ o. is_none o) refl nones_step

pub length-with_free : (placed : List (Option ℕ)) (free : List ℕ) → nones placed ≤ length free → length (with_free placed free) ≡ length placed
length-with_free [] free enough = refl
length-with_free (Some a ∷ placed) free enough = ap suc (length-with_free placed free enough)
length-with_free (None ∷ placed) [] enough = absurd (omega arith)
length-with_free (None ∷ placed) (a ∷ free) enough = ap suc (length-with_free placed free (omega arith))

pub filled_kept : (placed : List (Option ℕ)) (free : List ℕ) (s a : ℕ) → nones placed ≤ length free → get_or placed s None ≡ Some a → get_or (with_free placed free) s 0 ≡ a
filled_kept [] free s a enough is = cc
filled_kept (Some b ∷ placed) free zero a enough is = cc
filled_kept (Some b ∷ placed) free (suc s) a enough is = filled_kept placed free s a enough is
filled_kept (None ∷ placed) [] s a enough is = absurd (omega arith)
filled_kept (None ∷ placed) (b ∷ free) zero a enough is = cc
filled_kept (None ∷ placed) (b ∷ free) (suc s) a enough is = filled_kept placed free s a (omega arith) is

filled_at : (placed : List (Option ℕ)) (free : List ℕ) (s : ℕ) → nones placed ≤ length free → s < length placed → get_or placed s None ≡ None → get_or (with_free placed free) s 0 ≡ get_or free (nones (take s placed)) 0
filled_at [] free s enough inside is = absurd (omega arith)
filled_at (Some b ∷ placed) free zero enough inside is = cc
filled_at (Some b ∷ placed) free (suc s) enough inside is = filled_at placed free s enough (omega arith) is
filled_at (None ∷ placed) [] s enough inside is = absurd (omega arith)
filled_at (None ∷ placed) (b ∷ free) zero enough inside is = refl
filled_at (None ∷ placed) (b ∷ free) (suc s) enough inside is = filled_at placed free s (omega arith) (omega arith) is

nones_take : (placed : List (Option ℕ)) (s : ℕ) → s < length placed → nones (take (suc s) placed) ≡ nones (take s placed) + cond (is_none (get_or placed s None)) 1 0
nones_take [] s inside = absurd (omega arith)
nones_take (Some a ∷ placed) zero inside = refl
nones_take (None ∷ placed) zero inside = refl
nones_take (Some a ∷ placed) (suc s) inside = nones_take placed s (omega arith)
nones_take (None ∷ placed) (suc s) inside = let e = nones_take placed s (omega arith) in omega arith

nones_take_le : (placed : List (Option ℕ)) (s : ℕ) → nones (take s placed) ≤ nones placed
nones_take_le [] zero = omega arith
nones_take_le [] (suc s) = omega arith
nones_take_le (o ∷ placed) zero = omega arith
nones_take_le (Some a ∷ placed) (suc s) = nones_take_le placed s
nones_take_le (None ∷ placed) (suc s) = let e = nones_take_le placed s in omega arith

-- the statements without an address take the free ones in order
record TakeFree (placed : List (Option ℕ)) (free : List ℕ) (m : ℕ) : Type 0 where
  taken : map (λ s. get_or (with_free placed free) s 0) (filter (λ s. is_none (get_or placed s None)) (below m)) ≡ take (nones (take m placed)) free
  count : length (filter (λ s. is_none (get_or placed s None)) (below m)) ≡ nones (take m placed)

take_free_more : (placed : List (Option ℕ)) (free : List ℕ) (m : ℕ) → nones placed ≤ length free → m < length placed → TakeFree placed free m → TakeFree placed free (suc m)
take_free_more placed free m enough inside h =
    let p : ℕ → Bool = λ s. is_none (get_or placed s None) in
    let at : ℕ → ℕ = λ s. get_or (with_free placed free) s 0 in
    let one : suc m ≡ m + 1 = omega arith in
    let more : nones (take (suc m) placed) ≡ nones (take m placed) + cond (p m) 1 0 = nones_take placed m inside in
    let most : nones (take (suc m) placed) ≤ nones placed = nones_take_le placed (suc m) in
    elim (p m) as (λ b. p m ≡ b → nones (take (suc m) placed) ≡ nones (take m placed) + cond b 1 0 → TakeFree placed free (suc m)) [
      | true ↦ λ is count.
          let list : filter p (below (suc m)) ≡ filter p (below m) ++ m ∷ [] = ap (λ k. filter p (below k)) one ∙ filter-below_kept p m is in
          let here : at m ≡ get_or free (nones (take m placed)) 0 = filled_at placed free m enough inside (none_is (get_or placed m None) is) in
          let next : take (nones (take m placed) + 1) free ≡ take (nones (take m placed)) free ++ get_or free (nones (take m placed)) 0 ∷ [] = take_more free (nones (take m placed)) 0 (omega arith) in
          record {
            taken = ap (map at) list ∙ (map-append at (filter p (below m)) (m ∷ []) ∙ (ap (λ xs. xs ++ at m ∷ []) h.taken ∙ (ap (λ x. take (nones (take m placed)) free ++ x ∷ []) here ∙ (sym next ∙ ap (λ k. take k free) (sym count)))));
            count = ap length list ∙ (length_push (filter p (below m)) m ∙ (ap (λ k. k + 1) h.count ∙ sym count));
          }
      | false ↦ λ is count.
          let list : filter p (below (suc m)) ≡ filter p (below m) = ap (λ k. filter p (below k)) one ∙ filter-below_dropped p m is in
          let same : nones (take (suc m) placed) ≡ nones (take m placed) = omega arith in
          record {
            taken = ap (map at) list ∙ (h.taken ∙ ap (λ k. take k free) (sym same));
            count = ap length list ∙ (h.count ∙ sym same);
          }
    ] refl more

take_free : (placed : List (Option ℕ)) (free : List ℕ) (m : ℕ) → nones placed ≤ length free → m ≤ length placed → TakeFree placed free m
take_free placed free zero enough inside = record {
  taken = ap (λ xs. map (λ s. get_or (with_free placed free) s 0) (filter (λ s. is_none (get_or placed s None)) xs)) below_none;
  count = ap (λ xs. length (filter (λ s. is_none (get_or placed s None)) xs)) below_none;
}
take_free placed free (suc m) enough inside = take_free_more placed free m enough (omega arith) (take_free placed free m enough (omega arith))

pub rest_taken : (placed : List (Option ℕ)) (free : List ℕ) → nones placed ≤ length free →
    map (λ s. get_or (with_free placed free) s 0) (filter (λ s. is_none (get_or placed s None)) (below (length placed)))
    ≡ take (length (filter (λ s. is_none (get_or placed s None)) (below (length placed)))) free
rest_taken placed free enough =
    let r = take_free placed free (length placed) enough (omega arith) in
    r.taken ∙ ap (λ k. take k free) (sym r.count)

-- as many addresses are free as statements have none
nones_somes : (placed : List (Option ℕ)) → length (filter_map (λ o. o) placed) + nones placed ≡ length placed
nones_somes [] = refl
nones_somes (None ∷ placed) = let e = nones_somes placed in omega arith
nones_somes (Some a ∷ placed) = let e = nones_somes placed in omega arith

same_some : (o : Option ℕ) (a : ℕ) → same_address o (Some a) ≡ true → o ≡ Some a
same_some None a h = cc
same_some (Some b) a h = ap Some (eqb-true b a h)

pub free_enough : (placed : List (Option ℕ)) → length placed ≤ 512 → nones placed ≤ length (free_addresses placed)
unfolding free_addresses is_taken
free_enough placed short =
    let taken : ℕ → Bool = is_taken placed in
    let both : length (filter taken (below 512)) + length (filter (is_free placed) (below 512)) ≡ length (below 512) = length-filter_both taken (is_free placed) (λ a. refl) (below 512) in
    let all : length (below 512) ≡ 512 = length-below 512 in
    let differ : Apart ◌≢◌ (filter taken (below 512)) = Apart-weaker ◌<◌ ◌≢◌ (filter taken (below 512)) (λ x y less same. omega arith) (Apart-filter ◌<◌ taken (below 512) (Apart-below 512)) in
    let most : length (filter taken (below 512)) ≤ length (filter_map (λ (o : Option ℕ). o) placed) =
    length-le_from_among (filter taken (below 512)) (filter_map (λ o. o) placed) differ (λ a among.
    let r = among-filter taken (below 512) a among in
    let o = from_any (λ x. same_address x (Some a)) placed r.1 in
    among_filter_map (λ x. x) placed o.0 a o.1 (same_some o.0 a o.2)) in
    let sum = nones_somes placed in
    omega arith
