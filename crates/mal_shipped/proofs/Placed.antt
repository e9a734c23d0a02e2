-- The listed addresses are the chosen placement.
use Rattle.mal_shipped.proofs.Common.{◌≡◌, ℕ, List, refl, ◌<◌, zero, suc, ◌&&◌, Bool, true, nat_lt, [], ◌∷◌, length, All, Option, Some, None, subst, arith}
use Rattle.mal_shipped.proofs.Common.{slice_index_or, list_all, ltb-true, and_parts, Machine, Mic1, Mic2, Pair, AreFixedInside, IsOfStatements, AreWithin}
use Rattle.mal_shipped.proofs.Common.{demands_of, IsListed, listed_program, addresses_of, program1, rows1, program2, rows2, addresses1, addresses2}
use Rattle.store_placement.specs.Chosen as chosen
use Rattle.store_placement.specs.Forced as forced
use Rattle.store_placement.specs.First as first

pub listed1 : IsListed (demands_of program1) addresses1
unfolding program1 rows1 demands_of chosen.is_taken chosen.free_lows chosen.free_addresses chosen.open_pairs chosen.is_single chosen.singles chosen.before_singles forced.forced forced.all_forced first.below
listed1 = record { count = refl; in_store = refl; different = refl; forced_kept = refl; pairs_kept = refl; lows = refl; rest = refl }

pub listed2 : IsListed (demands_of program2) addresses2
unfolding program2 rows2 demands_of chosen.is_taken chosen.free_lows chosen.free_addresses chosen.open_pairs chosen.is_single chosen.singles chosen.before_singles forced.forced forced.all_forced first.below
listed2 = record { count = refl; in_store = refl; different = refl; forced_kept = refl; pairs_kept = refl; lows = refl; rest = refl }

pub listed : (machine : Machine) → IsListed (demands_of (listed_program machine)) (addresses_of machine)
listed Mic1 = listed1
listed Mic2 = listed2

-- The demands are within the store.

is_inside : Option ℕ → Bool
is_inside None = true
is_inside (Some a) = nat_lt a 512

inside : (fixed : List (Option ℕ)) → list_all is_inside fixed ≡ true → AreFixedInside fixed
unfolding is_inside
inside [] h s a e = absurd (cc)
inside (None ∷ fixed) h zero a e = absurd (cc)
inside (Some x ∷ fixed) h zero a e = let same : x ≡ a = cc in subst (λ (n : ℕ). n < 512) same (ltb-true x 512 (and_parts _ _ h).0)
inside (x ∷ fixed) h (suc s) a e = inside fixed (and_parts _ _ h).1 s a e

leads_inside : ℕ → Pair → Bool
leads_inside count p = nat_lt p.yes count && nat_lt p.no count

pairs_at : (count : ℕ) (p : Pair) (pairs : List Pair) → IsOfStatements count p → All (IsOfStatements count) pairs →
    (k : ℕ) (d : Pair) → k < length (p ∷ pairs) → IsOfStatements count (slice_index_or (p ∷ pairs) k d)
pairs_at count p pairs here later zero d below = here
pairs_at count p pairs here later (suc k) d below = later k d (omega arith)

each_leads : (count : ℕ) (pairs : List Pair) → list_all (leads_inside count) pairs ≡ true → All (IsOfStatements count) pairs
unfolding leads_inside
each_leads count [] h = λ k d below. absurd (omega arith)
each_leads count (p ∷ pairs) h =
    let two = and_parts _ _ (and_parts _ _ h).0 in
    pairs_at count p pairs (ltb-true p.yes count two.0, ltb-true p.no count two.1) (each_leads count pairs (and_parts _ _ h).1)

within1 : AreWithin (demands_of program1).fixed (demands_of program1).pairs
unfolding program1 rows1 demands_of is_inside leads_inside
within1 =
    record {
      count = omega arith;
      addresses = inside (demands_of program1).fixed refl;
      targets = each_leads (length (demands_of program1).fixed) (demands_of program1).pairs refl;
    }

within2 : AreWithin (demands_of program2).fixed (demands_of program2).pairs
unfolding program2 rows2 demands_of is_inside leads_inside
within2 =
    record {
      count = omega arith;
      addresses = inside (demands_of program2).fixed refl;
      targets = each_leads (length (demands_of program2).fixed) (demands_of program2).pairs refl;
    }

pub within : (machine : Machine) → AreWithin (demands_of (listed_program machine)).fixed (demands_of (listed_program machine)).pairs
within Mic1 = within1
within Mic2 = within2
