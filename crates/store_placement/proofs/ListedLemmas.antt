-- A list that passes the computed test `IsListed` is the chosen placement, and no other list is.
use Rattle.store_placement.proofs.Common.{◌≡◌, ◌≢◌, ℕ, ◌+◌, ◌<◌, Bool, true, false, not, List, [], ◌∷◌, Option, Some, None, length, zero, suc, eqb, refl, sym}
use Rattle.store_placement.proofs.Common.{ap, ◌∙◌, inl, inr, arith, slice_index, nat_lt, list_any, list_all, eqb-true, eq-eqb, ltb-true, cases_lt, and_parts}
use Rattle.store_placement.proofs.Common.{not-true, ext_get_or, Pair, Demands, AreWithin, below, Never, forced, clashes, IsPlacement, open_pairs, IsChosenList}
use Rattle.store_placement.proofs.Common.{are_different, is_kept, IsListed}
use Rattle.store_placement.proofs.Among.{Among, All-from_among, among_at, among_below, none_of}
use Rattle.store_placement.proofs.ForcedBy.{forced_own}
use Rattle.store_placement.proofs.OpenPairs.{open_from}
use Rattle.store_placement.proofs.ChosenPlacement.{fixed_below}
use Rattle.store_placement.proofs.NoPlacement.{no_clash}
use Rattle.store_placement.proofs.Choice.{chosen_agree}

all_of : {X : Type 0} (test : X → Bool) (xs : List X) (x : X) → list_all test xs ≡ true → Among x xs → test x ≡ true
all_of test [] x h among = absurd among
all_of test (y ∷ ys) x h (inl here) = ap test here ∙ (and_parts (test y) (list_all test ys) h).0
all_of test (y ∷ ys) x h (inr later) = all_of test ys x (and_parts (test y) (list_all test ys) h).1 later

different_at : (others : List ℕ) → are_different others ≡ true → (s t : ℕ) → s < t → t < length others → slice_index others s ≢ slice_index others t
different_at [] h s t less inside same = omega arith
different_at (a ∷ others) h s zero less inside same = omega arith
different_at (a ∷ others) h zero (suc t) less inside same =
    let none = not-true (list_any (λ b. eqb b a) others) (and_parts (not (list_any (λ b. eqb b a) others)) (are_different others) h).0 in
    let wrong : true ≡ false = sym (eq-eqb (slice_index others t) a (sym same)) ∙ none_of (λ b. eqb b a) others (slice_index others t) none (among_at others t 0 (omega arith)) in
    cc
different_at (a ∷ others) h (suc s) (suc t) less inside same =
    different_at others (and_parts (not (list_any (λ b. eqb b a) others)) (are_different others) h).1 s t (omega arith) (omega arith) same

all_different : (others : List ℕ) → are_different others ≡ true → (s t : ℕ) → s < length others → t < length others → slice_index others s ≡ slice_index others t → s ≡ t
all_different others h s t in_s in_t same = elim (cases_lt s t) [
  | inl less ↦ absurd (different_at others h s t less in_t same)
  | inr more ↦ elim (cases_lt t s) [
    | inl less ↦ absurd (different_at others h t s less in_s (sym same))
    | inr equal ↦ omega arith
  ]
]

kept_is : (o : Option ℕ) (address a : ℕ) → is_kept o address ≡ true → o ≡ Some a → address ≡ a
kept_is None address a h is = cc
kept_is (Some b) address a h is = let same : b ≡ a = cc in eqb-true address b h ∙ same

pub listed_chosen : (d : Demands) (xs : List ℕ) → IsListed d xs → IsChosenList d xs
listed_chosen d xs h =
    let count = h.count in
    let forced_at : (s a : ℕ) → s < length d.fixed → forced d.fixed d.pairs s ≡ Some a → slice_index xs s ≡ a = λ s a inside is.
    kept_is (forced d.fixed d.pairs s) (slice_index xs s) a (all_of (λ t. is_kept (forced d.fixed d.pairs t) (slice_index xs t)) (below (length d.fixed)) s h.forced_kept (among_below (length d.fixed) s inside)) is in
    let pair_at : (p : Pair) → Among p d.pairs → slice_index xs p.yes ≡ slice_index xs p.no + 256 = λ p among.
    eqb-true (slice_index xs p.yes) (slice_index xs p.no + 256) (all_of (λ q. eqb (slice_index xs q.yes) (slice_index xs q.no + 256)) d.pairs p h.pairs_kept among) in
    record {
      places = record {
        count = h.count;
        places = record {
          in_store = λ s inside. ltb-true (slice_index xs s) 512 (all_of (λ a. nat_lt a 512) xs (slice_index xs s) h.in_store (among_at xs s 0 (omega arith)));
          apart = λ s t in_s in_t same. all_different xs h.different s t (omega arith) (omega arith) same;
          keeps_fixed = λ s a is. forced_at s a (fixed_below d.fixed s a is) (forced_own d.fixed d.pairs s a is);
          keeps_pairs = All-from_among (λ p. slice_index xs p.yes ≡ slice_index xs p.no + 256) d.pairs pair_at;
        };
      };
      chosen = record {
        keeps_forced = forced_at;
        lows = h.lows;
        highs = All-from_among (λ p. slice_index xs p.yes ≡ slice_index xs p.no + 256) (open_pairs d.fixed d.pairs) (λ p among. pair_at p (open_from d.fixed d.pairs p among).among);
        rest = h.rest;
      };
    }

never_clash : {d : Demands} {address : ℕ → ℕ} → AreWithin d.fixed d.pairs → IsPlacement d address → Never (clashes d.pairs) (length d.fixed)
never_clash {d} {address} within is s inside =
    elim (clashes d.pairs s) as (λ b. clashes d.pairs s ≡ b → b ≡ false) [ true ↦ λ e. absurd (no_clash within is s e) | false ↦ λ e. refl ] refl

pub one_chosen : (d : Demands) (xs ys : List ℕ) → AreWithin d.fixed d.pairs → IsChosenList d xs → IsChosenList d ys → xs ≡ ys
one_chosen d xs ys within by_xs by_ys =
    let count_xs = by_xs.places.count in
    let count_ys = by_ys.places.count in
    ext_get_or 0 xs ys (omega arith) (λ s less.
    chosen_agree {d = d} {f = slice_index xs} {g = slice_index ys} (record { within = within; clear = never_clash within by_xs.places.places }) by_xs.chosen by_ys.chosen s (omega arith))
