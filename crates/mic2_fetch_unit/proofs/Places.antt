-- A fetch unit stands at a place exactly where it is the folded one there.
use Rattle.mic2_fetch_unit.proofs.Common.{◌≡◌, ℕ, zero, suc, ◌+◌, ◌*◌, ◌/◌, ◌%◌, ◌<◌, ◌≤◌, Option, Some, None, List, [], ◌∷◌, length, Bool, true, false, refl}
use Rattle.mic2_fetch_unit.proofs.Common.{arith, ◌∙◌, ap, ap₂, sym, slice_index, nat_le, if◌then◌else◌, is_some, IfSome, byte_in, Prefetch, at_start, StandsAt}
use Rattle.mic2_fetch_unit.proofs.Common.{unit_at, bytes_from, text_from, Bounds}
use Rattle.mic2_fetch_unit.proofs.Folded.{length-bytes, byte_there}

bytes_are : (words : List ℕ) (xs : List ℕ) (p : ℕ) → ((k : ℕ) → k < length xs → slice_index xs k ≡ byte_in words (p + k)) → xs ≡ bytes_from words p (length xs)
bytes_are words [] p h = refl
bytes_are words (x ∷ xs) p h =
    let at : p + 0 ≡ p = omega arith in
    ap₂ (λ (y : ℕ) (ys : List ℕ). y ∷ ys) (h 0 (omega arith) ∙ ap (byte_in words) at)
    (bytes_are words xs (p + 1) (λ k l. let on : p + suc k ≡ p + 1 + k = omega arith in h (suc k) (omega arith) ∙ ap (byte_in words) on))

pending_is : (pending : Option ℕ) (short : Bool) (x : ℕ) → is_some pending ≡ short → IfSome pending (λ (word : ℕ). word ≡ x) → pending ≡ (if short then Some x else None)
pending_is None true x e h = absurd (cc)
pending_is None false x e h = refl
pending_is (Some y) true x e h = ap (λ (k : ℕ). Some k) h
pending_is (Some y) false x e h = absurd (cc)

pub unit_there : (words : List ℕ) (p : ℕ) (u : Prefetch) → StandsAt words p u → u ≡ unit_at words p (length u.bytes)
unfolding unit_at
unit_there words p u h =
    let small : u.skip < 4 = h.unit.skip in
    let on : 4 * u.imar + u.skip ≡ p + length u.bytes = h.onward in
    let imar : u.imar ≡ (p + length u.bytes) / 4 = omega arith in
    let skip : u.skip ≡ (p + length u.bytes) % 4 = omega arith in
    let pending : u.pending ≡ (if nat_le (length u.bytes) 2 then Some (slice_index words ((p + length u.bytes) / 4)) else None) =
    pending_is u.pending (nat_le (length u.bytes) 2) (slice_index words u.imar) h.unit.asks h.pending
    ∙ ap (λ (k : ℕ). if nat_le (length u.bytes) 2 then Some (slice_index words k) else None) imar in
    λ i. record { bytes = bytes_are words u.bytes p h.bytes i; imar = imar i; skip = skip i; pending = pending i }

pub bounds_there : (words : List ℕ) (p : ℕ) (u : Prefetch) → StandsAt words p u → 2 ≤ length u.bytes → Bounds 2 p (length u.bytes)
bounds_there words p u h two =
    let on : 4 * u.imar + u.skip ≡ p + length u.bytes = h.onward in
    let whole : u.skip ≡ 0 = by_skip u.skip h.unit.skips in
    record { least = two; few = h.unit.few; aligned = omega arith }
  where
    by_skip : (skip : ℕ) → (0 < skip → (length u.bytes ≡ 0) × (is_some u.pending ≡ true)) → skip ≡ 0
    by_skip zero g = refl
    by_skip (suc k) g = let none : length u.bytes ≡ 0 = (g (omega arith)).0 in absurd (omega arith)

asks_is : (b : Bool) (x : ℕ) → is_some (if b then Some x else None) ≡ b
asks_is true x = refl
asks_is false x = refl

holds_it : (b : Bool) (x : ℕ) → IfSome (if b then Some x else None) (λ (word : ℕ). word ≡ x)
holds_it true x = refl
holds_it false x = tt

pub stands_there : (words : List ℕ) (p have : ℕ) → Bounds 2 p have → StandsAt words p (unit_at words p have)
unfolding unit_at
stands_there words p have h =
    let long : length (bytes_from words p have) ≡ have = length-bytes words p have in
    let aligned : (p + have) % 4 ≡ 0 = h.aligned in
    record {
      unit = record {
        few = omega (arith, h.few);
        skip = omega arith;
        skips = λ l. absurd (omega arith);
        asks = asks_is (nat_le have 2) (slice_index words ((p + have) / 4)) ∙ ap (λ (k : ℕ). nat_le k 2) (sym long);
      };
      bytes = λ k l. byte_there words p have k (omega arith);
      onward = omega arith;
      pending = holds_it (nat_le have 2) (slice_index words ((p + have) / 4));
    }

pub many_there : (words : List ℕ) (p have : ℕ) → length (unit_at words p have).bytes ≡ have
unfolding unit_at
many_there words p have = length-bytes words p have

pub front_is : (words : List ℕ) (p have k : ℕ) → k < have → slice_index (unit_at words p have).bytes k ≡ text_from words p k
unfolding unit_at
front_is words p have zero h = let e : p + 0 ≡ p = omega arith in byte_there words p have 0 h ∙ ap (byte_in words) e
front_is words p have (suc k) h = byte_there words p have (suc k) h

pub starts : (words : List ℕ) → at_start (slice_index words 0) ≡ unit_at words 0 0
unfolding unit_at
starts words = refl
