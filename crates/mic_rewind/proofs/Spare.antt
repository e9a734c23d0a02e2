-- A buffer that holds a cycle more than can be gone back over.
use Rattle.std.proofs.Common.{◌≡◌, ◌∙◌, sym, ap, refl, ℕ, zero, suc, ◌+◌, ◌-◌, ◌<◌, ◌≤◌, List, [], ◌∷◌, ◌++◌, length, take, drop, length-drop, arith, Some, None}
use Rattle.mic_rewind.proofs.Common.{slice_get, Buffer, buffer, keep_last, KeptCycle, Moment, led_from, begun_at, first_in, kept_in, moment_at, spare}
use Rattle.mic_rewind.proofs.Common.{view_from}
use Rattle.mic_rewind.proofs.Begun.{begun-length}
use Rattle.mic_rewind.proofs.Zipping.{kept-length}

length-snoc : (cs : List KeptCycle) (c : KeptCycle) → length (cs ++ c ∷ []) ≡ length cs + 1
length-snoc [] c = refl
length-snoc (d ∷ ds) c = let i = length-snoc ds c in omega (arith, i)

drop-snoc : (n : ℕ) (cs : List KeptCycle) (c : KeptCycle) → n ≤ length cs → drop n (cs ++ c ∷ []) ≡ drop n cs ++ c ∷ []
drop-snoc zero cs c h = refl
drop-snoc (suc n) [] c h = grind arith
drop-snoc (suc n) (d ∷ ds) c h = drop-snoc n ds c (omega (arith, h))

get-none : (k : ℕ) (cs : List KeptCycle) → cs ≡ [] → slice_get cs k ≡ None
get-none k cs e = ap (λ (xs : List KeptCycle). slice_get xs k) e

get-drop : (n k : ℕ) (cs : List KeptCycle) → slice_get (drop n cs) k ≡ slice_get cs (n + k)
get-drop zero k cs = let e : k ≡ 0 + k = omega arith in ap (λ (j : ℕ). slice_get cs j) e
get-drop (suc n) k [] = get-none k [] refl ∙ sym (get-none (suc n + k) [] refl)
get-drop (suc n) k (c ∷ cs) = let e : suc (n + k) ≡ suc n + k = omega arith in get-drop n k cs ∙ ap (λ (j : ℕ). slice_get (c ∷ cs) j) e

led-none : (m : Moment) (k : ℕ) → led_from m (take k []) ≡ m
led-none m zero = refl
led-none m (suc k) = refl

led-take : (n k : ℕ) (m : Moment) (cs : List KeptCycle) → led_from (led_from m (take n cs)) (take k (drop n cs)) ≡ led_from m (take (n + k) cs)
led-take zero k m cs = let e : k ≡ 0 + k = omega arith in ap (λ (j : ℕ). led_from m (take j cs)) e
led-take (suc n) k m [] = led-none m k ∙ sym (led-none m (suc n + k))
led-take (suc n) k m (c ∷ cs) = let e : suc (n + k) ≡ suc n + k = omega arith in led-take n k c.after cs ∙ ap (λ (j : ℕ). led_from m (take j (c ∷ cs))) e

-- where cycles led does not depend on where the first began, if there is one
led-any : (m m' : Moment) (n : ℕ) (cs : List KeptCycle) → (n ≡ 0 → m ≡ m') → 0 < length cs → led_from m (take n cs) ≡ led_from m' (take n cs)
led-any m m' zero cs same some = same refl
led-any m m' (suc n) [] same some = grind arith
led-any m m' (suc n) (c ∷ cs) same some = refl

pub kept_in-length : (b : Buffer KeptCycle) → length (kept_in b).items ≡ length b.items - spare b
kept_in-length b = length-drop (spare b) b.items

-- the moment at the cursor is where the cycle before it led
pub moment_in : (first : Moment) (b : Buffer KeptCycle) (behind : ℕ) → behind ≤ length (kept_in b).items →
    moment_at (first_in first b) (kept_in b).items behind ≡ led_from first (take (length b.items - behind) b.items)
moment_in first b behind cursor =
    let l = kept_in-length b in
    let k : spare b + (length (kept_in b).items - behind) ≡ length b.items - behind = omega (arith, l, cursor) in
    led-take (spare b) (length (kept_in b).items - behind) first b.items
    ∙ ap (λ (n : ℕ). led_from first (take n b.items)) k

-- with a state before the cursor's, a cycle can be gone back over
pub some_before : (first : Moment) (b : Buffer KeptCycle) (behind : ℕ) (words : List ℕ) →
    0 < length (view_from (first_in first b) (kept_in b) behind words).before → 0 < length (kept_in b).items - behind
some_before first b behind words some =
    let k = kept-length (begun_at (first_in first b) (kept_in b)) behind words in
    let n = begun-length (first_in first b) (kept_in b).items in
    omega (arith, k, n, some)

-- the cycles around the cursor
module _ (b : Buffer KeptCycle) (behind : ℕ) (c : KeptCycle) where
  pub got_before : 0 < length (kept_in b).items - behind → slice_get b.items (length b.items - behind - 1) ≡ Some c →
      slice_get (kept_in b).items (length (kept_in b).items - behind - 1) ≡ Some c
  got_before some got =
      let l = kept_in-length b in
      let k : spare b + (length (kept_in b).items - behind - 1) ≡ length b.items - behind - 1 = omega (arith, l, some) in
      get-drop (spare b) (length (kept_in b).items - behind - 1) b.items
      ∙ (ap (λ (n : ℕ). slice_get b.items n) k ∙ got)

  pub got_after : behind ≤ length (kept_in b).items → slice_get b.items (length b.items - behind) ≡ Some c →
      slice_get (kept_in b).items (length (kept_in b).items - behind) ≡ Some c
  got_after cursor got =
      let l = kept_in-length b in
      let k : spare b + (length (kept_in b).items - behind) ≡ length b.items - behind = omega (arith, l, cursor) in
      get-drop (spare b) (length (kept_in b).items - behind) b.items
      ∙ (ap (λ (n : ℕ). slice_get b.items n) k ∙ got)

-- one more cycle is put in
module _ (first : Moment) (b : Buffer KeptCycle) (c : KeptCycle) (some : 0 < b.capacity - 1) where
  abbrev pub rolled : Buffer KeptCycle
  rolled = buffer (keep_last b.capacity (b.items ++ c ∷ [])) b.capacity

  abbrev all : List KeptCycle
  all = (kept_in b).items ++ c ∷ []

  rolled_items : rolled.items ≡ all
  rolled_items =
      let l = length-snoc b.items c in
      let k : length (b.items ++ c ∷ []) - b.capacity ≡ spare b = omega (arith, l, some) in
      ap (λ (n : ℕ). drop n (b.items ++ c ∷ [])) k ∙ drop-snoc (spare b) b.items c (omega arith)

  pub rolled_kept : kept_in rolled ≡ buffer (keep_last (b.capacity - 1) all) (b.capacity - 1)
  rolled_kept = ap (λ (cs : List KeptCycle). buffer (keep_last (b.capacity - 1) cs) (b.capacity - 1)) rolled_items

  -- as long as nothing is dropped, nothing was dropped
  same_first : length all - (b.capacity - 1) ≡ 0 → first ≡ first_in first b
  same_first e =
      let l = kept_in-length b in
      let n = length-snoc (kept_in b).items c in
      let none : spare b ≡ 0 = omega (arith, l, n, e, some) in
      ap (λ (k : ℕ). led_from first (take k b.items)) (sym none)

  pub rolled_first : first_in first rolled ≡ led_from (first_in first b) (take (length all - (b.capacity - 1)) all)
  rolled_first =
      let n = length-snoc (kept_in b).items c in
      ap (λ (cs : List KeptCycle). led_from first (take (length cs - (b.capacity - 1)) cs)) rolled_items
      ∙ led-any first (first_in first b) (length all - (b.capacity - 1)) all same_first (omega (arith, n))
