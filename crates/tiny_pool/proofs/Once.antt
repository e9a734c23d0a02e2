-- One more number, and where the numbers are.
use Rattle.tiny_pool.proofs.Common.{◌≡◌, ◌<◌, ⊎_elim, ℕ, suc, ◌+◌, Bool, true, false, List, [], ◌∷◌, ◌++◌, length, refl, sym, ap, ◌∙◌, cond, Less, Equal}
use Rattle.tiny_pool.proofs.Common.{Greater, arith, Option, Some, None, not, ◌==◌, ◌||◌, is_some, nat_lt, filter, list_any, position_or_len, is_eq, nat_cmp}
use Rattle.tiny_pool.proofs.Common.{get, is_at, eq-eqb, eqb-true, append-nil, length_push, filter-append, once, Constants, HasSeen, or_else, place_from}
use Rattle.std.proofs.lemmas.Bool.Decides.{eqb_tells, leb_tells}

-- ---- numbers once

abbrev has : ℕ → List ℕ → Bool
has x ys = list_any (λ m. m == x) ys

abbrev but : ℕ → List ℕ → List ℕ
but m ys = filter (λ k. not (k == m)) ys

-- taking one away takes no other away
kept : (m x : ℕ) (ys : List ℕ) → (m == x) ≡ false → has x (but m ys) ≡ has x ys
kept m x [] other = refl
kept m x (y ∷ ys) other = by (y == m) refl (kept m x ys other)
  where
    by : (b : Bool) → (y == m) ≡ b → has x (but m ys) ≡ has x ys → has x (cond (not b) (y ∷ but m ys) (but m ys)) ≡ (y == x || has x ys)
    by true e later = later ∙ ap (λ b. b || has x ys) (sym (ap (λ k. k == x) (eqb-true y m e) ∙ other))
    by false e later = ap (λ b. y == x || b) later

has_once : (m x : ℕ) (ys : List ℕ) → has x (m ∷ but m ys) ≡ (m == x || has x ys)
has_once m x ys = by (m == x) refl
  where
    by : (b : Bool) → (m == x) ≡ b → (b || has x (but m ys)) ≡ (b || has x ys)
    by true e = refl
    by false e = kept m x ys e

flip : (m x : ℕ) → (x == m) ≡ (m == x)
flip m x =
    ⊎_elim (λ t. eq-eqb x m (sym t.1) ∙ sym t.0)
    (λ t. ⊎_elim (λ u. absurd (t.1 (sym u.1))) (λ u. u.0 ∙ sym t.0) (eqb_tells x m))
    (eqb_tells m x)

-- the last one is this one, or it stays
but_push : (m x : ℕ) (ys : List ℕ) (b : Bool) → (m == x) ≡ b → but m (ys ++ x ∷ []) ≡ but m ys ++ cond (not b) (x ∷ []) []
but_push m x ys b e =
    filter-append (λ k. not (k == m)) ys (x ∷ []) ∙ ap (λ (c : Bool). but m ys ++ cond (not c) (x ∷ []) []) (flip m x ∙ e)

pub once_push : (ns : List ℕ) (x : ℕ) → once (ns ++ x ∷ []) ≡ cond (has x (once ns)) (once ns) (once ns ++ x ∷ [])
once_push [] x = refl
once_push (m ∷ ns) x =
    ap (λ (l : List ℕ). m ∷ but m l) (once_push ns x)
    ∙ (by (has x (once ns)) (m == x) (but_push m x (once ns) (m == x) refl)
    ∙ ap (λ b. cond b (m ∷ but m (once ns)) (m ∷ (but m (once ns) ++ x ∷ []))) (sym (has_once m x (once ns))))
  where
    by : (h b : Bool) → but m (once ns ++ x ∷ []) ≡ but m (once ns) ++ cond (not b) (x ∷ []) [] →
        m ∷ but m (cond h (once ns) (once ns ++ x ∷ [])) ≡ cond (b || h) (m ∷ but m (once ns)) (m ∷ (but m (once ns) ++ x ∷ []))
    by true true last = refl
    by true false last = refl
    by false true last = ap (λ (l : List ℕ). m ∷ l) (last ∙ append-nil (but m (once ns)))
    by false false last = ap (λ (l : List ℕ). m ∷ l) last

-- ---- places

pub has_place : (place : ℕ) (ms : List ℕ) (n : ℕ) → is_some (place_from place ms n) ≡ has n ms
has_place place [] n = refl
has_place place (m ∷ ms) n = by (m == n) (has_place (place + 1) ms n)
  where
    by : (b : Bool) → is_some (place_from (place + 1) ms n) ≡ has n ms → is_some (cond b (Some place) (place_from (place + 1) ms n)) ≡ (b || has n ms)
    by true later = refl
    by false later = later

neither : (b c : Bool) → (b || c) ≡ false → (b ≡ false) × (c ≡ false)
neither true c h = absurd (cc)
neither false c h = (refl, h)

pub place_push : (place : ℕ) (ms : List ℕ) (x n : ℕ) → has x ms ≡ false →
    place_from place (ms ++ x ∷ []) n ≡ cond (x == n) (Some (place + length ms)) (place_from place ms n)
place_push place [] x n fresh = ap (λ k. cond (x == n) (Some k) None) (let e : place ≡ place + 0 = omega arith in e)
place_push place (m ∷ ms) x n fresh =
    let r = neither (m == x) (has x ms) fresh in
    ap (λ (o : Option ℕ). cond (m == n) (Some place) o) (place_push (place + 1) ms x n r.1) ∙ go r.0 (m == n) (x == n) refl refl
  where
    go : (m == x) ≡ false → (b c : Bool) → (m == n) ≡ b → (x == n) ≡ c →
        cond b (Some place) (cond c (Some ((place + 1) + length ms)) (place_from (place + 1) ms n))
        ≡ cond c (Some (place + suc (length ms))) (cond b (Some place) (place_from (place + 1) ms n))
    go other true true e f = absurd (let g : (m == x) ≡ true = eq-eqb m x (eqb-true m n e ∙ sym (eqb-true x n f)) in cc)
    go other true false e f = refl
    go other false true e f = ap (λ (k : ℕ). Some k) (let e : (place + 1) + length ms ≡ place + suc (length ms) = omega arith in e)
    go other false false e f = refl

pub place_or_end : (place : ℕ) (ms : List ℕ) (n : ℕ) →
    or_else (place + length ms) (place_from place ms n) ≡ place + position_or_len (λ m. m == n) ms
place_or_end place [] n = refl
place_or_end place (m ∷ ms) n = by (m == n) (place_or_end (place + 1) ms n)
  where
    by : (b : Bool) → or_else ((place + 1) + length ms) (place_from (place + 1) ms n) ≡ (place + 1) + position_or_len (λ k. k == n) ms →
        or_else (place + suc (length ms)) (cond b (Some place) (place_from (place + 1) ms n)) ≡ place + cond (not b) (1 + position_or_len (λ k. k == n) ms) 0
    by true later = omega arith
    by false later =
        ap (λ k. or_else k (place_from (place + 1) ms n)) (let e : place + suc (length ms) ≡ (place + 1) + length ms = omega arith in e)
        ∙ (later ∙ (let e : (place + 1) + position_or_len (λ k. k == n) ms ≡ place + (1 + position_or_len (λ k. k == n) ms) = omega arith in e))

-- ---- one more number is seen

at_is : (n q : ℕ) → is_at (nat_cmp n) q ≡ (n == q)
at_is n q = ⊎_elim (λ t. less t.0 t.1) (λ t. more t.0) (leb_tells (suc n) q)
  where
    more : nat_lt n q ≡ false → is_eq (cond (nat_lt n q) Less (cond (n == q) Equal Greater)) ≡ (n == q)
    more e = ap (λ (b : Bool). is_eq (cond b Less (cond (n == q) Equal Greater))) e ∙ by (n == q)
      where
        by : (b : Bool) → is_eq (cond b Equal Greater) ≡ b
        by true = refl
        by false = refl

    less : nat_lt n q ≡ true → n < q → is_eq (cond (nat_lt n q) Less (cond (n == q) Equal Greater)) ≡ (n == q)
    less e lt = ap (λ (b : Bool). is_eq (cond b Less (cond (n == q) Equal Greater))) e
        ∙ sym (⊎_elim (λ t. absurd (let same = t.1 in omega (arith, lt, same))) (λ t. t.0) (eqb_tells n q))

-- a number that was seen
pub seen_again : (c : Constants) (first : ℕ) (ns : List ℕ) (n : ℕ) → HasSeen c first ns → is_some (get nat_cmp c.places n) ≡ true →
    HasSeen c first (ns ++ n ∷ [])
seen_again c first ns n h found =
    let same : once ns ≡ once (ns ++ n ∷ []) =
    sym (once_push ns n ∙ ap (λ (b : Bool). cond b (once ns) (once ns ++ n ∷ []))
    (sym (has_place first (once ns) n) ∙ sym (ap (λ (o : Option ℕ). is_some o) (h.places n)) ∙ found)) in
    record {
      numbers = h.numbers ∙ same;
      end = h.end ∙ ap (λ (l : List ℕ). first + length l) same;
      places = λ q. h.places q ∙ ap (λ (l : List ℕ). place_from first l q) same;
    }

-- a number that was not
pub seen_new : (old new : Constants) (first : ℕ) (ns : List ℕ) (n : ℕ) → HasSeen old first ns → is_some (get nat_cmp old.places n) ≡ false →
    new.numbers.items ≡ old.numbers.items ++ n ∷ [] → new.end ≡ old.end + 1 →
    ((q : ℕ) → get nat_cmp new.places q ≡ cond (is_at (nat_cmp n) q) (Some old.end) (get nat_cmp old.places q)) → HasSeen new first (ns ++ n ∷ [])
seen_new old new first ns n h fresh numbers end places =
    let none : has n (once ns) ≡ false =
    sym (has_place first (once ns) n) ∙ sym (ap (λ (o : Option ℕ). is_some o) (h.places n)) ∙ fresh in
    let more : once ns ++ n ∷ [] ≡ once (ns ++ n ∷ []) =
    sym (once_push ns n ∙ ap (λ (b : Bool). cond b (once ns) (once ns ++ n ∷ [])) none) in
    let long = length_push (once ns) n in
    record {
      numbers = numbers ∙ ap (λ (l : List ℕ). l ++ n ∷ []) h.numbers ∙ more;
      end = (let before = h.end in let e : new.end ≡ first + length (once ns ++ n ∷ []) = omega (arith, end, before, long) in e)
          ∙ ap (λ (l : List ℕ). first + length l) more;
      places = λ q. places q
          ∙ ap (λ (b : Bool). cond b (Some old.end) (get nat_cmp old.places q)) (at_is n q)
          ∙ ap (λ (o : Option ℕ). cond (n == q) (Some old.end) o) (h.places q)
          ∙ ap (λ (k : ℕ). cond (n == q) (Some k) (place_from first (once ns) q)) h.end
          ∙ sym (place_push first (once ns) n q none)
          ∙ ap (λ (l : List ℕ). place_from first l q) more;
    }
