-- The functions but main: how many there are, and where the pool has their entries.
use Rattle.std.proofs.Common.{◌≡◌, ◌≢◌, ◌<◌, ◌≤◌, ⊎_elim, ℕ, suc, ◌+◌, Bool, true, false, List, [], ◌∷◌, length, refl, sym, ap, ◌∙◌, arith}
use Rattle.std.specs.Prelude.{not, ◌==◌, nat_lt, cond, if◌then◌else◌}
use Rattle.tiny_code.specs.Common.{filter, enumerate_from, lt-ltb, le-ltb, eqb_tells}
use Rattle.tiny_tree.specs.Prelude.{Function}

pub apart : (n x y : ℕ) → n ≢ x → y ≡ n → not (y == x) ≡ true
apart n x y other e = ⊎_elim (λ t. absurd (other (sym e ∙ t.1))) (λ t. ap not t.0) (eqb_tells y x)

abbrev pub others_from : ℕ → ℕ → List Function → List (ℕ × Function)
others_from main n gs = filter (λ m. not (m.0 == main)) (enumerate_from n gs)

abbrev pub entry : ℕ → ℕ → ℕ
entry main f = if nat_lt f main then f + 1 else f

-- the entry of each of these stands at its place in the pool, where the first place is the one after k
abbrev pub AreEntries : ℕ → ℕ → List (ℕ × Function) → Type 0
AreEntries main k [] = Unit {0}
AreEntries main k (m ∷ ms) = (entry main m.0 ≡ k + 1) × AreEntries main (k + 1) ms

entry_before : (main f : ℕ) → f < main → entry main f ≡ f + 1
entry_before main f lt = ap (λ (b : Bool). if b then f + 1 else f) (lt-ltb f main lt)

entry_after : (main f : ℕ) → main < f → entry main f ≡ f
entry_after main f lt = ap (λ (b : Bool). if b then f + 1 else f) (le-ltb f main (omega (arith, lt)))

after_main : (main k n : ℕ) (gs : List Function) → main < n → n ≡ k + 1 →
    AreEntries main k (others_from main n gs) × (length (others_from main n gs) ≡ length gs)
after_main main k n [] lt e = (tt, refl)
after_main main k n (g ∷ gs) lt e =
    by (not (n == main)) (apart n main n (λ (same : n ≡ main). omega (arith, lt, same)) refl)
    (after_main main (k + 1) (n + 1) gs (omega (arith, lt)) (omega (arith, e)))
  where
    rest : List (ℕ × Function)
    rest = others_from main (n + 1) gs

    by : (b : Bool) → b ≡ true → AreEntries main (k + 1) rest × (length rest ≡ length gs) →
        AreEntries main k (cond b ((n, g) ∷ rest) rest) × (length (cond b ((n, g) ∷ rest) rest) ≡ suc (length gs))
    by true is later = ((entry_after main n lt ∙ e, later.0), ap suc later.1)
    by false is later = cc

pub from_main : (main n : ℕ) (gs : List Function) → n ≤ main → main < n + length gs →
    AreEntries main n (others_from main n gs) × (length (others_from main n gs) + 1 ≡ length gs)
from_main main n [] le lt = absurd (omega (arith, le, lt))
from_main main n (g ∷ gs) le lt =
    ⊎_elim (λ t. here (n == main) t.0 t.1)
    (λ t. later (n == main) t.0 (differ t.0)
    (from_main main (n + 1) gs (let before = differ t.0 in omega (arith, before)) (omega (arith, lt))))
    (eqb_tells n main)
  where
    rest : List (ℕ × Function)
    rest = others_from main (n + 1) gs

    differ : (n == main) ≡ false → n < main
    differ unlike = ⊎_elim (λ t. let bad : true ≡ false = sym t.0 ∙ unlike in absurd (cc)) (λ t. omega (arith, le, t.1)) (eqb_tells n main)

    here : (b : Bool) → b ≡ true → n ≡ main →
        AreEntries main n (cond (not b) ((n, g) ∷ rest) rest) × (length (cond (not b) ((n, g) ∷ rest) rest) + 1 ≡ suc (length gs))
    here true is same = let all = after_main main n (n + 1) gs (omega (arith, same)) refl in (all.0, omega (arith, all.1))
    here false is same = cc

    later : (b : Bool) → b ≡ false → n < main → AreEntries main (n + 1) rest × (length rest + 1 ≡ length gs) →
        AreEntries main n (cond (not b) ((n, g) ∷ rest) rest) × (length (cond (not b) ((n, g) ∷ rest) rest) + 1 ≡ suc (length gs))
    later true is before all = cc
    later false is before all =
        ((entry_before main n before, all.0), omega (arith, all.1))
