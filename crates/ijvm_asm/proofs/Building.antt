-- What lines make, one by one, where each says something at its place; lines in two parts.
use Rattle.ijvm_asm.proofs.Common.{◌≡◌, ℕ, suc, ◌+◌, List, [], ◌∷◌, ◌++◌, length, refl, sym, subst, arith, Makes}
use Rattle.ijvm_asm.specs.Prelude.{Said, Source, parser}

-- lines from line `k` on, each read at its place, lead from the one source to the other
abbrev pub Build : ℕ → Source → List Said → Source → Type 0
Build = Makes parser

pub moved : (k n : ℕ) → (k + 1) + n ≡ k + suc n
moved k n = omega arith

pub same : (k : ℕ) → k + 0 ≡ k
same k = omega arith

pub split : (xs ys : List Said) (k : ℕ) (s t : Source) → Build k s (xs ++ ys) t → (u : Source) × Build k s xs u × Build (k + length xs) u ys t
split [] ys k s t b = (s, refl, subst (λ n. Build n s ys t) (sym (same k)) b)
split (x ∷ xs) ys k s t (v, p, h, more) =
    let r = split xs ys (k + 1) v t more in
    (r.0, (v, p, h, r.1), subst (λ n. Build n r.0 ys t) (moved k (length xs)) r.2)

pub join : (xs ys : List Said) (k : ℕ) (s u t : Source) → Build k s xs u → Build (k + length xs) u ys t → Build k s (xs ++ ys) t
join [] ys k s u t e b = subst (λ n. Build n s ys t) (same k) (subst (λ w. Build (k + 0) w ys t) (sym e) b)
join (x ∷ xs) ys k s u t (v, p, h, more) b = (v, p, h, join xs ys (k + 1) v u t more (subst (λ n. Build n u ys t) (sym (moved k (length xs))) b))
