-- Reading the destinations of an assignment one after the other.
use Rattle.mal_line.proofs.Common.{◌≡◌, ℕ, suc, ◌+◌, ◌<◌, ◌≤◌, Bool, true, List, [], ◌∷◌, Some, None, length, drop, get_or, refl, sym, ap, ◌∙◌, arith}
use Rattle.mal_line.proofs.Common.{drop-cons, bit_or, Machine, Word, Token}
use Rattle.mal_line.specs.Prelude.{bit, chain_at, dest_of, last}

pub chain_step : (m : Machine) (some : Bool) (dests : ℕ) (ts : List Token) (t u : Token) (rest : List Token) (w : Word) → ts ≡ t ∷ u ∷ rest → dest_of t u ≡ Some w → chain_at m some dests ts ≡ chain_at m true (bit_or dests (bit w)) rest
unfolding chain_at
chain_step m some dests ts t u rest w e d = rw (e, d) refl

pub chain_stop : (m : Machine) (some : Bool) (dests : ℕ) (ts : List Token) (t u : Token) (rest : List Token) → ts ≡ t ∷ u ∷ rest → dest_of t u ≡ None → chain_at m some dests ts ≡ last m some dests ts
unfolding chain_at
chain_stop m some dests ts t u rest e d = rw (e, d) refl

pub chain_short : (m : Machine) (some : Bool) (dests : ℕ) (ts : List Token) → length ts ≤ 1 → chain_at m some dests ts ≡ last m some dests ts
unfolding chain_at
chain_short m some dests [] h = refl
chain_short m some dests (t ∷ []) h = refl
chain_short m some dests (t ∷ u ∷ rest) h = absurd (omega arith)

pub two_at : (xs : List Token) (i : ℕ) (t u : Token) → i + 1 < length xs → t ≡ get_or xs i t → u ≡ get_or xs (i + 1) u → drop i xs ≡ t ∷ u ∷ drop (i + 2) xs
two_at xs i t u lt is_t is_u =
    let s : i + 1 ≡ suc i = omega arith in
    let s2 : i + 2 ≡ suc (suc i) = omega arith in
    let near : i < length xs = omega arith in
    let far : suc i < length xs = omega arith in
    let one : drop i xs ≡ t ∷ drop (suc i) xs = drop-cons xs i t near ∙ ap (λ (x : Token). x ∷ drop (suc i) xs) (sym is_t) in
    let two : drop (suc i) xs ≡ u ∷ drop (suc (suc i)) xs = drop-cons xs (suc i) u far ∙ ap (λ (x : Token). x ∷ drop (suc (suc i)) xs) (sym (rw s at is_u)) in
    rw s2 (one ∙ ap (λ (zs : List Token). t ∷ zs) two)
