-- A term's word and its reading over the whole numbers.
use Rattle.micro_terms.proofs.Common.{◌≡◌, ℕ, ◌+◌, ◌-◌, ◌*◌, ◌<◌, ◌≤◌, ◌%◌, Bool, true, false, cond, List, [], ◌∷◌, refl, sym, ap, ◌∙◌, ltb, arith, sum_by}
use Rattle.micro_terms.proofs.Common.{add-mul, sum_by-cons, mul-le, wrap, Part, Range, Term, share, side, IsWithin, value, weight}
use Rattle.micro_terms.proofs.Modular.{cut_first, sums}
use Rattle.micro_terms.proofs.Weights.{part_weight, value_lt}

-- a coefficient and what it takes away are what it adds
shares_of : (b : Bool) (c : ℕ) → wrap (c + cond b 0 (4294967296 - wrap c)) ≡ wrap (cond b (wrap c) 0)
unfolding wrap
shares_of true c = omega arith
shares_of false c = omega arith

shares : (c : ℕ) → wrap (c + share false c) ≡ wrap (share true c)
unfolding share
shares c = shares_of (ltb (wrap c) 2147483648) c

abbrev pub share_weight : Bool → (ℕ → ℕ) → Part → ℕ
share_weight added env p = share added p.coefficient * env p.number

-- the same of a multiple
multiples : (c x : ℕ) → wrap (c * x + share false c * x) ≡ wrap (share true c * x)
multiples c x =
    ap wrap (sym (add-mul c (share false c) x)) ∙ (sym (cut_first (c + share false c) x) ∙ (ap (λ n. wrap (n * x)) (shares c) ∙ cut_first (share true c) x))

rearranged : (a b c d : ℕ) → (a + b) + (c + d) ≡ (a + c) + (b + d)
rearranged a b c d = omega arith

-- the same of a list
lists : (env : ℕ → ℕ) (ps : List Part) → wrap (weight env ps + sum_by (share_weight false env) ps) ≡ wrap (sum_by (share_weight true env) ps)
lists env [] = refl
lists env (p ∷ ps) =
    ap wrap (ap (λ n. n + sum_by (share_weight false env) (p ∷ ps)) (sum_by-cons (part_weight env) p ps)
    ∙ (ap (λ n. part_weight env p + weight env ps + n) (sum_by-cons (share_weight false env) p ps)
    ∙ rearranged (part_weight env p) (weight env ps) (share_weight false env p) (sum_by (share_weight false env) ps)))
    ∙ (sums (part_weight env p + share_weight false env p) (share_weight true env p) (weight env ps + sum_by (share_weight false env) ps) (sum_by (share_weight true env) ps)
    (multiples p.coefficient (env p.number)) (lists env ps)
    ∙ ap wrap (sym (sum_by-cons (share_weight true env) p ps)))

first_cut : (a b c : ℕ) → wrap ((a + b) + c) ≡ wrap (wrap (a + b) + c)
unfolding wrap
first_cut a b c = omega arith

-- the word with what is taken away is what is added, modulo 2^32
read : (env : ℕ → ℕ) (t : Term) → wrap (value env t + side false env t) ≡ wrap (side true env t)
unfolding value side
read env t =
    let c = t.constant in
    let w = weight env t.parts.items in
    let n = sum_by (share_weight false env) t.parts.items in
    sym (first_cut c w (share false c + n))
    ∙ (ap wrap (rearranged c w (share false c) n)
    ∙ sums (c + share false c) (share true c) (w + n) (sum_by (share_weight true env) t.parts.items) (shares c) (lists env t.parts.items))

-- a side grows with the words
grows : (added : Bool) (env env' : ℕ → ℕ) → ((n : ℕ) → env n ≤ env' n) → (ps : List Part)
    → sum_by (share_weight added env) ps ≤ sum_by (share_weight added env') ps
grows added env env' h [] = omega arith
grows added env env' h (p ∷ ps) =
    let first : share_weight added env p ≤ share_weight added env' p =
    mul-le (share added p.coefficient) (env p.number) (share added p.coefficient) (env' p.number) (omega arith) (h p.number) in
    let rest = grows added env env' h ps in
    let l = sum_by-cons (share_weight added env) p ps in
    let r = sum_by-cons (share_weight added env') p ps in
    omega (arith, first, rest, l, r)

side_grows : (added : Bool) (env env' : ℕ → ℕ) → ((n : ℕ) → env n ≤ env' n) → (t : Term) → side added env t ≤ side added env' t
unfolding side
side_grows added env env' h t =
    let g = grows added env env' h t.parts.items in omega (arith, g)

turned : (v p n low high low' high' taken taken' turn : ℕ) → wrap (v + n) ≡ wrap p → v < 4294967296 → turn % 4294967296 ≡ 0 →
    low' ≤ p → p ≤ high' → taken' ≤ n → n ≤ taken → taken + low ≡ low' + turn → taken' + high ≡ high' + turn → high < 4294967296 →
    (low ≤ v) × (v ≤ high)
unfolding wrap
turned v p n low high low' high' taken taken' turn e w t a b c d f g h =
    let is : v + n ≡ p + turn = omega arith in
    (omega (arith, is), omega (arith, is))

-- a sum that is a word over the whole numbers, once a multiple of 2^32 is added, is that word
pub within : (turn : ℕ) (r : Range) (env low high : ℕ → ℕ) → ((n : ℕ) → (low n ≤ env n) × (env n ≤ high n)) → (t : Term) → turn % 4294967296 ≡ 0 → r.high < 4294967296 →
    side false high t + r.low ≡ side true low t + turn → side false low t + r.high ≡ side true high t + turn → IsWithin r (value env t)
within turn r env low high h t z small least most =
    let above : (added : Bool) → side added low t ≤ side added env t = λ added. side_grows added low env (λ n. (h n).0) t in
    let below : (added : Bool) → side added env t ≤ side added high t = λ added. side_grows added env high (λ n. (h n).1) t in
    turned (value env t) (side true env t) (side false env t) r.low r.high (side true low t) (side true high t) (side false high t) (side false low t) turn
    (read env t) (value_lt env t) z (above true) (below true) (above false) (below false) least most small
