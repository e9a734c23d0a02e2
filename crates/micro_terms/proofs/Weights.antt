-- The weight of a list of parts after each change of it.
use Rattle.micro_terms.proofs.Common.{◌≡◌, ℕ, ◌+◌, ◌*◌, ◌%◌, ◌<◌, ◌≤◌, List, [], ◌∷◌, ◌++◌, length, take, take_all, get_or, set, refl, sym, ap, ◌∙◌, arith}
use Rattle.micro_terms.proofs.Common.{mul-add, mul_comm, zero-mul, mul-mod_first, sum_by_push, sum_by_more, sum_by-set, sum_by-remove, sum_by-insert, insert}
use Rattle.micro_terms.proofs.Common.{remove, wrap, Term, Part, weight, value}
use Rattle.micro_terms.proofs.Modular.{sums, scale, add, cut_second, wrap_wrap, wrap_lt, exchanged}

-- one part's weight
abbrev pub part_weight : (ℕ → ℕ) → Part → ℕ
part_weight env p = p.coefficient * env p.number

-- one part more on the right side of a product
more : (env : ℕ → ℕ) (k : ℕ) (ps : List Part) (i : ℕ) (d : Part) → i < length ps
    → k * weight env (take (i + 1) ps) ≡ k * weight env (take i ps) + k * part_weight env (get_or ps i d)
more env k ps i d h = ap (λ n. k * n) (sum_by_more (part_weight env) ps i d h) ∙ mul-add k (weight env (take i ps)) (part_weight env (get_or ps i d))

-- a part multiplied and appended
pub times_push : (env : ℕ → ℕ) (k : ℕ) (out ps : List Part) (i : ℕ) (d p : Part) → i < length ps
    → wrap (weight env out) ≡ wrap (k * weight env (take i ps))
    → p.coefficient ≡ wrap ((get_or ps i d).coefficient * k) → p.number ≡ (get_or ps i d).number
    → wrap (weight env (out ++ p ∷ [])) ≡ wrap (k * weight env (take (i + 1) ps))
times_push env k out ps i d p h e c a =
    let q : Part = get_or ps i d in
    let here : wrap (part_weight env p) ≡ wrap (k * part_weight env q) =
    ap (λ n. wrap (n * env p.number)) c ∙ (ap (λ n. wrap (wrap (q.coefficient * k) * env n)) a ∙ scale k q.coefficient (env q.number)) in
    ap wrap (sum_by_push (part_weight env) out p)
    ∙ (sums (weight env out) (k * weight env (take i ps)) (part_weight env p) (k * part_weight env q) e here
    ∙ ap wrap (sym (more env k ps i d h)))

-- a part that is gone when multiplied
pub times_skip : (env : ℕ → ℕ) (k : ℕ) (out ps : List Part) (i : ℕ) (d : Part) → i < length ps
    → wrap (weight env out) ≡ wrap (k * weight env (take i ps))
    → wrap ((get_or ps i d).coefficient * k) ≡ 0
    → wrap (weight env out) ≡ wrap (k * weight env (take (i + 1) ps))
times_skip env k out ps i d h e c =
    let q : Part = get_or ps i d in
    let here : wrap 0 ≡ wrap (k * part_weight env q) =
    ap wrap (sym (zero-mul (env q.number))) ∙ (ap (λ n. wrap (n * env q.number)) (sym c) ∙ scale k q.coefficient (env q.number)) in
    let step : wrap (weight env out + 0) ≡ wrap (k * weight env (take i ps) + k * part_weight env q) =
    sums (weight env out) (k * weight env (take i ps)) 0 (k * part_weight env q) e here in
    let left : weight env out + 0 ≡ weight env out = omega arith in
    ap wrap (sym left) ∙ (step ∙ ap wrap (sym (more env k ps i d h)))

-- a whole term multiplied
pub times_whole : (env : ℕ → ℕ) (k c : ℕ) (out ps qs : List Part) (i : ℕ) → length ps ≤ i → ps ≡ qs
    → wrap (weight env out) ≡ wrap (k * weight env (take i ps))
    → wrap (wrap (c * k) + weight env out) ≡ wrap (k * wrap (c + weight env qs))
times_whole env k c out ps qs i h same e =
    let all : take i ps ≡ qs = take_all i ps h ∙ same in
    let kc : wrap (wrap (c * k)) ≡ wrap (k * c) = wrap_wrap (c * k) ∙ ap wrap (mul_comm c k) in
    sums (wrap (c * k)) (k * c) (weight env out) (k * weight env qs) kc (e ∙ ap (λ ps. wrap (k * weight env ps)) all)
    ∙ (ap wrap (sym (mul-add k c (weight env qs))) ∙ sym (cut_second k (c + weight env qs)))

-- two multiples of one word in one
joined : (env : ℕ → ℕ) (q p : Part) → q.number ≡ p.number → wrap (wrap (q.coefficient + p.coefficient) * env p.number) ≡ wrap (part_weight env q + part_weight env p)
joined env q p same = add q.coefficient p.coefficient (env p.number) ∙ ap (λ a. wrap (q.coefficient * env a + part_weight env p)) (sym same)

pub after_set : (env : ℕ → ℕ) (ps : List Part) (i : ℕ) (d p y : Part) → i < length ps → (get_or ps i d).number ≡ p.number
    → y.coefficient ≡ wrap ((get_or ps i d).coefficient + p.coefficient) → y.number ≡ p.number
    → wrap (weight env (set ps i y)) ≡ wrap (weight env ps + part_weight env p)
after_set env ps i d p y h same c a =
    let q : Part = get_or ps i d in
    exchanged (weight env (set ps i y)) (weight env ps) (part_weight env q) (part_weight env y) (part_weight env p)
    (sum_by-set (part_weight env) ps i y d h)
    (ap (λ n. wrap (n * env y.number)) c ∙ (ap (λ n. wrap (wrap (q.coefficient + p.coefficient) * env n)) a ∙ joined env q p same))

pub after_remove : (env : ℕ → ℕ) (ps : List Part) (i : ℕ) (d p : Part) → i < length ps → (get_or ps i d).number ≡ p.number
    → wrap ((get_or ps i d).coefficient + p.coefficient) ≡ 0
    → wrap (weight env (remove ps i)) ≡ wrap (weight env ps + part_weight env p)
after_remove env ps i d p h same z =
    let q : Part = get_or ps i d in
    let gone : wrap 0 ≡ wrap (part_weight env q + part_weight env p) =
    ap wrap (sym (zero-mul (env p.number))) ∙ (ap (λ n. wrap (n * env p.number)) (sym z) ∙ joined env q p same) in
    let e : weight env (remove ps i) + part_weight env q ≡ weight env ps = sum_by-remove (part_weight env) ps i d h in
    exchanged (weight env (remove ps i)) (weight env ps) (part_weight env q) 0 (part_weight env p) (omega (arith, e)) gone

pub after_insert : (env : ℕ → ℕ) (ps : List Part) (i : ℕ) (p : Part) → wrap (weight env (insert ps i p)) ≡ wrap (weight env ps + part_weight env p)
after_insert env ps i p = ap wrap (sum_by-insert (part_weight env) ps i p)

pub value_lt : (env : ℕ → ℕ) (t : Term) → value env t < 4294967296
unfolding value
value_lt env t = wrap_lt (t.constant + weight env t.parts.items)

pub no_parts : (ps : List Part) → length ps ≡ 0 → ps ≡ []
no_parts [] h = refl
no_parts (p ∷ ps) h = absurd (omega (arith, h))

both_multiples : (a b : ℕ) → a % 256 ≡ 0 → b % 256 ≡ 0 → (a + b) % 256 ≡ 0
both_multiples a b p q = omega (arith, p, q)

-- one part more whose coefficient is a multiple of 256
pub multiples_push : (env : ℕ → ℕ) (ps : List Part) (i : ℕ) (d : Part) → i < length ps
    → weight env (take i ps) % 256 ≡ 0
    → (get_or ps i d).coefficient % 256 ≡ 0
    → weight env (take (i + 1) ps) % 256 ≡ 0
multiples_push env ps i d h before m =
    let q : Part = get_or ps i d in
    let x = env q.number in
    let part : (q.coefficient * x) % 256 ≡ 0 = sym (mul-mod_first q.coefficient x 256)
    ∙ (ap (λ c. (c * x) % 256) m ∙ ap (λ n. n % 256) (zero-mul x)) in
    ap (λ n. n % 256) (sum_by_more (part_weight env) ps i d h)
    ∙ both_multiples (weight env (take i ps)) (q.coefficient * x) before part
