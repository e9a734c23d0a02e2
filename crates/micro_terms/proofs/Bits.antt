-- The bits that two words share, and the bits that either has.
use Rattle.micro_terms.proofs.Common.{◌≡◌, ℕ, ◌+◌, ◌-◌, ◌<◌, ◌%◌, ◌∙◌, ap, sym, arith, bit_and, bit_or, and_self, and_zero_l, or_add_and, wrap, and_assoc}
use Rattle.micro_terms.proofs.Common.{and_comm, and_mask, and-not, and_le_l, or_of_32}

pub and_all : (x : ℕ) → x < 4294967296 → bit_and 4294967295 x ≡ x
and_all x h = and_comm 4294967295 x ∙ (and_mask x 32 ∙ (let e : x % 4294967296 ≡ x = omega arith in e))

-- what NOT x and x share with n is n
and_turned : (x n : ℕ) → x < 4294967296 → n < 4294967296 → bit_and (4294967295 - x) n + bit_and x n ≡ n
and_turned x n h k = and-not 32 x n h k

pub and_inverted : (x : ℕ) → x < 4294967296 → bit_and x (4294967295 - x) ≡ 0
and_inverted x h =
    let e = and_turned x x h h in
    let s = and_self x in
    and_comm x (4294967295 - x) ∙ (let z : bit_and (4294967295 - x) x ≡ 0 = omega (arith, e, s) in z)

-- a sum less what both words have is what either has
pub or_is : (x y : ℕ) → x < 4294967296 → y < 4294967296 → wrap (wrap (x + y) + (4294967296 - bit_and x y)) ≡ bit_or x y
unfolding wrap
or_is x y h k =
    let e = or_add_and x y in
    let l = or_of_32 x y h k in
    let m = and_le_l x y in
    omega (arith, e, l, m)

-- what y does not share with NOT x it shares with x
pub and_rest : (x y : ℕ) → x < 4294967296 → y < 4294967296 → wrap (y + (4294967296 - bit_and (4294967295 - x) y)) ≡ bit_and x y
unfolding wrap
and_rest x y h k =
    let e = and_turned x y h k in
    let l = and_le_l x y in
    omega (arith, e, h, k, l)

pub and_rest_right : (x y : ℕ) → x < 4294967296 → y < 4294967296 → wrap (x + (4294967296 - bit_and x (4294967295 - y))) ≡ bit_and x y
and_rest_right x y h k =
    ap (λ w. wrap (x + (4294967296 - w))) (and_comm x (4294967295 - y)) ∙ (and_rest y x k h ∙ and_comm y x)

-- a byte shares nothing with a word whose low byte is 0
pub and_apart : (x y : ℕ) → x % 256 ≡ 0 → y < 256 → bit_and x y ≡ 0
and_apart x y low byte =
    let own : bit_and 255 y ≡ y = and_comm 255 y ∙ (and_mask y 8 ∙ (let e : y % 256 ≡ y = omega (arith, byte) in e)) in
    ap (λ w. bit_and x w) (sym own)
    ∙ (sym (and_assoc y x 255)
    ∙ (ap (λ w. bit_and w y) (and_mask x 8 ∙ low) ∙ and_zero_l y))
