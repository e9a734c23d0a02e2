-- Sums and products modulo 2^32.
use Rattle.micro_terms.proofs.Common.{◌≡◌, ℕ, ◌+◌, ◌-◌, ◌*◌, ◌<◌, ◌%◌, refl, ap, ◌∙◌, arith, mul_comm, mul_assoc, add-mul, mul-mod_first, mul-mod_second, wrap}

-- a factor may be cut to a word
pub cut_first : (a x : ℕ) → wrap (wrap a * x) ≡ wrap (a * x)
unfolding wrap
cut_first a x = mul-mod_first a x 4294967296

pub cut_second : (k a : ℕ) → wrap (k * wrap a) ≡ wrap (k * a)
unfolding wrap
cut_second k a = mul-mod_second k a 4294967296

-- sums of what is one modulo 2^32
pub sums : (a b c d : ℕ) → wrap a ≡ wrap b → wrap c ≡ wrap d → wrap (a + c) ≡ wrap (b + d)
unfolding wrap
sums a b c d p q = omega arith

pub wrap_word : (a : ℕ) → a < 4294967296 → wrap a ≡ a
unfolding wrap
wrap_word a h = omega arith

pub wrap_wrap : (a : ℕ) → wrap (wrap a) ≡ wrap a
unfolding wrap
wrap_wrap a = omega arith

-- scale: a coefficient that was multiplied
pub scale : (k c x : ℕ) → wrap (wrap (c * k) * x) ≡ wrap (k * (c * x))
scale k c x = cut_first (c * k) x ∙ ap wrap (ap (λ n. n * x) (mul_comm c k) ∙ mul_assoc k c x)

-- add: two coefficients of one word
pub add : (c d x : ℕ) → wrap (wrap (c + d) * x) ≡ wrap (c * x + d * x)
add c d x = cut_first (c + d) x ∙ ap wrap (add-mul c d x)

-- a product as the code has it
pub is_wrap : (a : ℕ) → a % 4294967296 ≡ wrap a
unfolding wrap
is_wrap a = refl

-- a word taken 2^32 - 1 times
pub negated : (x : ℕ) → x < 4294967296 → wrap (4294967295 * x) ≡ wrap (0 + (4294967296 - x))
unfolding wrap
negated x h = omega arith

pub wrap_lt : (a : ℕ) → wrap a < 4294967296
unfolding wrap
wrap_lt a = omega arith

-- a constant before a weight that has grown by x
pub grown : (c a b x : ℕ) → wrap a ≡ wrap (b + x) → wrap (c + a) ≡ wrap (wrap (c + b) + x)
unfolding wrap
grown c a b x e = omega arith

pub plus_constant : (c w a : ℕ) → wrap (wrap (c + w) + a) ≡ wrap (wrap (c + a) + w)
unfolding wrap
plus_constant c w a = omega arith

pub turned : (x : ℕ) → x < 4294967296 → wrap (wrap (0 + (4294967296 - x)) + 4294967295) ≡ 4294967295 - x
unfolding wrap
turned x h = omega arith

pub less : (x y : ℕ) → y < 4294967296 → wrap (x + wrap (0 + (4294967296 - y))) ≡ wrap (x + (4294967296 - y))
unfolding wrap
less x y h = omega arith

-- a weight in which a summand y has come for x, and y is x + z modulo 2^32
pub exchanged : (a w x y z : ℕ) → a + x ≡ w + y → wrap y ≡ wrap (x + z) → wrap a ≡ wrap (w + z)
unfolding wrap
exchanged a w x y z e f = omega arith

-- the sum of two cut sums
pub both : (a b x y : ℕ) → wrap (wrap (wrap (a + b) + x) + y) ≡ wrap (wrap (a + x) + wrap (b + y))
unfolding wrap
both a b x y = omega arith

pub one_more : (v a x : ℕ) → wrap (wrap (v + a) + x) ≡ wrap (v + (a + x))
unfolding wrap
one_more v a x = omega arith

pub no_difference : (x y : ℕ) → y < 4294967296 → x ≡ y → wrap (x + (4294967296 - y)) ≡ 0
unfolding wrap
no_difference x y h e = omega arith

pub wrap_once : (a : ℕ) → a < 4294967296 → wrap (0 + (0 + 1 * a)) ≡ a
unfolding wrap
wrap_once a h = omega arith

pub sum_inc : (x y : ℕ) → wrap (wrap (x + y) + 1) ≡ wrap (x + y + 1)
unfolding wrap
sum_inc x y = omega arith
