-- C loads exactly the registers whose words are named.
use Rattle.mal_line.proofs.Common.{◌≡◌, ℕ, zero, suc, ◌<◌, List, [], ◌∷◌, IsTrue, Contains, refl, sym, ap, subst, ◌∙◌, arith, inl, inr, ◌⊎◌, bit_or, max}
use Rattle.mal_line.proofs.Common.{bit_at, bit_at_or, bit_at-lt, or_lt, nat_tests, Destination, loads, register_bit, Word}
use Rattle.micro_word.specs.declared.destination.Destination.TheVariants as registers
use Rattle.mal_tokens.specs.declared.word.Word.TheVariants as words
use Rattle.mal_line.specs.Prelude.{bit, dest_bits, LoadsNamed, register_word}

-- ---- the number of a register's bit

place : Destination → ℕ
place registers.H = 8
place registers.Opc = 7
place registers.Tos = 6
place registers.Cpp = 5
place registers.Lv = 4
place registers.Sp = 3
place registers.Pc = 2
place registers.Mdr = 1
place registers.Mar = 0

loads_at : (c : ℕ) (r : Destination) → IsTrue (loads c r) → bit_at c (place r) ≡ 1
unfolding place
loads_at c registers.H h = grind (arith, nat_tests)
loads_at c _ h = grind (arith, nat_tests)

at_loads : (c : ℕ) (r : Destination) → bit_at c (place r) ≡ 1 → IsTrue (loads c r)
unfolding place
at_loads c registers.H h = grind (arith, nat_tests)
at_loads c _ h = grind (arith, nat_tests)

one_of : (x y : ℕ) → x < 2 → y < 2 → max x y ≡ 1 → (x ≡ 1) ⊎ (y ≡ 1)
one_of zero zero p q h = absurd (cc)
one_of zero (suc zero) p q h = inr refl
one_of zero (suc (suc n)) p q h = absurd (omega arith)
one_of (suc zero) y p q h = inl refl
one_of (suc (suc n)) y p q h = absurd (omega arith)

or_split : (a b : ℕ) (r : Destination) → IsTrue (loads (bit_or a b) r) → IsTrue (loads a r) ⊎ IsTrue (loads b r)
or_split a b r h = elim (one_of (bit_at a (place r)) (bit_at b (place r)) (bit_at-lt a (place r)) (bit_at-lt b (place r)) (sym (bit_at_or a b (place r)) ∙ loads_at (bit_or a b) r h)) [
  | inl e ↦ inl (at_loads a r e)
  | inr e ↦ inr (at_loads b r e)
]

max_left : (x y : ℕ) → x ≡ 1 → y < 2 → max x y ≡ 1
max_left x zero e h = ap (λ n. max n zero) e
max_left x (suc zero) e h = ap (λ n. max n 1) e
max_left x (suc (suc n)) e h = absurd (omega arith)

max_right : (x y : ℕ) → y ≡ 1 → x < 2 → max x y ≡ 1
max_right zero y e h = ap (max 0) e
max_right (suc zero) y e h = ap (max 1) e
max_right (suc (suc n)) y e h = absurd (omega arith)

or_left : (a b : ℕ) (r : Destination) → IsTrue (loads a r) → IsTrue (loads (bit_or a b) r)
or_left a b r h = at_loads (bit_or a b) r (bit_at_or a b (place r) ∙ max_left (bit_at a (place r)) (bit_at b (place r)) (loads_at a r h) (bit_at-lt b (place r)))

or_right : (a b : ℕ) (r : Destination) → IsTrue (loads b r) → IsTrue (loads (bit_or a b) r)
or_right a b r h = at_loads (bit_or a b) r (bit_at_or a b (place r) ∙ max_right (bit_at a (place r)) (bit_at b (place r)) (loads_at b r h) (bit_at-lt a (place r)))

-- ---- one word

same_register : (q r : Destination) → IsTrue (loads (register_bit q) r) → q ≡ r
same_register registers.H registers.H h = refl
same_register registers.Opc registers.Opc h = refl
same_register registers.Tos registers.Tos h = refl
same_register registers.Cpp registers.Cpp h = refl
same_register registers.Lv registers.Lv h = refl
same_register registers.Sp registers.Sp h = refl
same_register registers.Pc registers.Pc h = refl
same_register registers.Mdr registers.Mdr h = refl
same_register registers.Mar registers.Mar h = refl
same_register _ _ h = absurd (cc)

own_bit : (r : Destination) → IsTrue (loads (bit (register_word r)) r)
own_bit registers.H = refl
own_bit _ = refl

no_bit : (r : Destination) → IsTrue (loads 0 r) → ⊥
no_bit registers.H h = cc
no_bit _ h = cc

-- the word whose bit loads a register is the register's
loading_word : (w : Word) (r : Destination) → IsTrue (loads (bit w) r) → w ≡ register_word r
loading_word words.H r h = ap register_word (same_register registers.H r h)
loading_word words.Opc r h = ap register_word (same_register registers.Opc r h)
loading_word words.Tos r h = ap register_word (same_register registers.Tos r h)
loading_word words.Cpp r h = ap register_word (same_register registers.Cpp r h)
loading_word words.Lv r h = ap register_word (same_register registers.Lv r h)
loading_word words.Sp r h = ap register_word (same_register registers.Sp r h)
loading_word words.Pc r h = ap register_word (same_register registers.Pc r h)
loading_word words.Mdr r h = ap register_word (same_register registers.Mdr r h)
loading_word words.Mar r h = ap register_word (same_register registers.Mar r h)
loading_word _ r h = absurd (no_bit r h)

bit_lt : (w : Word) → bit w < 512
bit_lt words.H = omega arith
bit_lt words.Opc = omega arith
bit_lt words.Tos = omega arith
bit_lt words.Cpp = omega arith
bit_lt words.Lv = omega arith
bit_lt words.Sp = omega arith
bit_lt words.Pc = omega arith
bit_lt words.Mdr = omega arith
bit_lt words.Mar = omega arith
bit_lt _ = omega arith

-- ---- all words

pub dest_bits-lt : (ds : List Word) (n : ℕ) → n < 512 → dest_bits n ds < 512
dest_bits-lt [] n h = h
dest_bits-lt (d ∷ ds) n h = dest_bits-lt ds (bit_or n (bit d)) (or_lt 9 n (bit d) h (bit_lt d))

after : (d : Word) (ds : List Word) (w : Word) → Contains ds w → Contains (d ∷ ds) w
after d ds w (k, lt, e) = (suc k, omega arith, e)

named_by : (ds : List Word) (n : ℕ) (r : Destination) → IsTrue (loads (dest_bits n ds) r) → IsTrue (loads n r) ⊎ Contains ds (register_word r)
named_by [] n r h = inl h
named_by (d ∷ ds) n r h = elim (named_by ds (bit_or n (bit d)) r h) [
  | inl k ↦ elim (or_split n (bit d) r k) [
    | inl a ↦ inl a
    | inr b ↦ inr (zero, omega arith, loading_word d r b)
  ]
  | inr c ↦ inr (after d ds (register_word r) c)
]

kept : (ds : List Word) (n : ℕ) (r : Destination) → IsTrue (loads n r) → IsTrue (loads (dest_bits n ds) r)
kept [] n r h = h
kept (d ∷ ds) n r h = kept ds (bit_or n (bit d)) r (or_left n (bit d) r h)

loaded_by : (ds : List Word) (n : ℕ) (r : Destination) → Contains ds (register_word r) → IsTrue (loads (dest_bits n ds) r)
loaded_by [] n r (k, lt, e) = absurd (omega arith)
loaded_by (d ∷ ds) n r (zero, lt, e) = kept ds (bit_or n (bit d)) r (or_right n (bit d) r (subst (λ w. IsTrue (loads (bit w) r)) (sym e) (own_bit r)))
loaded_by (d ∷ ds) n r (suc k, lt, e) = loaded_by ds (bit_or n (bit d)) r (k, omega arith, e)

pub loads_named : (ds : List Word) → LoadsNamed (dest_bits 0 ds) ds
loads_named ds = record { within = dest_bits-lt ds 0 (omega arith); each = λ r. (λ h. named_only r (named_by ds 0 r h), loaded_by ds 0 r) }
  where
    named_only : (r : Destination) → IsTrue (loads 0 r) ⊎ Contains ds (register_word r) → Contains ds (register_word r)
    named_only r (inl h) = absurd (no_bit r h)
    named_only r (inr c) = c
