-- Signed operands of one byte and of two, as words.
use Rattle.ijvm_simulation.proofs.Common.{◌≡◌, ℕ, suc, ◌+◌, ◌-◌, ◌*◌, ◌<◌, ◌≤◌, Bool, true, false, refl, arith, nat_lt, if◌then◌else◌, pos, negsuc, w8, w16}
use Rattle.ijvm_simulation.proofs.Common.{cast_signed, sel, nat_tests, signed_byte, signed_pair, word_of}

-- a signed byte is the same word for both
pub byte_word : (x : ℕ) → x < 256 → word_of (cast_signed w8 x) ≡ signed_byte x
unfolding signed_byte
byte_word x h = by_test (nat_lt x 128) refl
  where
    by_test : (t : Bool) → nat_lt x 128 ≡ t → word_of (sel t (pos x) (negsuc (256 - suc x))) ≡ (if t then x else x + 4294967040)
    by_test true e = refl
    by_test false e = let l : 128 ≤ x = grind (arith, nat_tests) in omega arith

-- a signed number of two bytes is the same word for both
pub half_word : (a b : ℕ) → a < 256 → b < 256 → word_of (cast_signed w16 (256 * a + b)) ≡ signed_pair a b
unfolding signed_pair
half_word a b la lb = by_tests (nat_lt (256 * a + b) 32768) (nat_lt a 128) refl refl
  where
    by_tests : (t u : Bool) → nat_lt (256 * a + b) 32768 ≡ t → nat_lt a 128 ≡ u →
        word_of (sel t (pos (256 * a + b)) (negsuc (65536 - suc (256 * a + b)))) ≡ (if u then 256 * a + b else 256 * a + b + 4294901760)
    by_tests true true e f = refl
    by_tests false false e f = let l : 32768 ≤ 256 * a + b = grind (arith, nat_tests) in omega arith
    by_tests true false e f = absurd (let l : 256 * a + b < 32768 = grind (arith, nat_tests) in let n : 128 ≤ a = grind (arith, nat_tests) in omega arith)
    by_tests false true e f = absurd (let l : 32768 ≤ 256 * a + b = grind (arith, nat_tests) in let n : a < 128 = grind (arith, nat_tests) in omega arith)
