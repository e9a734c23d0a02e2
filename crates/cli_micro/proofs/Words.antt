-- How many digits a canonical word has.
use Rattle.cli_micro.proofs.Common.{ℕ, Bool, true, false, ◌&&◌, ◌^◌, ◌<◌, nat_lt, IsTrue, refl, arith, nat_tests, Machine, Mic1, Mic2, word_digits}
use Rattle.micro_word.specs.Prelude.{are_canonical, is_canonical, word_end, fields_of}

first_holds : (a b : Bool) → IsTrue (a && b) → IsTrue a
first_holds true b h = refl
first_holds false b h = cc

is_short : (machine : Machine) (word : ℕ) → IsTrue (is_canonical machine word) → IsTrue (nat_lt word (word_end machine))
unfolding is_canonical
is_short machine word h = first_holds (nat_lt word (word_end machine)) (are_canonical machine (fields_of machine word)) h

end_holds : (word end : ℕ) → IsTrue (nat_lt word end) → word < end
end_holds word end h = grind (arith, nat_tests)

-- 36 bits are 9 digits, and 39 bits are fewer than 10
pub word_fits : (machine : Machine) (word : ℕ) → IsTrue (is_canonical machine word) → word < 16 ^ word_digits machine
word_fits Mic1 word h = let small : word < 2 ^ 36 = end_holds word (2 ^ 36) (is_short Mic1 word h) in omega (arith, small)
word_fits Mic2 word h = let small : word < 2 ^ 39 = end_holds word (2 ^ 39) (is_short Mic2 word h) in omega (arith, small)
