-- A control line on each bit of a word.
use Rattle.mic_alu.proofs.Common.{◌≡◌, ℕ, ◌%◌, ◌^◌, ◌<◌, Bool, true, false, ◌∙◌, arith, bit_and, and_mask, enabled}

-- what a line lets through
pub through : (on : Bool) (x : ℕ) → x < 2 ^ 32 → bit_and x (enabled on 4294967295) ≡ enabled on x
through true x h = let all : x % 2 ^ 32 ≡ x = omega arith in and_mask x 32 ∙ all
through false x h = let none : x % 2 ^ 0 ≡ 0 = omega arith in and_mask x 0 ∙ none
