-- Lemmas: how many bytes the decimal digits of a number are at most.
use Rattle.std.proofs.Common.{◌^◌, ◌<◌, ◌≤◌, ℕ, ℤ, pos, negsuc, suc, length, arith, FitsSigned, w64}
use Rattle.std.proofs.lemmas.Fmt.{length-decimal-le}
use Rattle.std.proofs.lemmas.Int.{ints}
use Rattle.std.specs.Fmt.{decimal, signed_decimal}

-- a number of 64 bits has at most 20 decimal digits
pub decimal_short : (n : ℕ) → n < 2 ^ 64 → length (decimal n) ≤ 20
decimal_short n small = length-decimal-le 20 n (omega arith) (omega arith) small

-- a signed number of 64 bits has, with its sign, at most 20 bytes
pub signed_decimal_short : (z : ℤ) → FitsSigned w64 z → length (signed_decimal z) ≤ 20
signed_decimal_short (pos n) fits = decimal_short n (omega (arith, ints, fits))
signed_decimal_short (negsuc n) fits =
    let short = length-decimal-le 19 (suc n) (omega arith) (omega (arith, ints, fits)) (omega (arith, ints, fits)) in
    omega (arith, short)

pub ruleset decimal_lengths = (decimal_short, signed_decimal_short)
