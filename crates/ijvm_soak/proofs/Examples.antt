-- Generated programs, byte by byte.
use Rattle.std.proofs.Common.{◌≡◌, ◌∷◌, [], refl}
use Rattle.ijvm_soak.specs.Prelude.{generated}

-- a block of each kind
five : generated 0 5 ≡ record {
  text =
      0x10 ∷ 0 ∷ 0x15 ∷ 0 ∷ 0x60 ∷ 0x36 ∷ 0 ∷ 0x84 ∷ 0 ∷ 3 ∷ 0x15 ∷ 0 ∷ 0x10 ∷ 6 ∷ 0x64 ∷ 0x36 ∷ 0
      ∷ 0x13 ∷ 0 ∷ 0 ∷ 0x15 ∷ 0 ∷ 0xB6 ∷ 0 ∷ 1 ∷ 0x36 ∷ 0 ∷ 0x15 ∷ 0 ∷ 0x9B ∷ 0 ∷ 6 ∷ 0x84 ∷ 0 ∷ 1 ∷ 0x15 ∷ 0 ∷ 0xFF
      ∷ 0 ∷ 2 ∷ 0 ∷ 0 ∷ 0x15 ∷ 1 ∷ 0x10 ∷ 1 ∷ 0x60 ∷ 0xAC ∷ [];
  pool = 0 ∷ 38 ∷ [];
}
unfolding generated
five = refl

-- the largest seed: no sum wraps
largest : generated 4294967295 2 ≡ record {
  text =
      0x10 ∷ 95 ∷ 0x15 ∷ 0 ∷ 0x60 ∷ 0x36 ∷ 0 ∷ 0x84 ∷ 0 ∷ 98 ∷ 0x15 ∷ 0 ∷ 0xFF
      ∷ 0 ∷ 2 ∷ 0 ∷ 0 ∷ 0x15 ∷ 1 ∷ 0x10 ∷ 1 ∷ 0x60 ∷ 0xAC ∷ [];
  pool = 0 ∷ 13 ∷ [];
}
unfolding generated
largest = refl
