-- The next address by its control bits (chapter 4): the fields Addr and JAM, N and Z, and MBR.
use Rattle.std.specs.Prelude.{ℕ, ◌+◌, ◌/◌, ◌%◌, ◌==◌, Bool, ◌||◌, ◌&&◌, if◌then◌else◌, bit_or}

-- with JMPC the low bits are those of Addr OR MBR
abbrev pub low_bits : ℕ → ℕ → ℕ → ℕ
low_bits addr jam mbr = if jam / 4 % 2 == 1 then bit_or (addr % 256) mbr else addr % 256

-- Addr[8] OR (JAMN AND N) OR (JAMZ AND Z)
abbrev pub high_bit : ℕ → ℕ → Bool → Bool → Bool
high_bit addr jam n z = (addr / 256 % 2 == 1) || ((jam / 2 % 2 == 1) && n) || ((jam % 2 == 1) && z)

abbrev pub jammed : ℕ → ℕ → Bool → Bool → ℕ → ℕ
jammed addr jam n z mbr = if high_bit addr jam n z then low_bits addr jam mbr + 256 else low_bits addr jam mbr
