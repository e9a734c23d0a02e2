-- Two bytes and their number, the bytes of a text, and how long an instruction is at least.
use Rattle.std.proofs.Common.{◌≡◌, ◌<◌, ◌≤◌, ℕ, zero, suc, All, ◌+◌, ◌*◌, ◌/◌, ◌%◌, List, [], ◌∷◌, slice_index, arith}
use Rattle.ijvm_instr.specs.declared.instr.Instr.{Instr}
use Rattle.ijvm_instr.specs.declared.instr.Instr.TheVariants.{Nop}
use Rattle.ijvm_instr.specs.Instructions.{row_of, size_of}

-- two bytes are those of their number
pub high : (b c : ℕ) → c < 256 → (256 * b + c) / 256 ≡ b
high b c h = omega arith

pub low : (b c : ℕ) → c < 256 → (256 * b + c) % 256 ≡ c
low b c h = omega arith

-- a number of two bytes is made of them
pub whole_half : (n : ℕ) → 256 * (n / 256) + n % 256 ≡ n
whole_half n = omega arith

pub byte_below : (text : List ℕ) (k : ℕ) → All (λ (b : ℕ). b < 256) text → slice_index text k < 256
byte_below [] k h = omega arith
byte_below (x ∷ xs) zero h = h 0 0 (omega arith)
byte_below (x ∷ xs) (suc k) h = byte_below xs k (λ j d below. h (suc j) d (omega arith))

pub size_least : (i : Instr) → 1 ≤ size_of (row_of i)
size_least Nop = omega arith
size_least _ = omega arith
