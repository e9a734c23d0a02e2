-- The bytes of an instruction, as a machine meets them: the opcode, and what the bytes after it say of the operands, where a signed one is a word.
use Rattle.std.specs.Prelude.{◌≡◌, ◌⊎◌, ℕ, ◌+◌, ◌*◌}
use Rattle.ijvm_simulation.specs.Common.{signed_byte, signed_pair, Instr, word_of}
use Rattle.ijvm_instr.specs.declared.instr.Instr.TheVariants.{Nop, Bipush, LdcW, Iload, Istore, Pop, Dup, Swap, Iadd, Isub, Iand, Iinc, Ifeq, Iflt, IfIcmpeq, Goto, Ireturn, Ior, Invokevirtual, WideIload, WideIstore, WideIinc, In, Out, Err, Halt}

-- the six bytes from an opcode on, of which an instruction may have fewer
abbrev pub Reads : ℕ → ℕ → ℕ → ℕ → ℕ → ℕ → Instr → Type 0
Reads a b c d e f Nop = a ≡ 0x00
Reads a b c d e f (Bipush z) = (a ≡ 0x10) × (word_of z ≡ signed_byte b)
Reads a b c d e f (LdcW k) = (a ≡ 0x13) × (k ≡ 256 * b + c)
Reads a b c d e f (Iload k) = (a ≡ 0x15) × (k ≡ b)
Reads a b c d e f (Istore k) = (a ≡ 0x36) × (k ≡ b)
Reads a b c d e f Pop = a ≡ 0x57
Reads a b c d e f Dup = a ≡ 0x59
Reads a b c d e f Swap = a ≡ 0x5F
Reads a b c d e f Iadd = a ≡ 0x60
Reads a b c d e f Isub = a ≡ 0x64
Reads a b c d e f Iand = a ≡ 0x7E
Reads a b c d e f (Iinc k z) = (a ≡ 0x84) × (k ≡ b) × (word_of z ≡ signed_byte c)
Reads a b c d e f (Ifeq z) = (a ≡ 0x99) × (word_of z ≡ signed_pair b c)
Reads a b c d e f (Iflt z) = (a ≡ 0x9B) × (word_of z ≡ signed_pair b c)
Reads a b c d e f (IfIcmpeq z) = (a ≡ 0x9F) × (word_of z ≡ signed_pair b c)
Reads a b c d e f (Goto z) = (a ≡ 0xA7) × (word_of z ≡ signed_pair b c)
Reads a b c d e f Ireturn = a ≡ 0xAC
Reads a b c d e f Ior = (a ≡ 0xB0) ⊎ (a ≡ 0x80)
Reads a b c d e f (Invokevirtual k) = (a ≡ 0xB6) × (k ≡ 256 * b + c)
Reads a b c d e f (WideIload k) = (a ≡ 0xC4) × (b ≡ 0x15) × (k ≡ 256 * c + d)
Reads a b c d e f (WideIstore k) = (a ≡ 0xC4) × (b ≡ 0x36) × (k ≡ 256 * c + d)
Reads a b c d e f (WideIinc k z) = (a ≡ 0xC4) × (b ≡ 0x84) × (k ≡ 256 * c + d) × (word_of z ≡ signed_pair e f)
Reads a b c d e f In = a ≡ 0xFC
Reads a b c d e f Out = a ≡ 0xFD
Reads a b c d e f Err = a ≡ 0xFE
Reads a b c d e f Halt = a ≡ 0xFF
