-- The instruction table: chapter 4 of the book, with this profile's codes for IN, OUT, ERR and HALT, and each machine's cycles.
use Rattle.std.specs.Prelude.{◌≡◌, ◌≤◌, ◌<◌, ◌⊎◌, FitsSigned, ℕ, ℤ, ◌+◌, ◌*◌, ◌/◌, ◌%◌, Bool, true, false, if◌then◌else◌, nat_le, ◌==◌, List, [], ◌∷◌, ◌++◌, length, slice_index, Option, Some, None, codes}
use Rattle.std.specs.Int.{w8, w16, w32, cast_signed, cast_unsigned}
use Rattle.mic_words.specs.Prelude.{plus}
use Rattle.ijvm_instr.specs.declared.instr.Instr.{Instr}
use Rattle.ijvm_instr.specs.declared.instr.Instr.TheVariants.{Nop, Bipush, LdcW, Iload, Istore, Pop, Dup, Swap, Iadd, Isub, Iand, Iinc, Ifeq, Iflt, IfIcmpeq, Goto, Ireturn, Ior, Invokevirtual, WideIload, WideIstore, WideIinc, In, Out, Err, Halt}
use Rattle.ijvm_instr.specs.declared.row.Row.{Row}
use Rattle.ijvm_instr.specs.declared.row.Operands.{Operands}
use Rattle.ijvm_instr.specs.declared.row.Operands.TheVariants.{None as NoOperands, Byte, Local, LocalByte, Index, IndexHalf, Offset}
use Rattle.ijvm_instr.specs.declared.row.Flow.TheVariants.{Next, Jump, Branch, Call, Return, End}
use Rattle.ijvm_instr.specs.declared.row.Cost.TheVariants.{Always, IfTaken, ByEntry}

-- a row without operands that goes on to the next instruction: its opcode, what it needs and gives, and its cycles on Mic-1 and Mic-2
abbrev pub plain : ℕ → ℕ → ℕ → ℕ → ℕ → Row
plain opcode needs gives mic1 mic2 =
    record {
      wide = false;
      opcode = opcode;
      operands = NoOperands;
      needs = needs;
      gives = gives;
      flow = Next;
      constant = None;
      reads = None;
      stores = None;
      mic1 = Always mic1;
      mic2 = Always mic2;
    }

-- such a row with the prefix WIDE before its opcode
abbrev pub wide : ℕ → ℕ → ℕ → ℕ → ℕ → Row
wide opcode needs gives mic1 mic2 = record (plain opcode needs gives mic1 mic2) { wide = true }

-- a jump: its opcode, its offset, and its cycles on Mic-1 and Mic-2
abbrev pub jump : ℕ → ℤ → ℕ → ℕ → Row
jump opcode offset mic1 mic2 = record (plain opcode 0 0 mic1 mic2) { operands = Offset offset; flow = Jump offset }

-- a branch: its opcode, what it needs, its offset, and its cycles on Mic-1 and Mic-2, each taken and not
abbrev pub branch : ℕ → ℕ → ℤ → ℕ → ℕ → ℕ → ℕ → Row
branch opcode needs offset taken1 not1 taken2 not2 =
    record (plain opcode needs 0 0 0) { operands = Offset offset; flow = Branch offset; mic1 = IfTaken taken1 not1; mic2 = IfTaken taken2 not2 }

-- a call of a constant's method: its opcode, the constant, its cycles on Mic-1, and on Mic-2 where the entry modulo 4 is not 3 and where it is
abbrev pub call : ℕ → ℕ → ℕ → ℕ → ℕ → Row
call opcode constant cycles1 early2 late2 =
    record (plain opcode 0 1 cycles1 0) { operands = Index constant; flow = Call constant; constant = Some constant; mic2 = ByEntry early2 late2 }

-- The table: mnemonic, opcode, needs, gives, cycles on Mic-1 and on Mic-2; then the operands, where the instruction leads, and what it names.
-- A call also needs its method's parameters.
abbrev pub named_row : Instr → List ℕ × Row
named_row Nop = (codes "NOP", plain 0x00 0 0 2 1)
named_row (Bipush b) = (codes "BIPUSH", record (plain 0x10 0 1 4 2) { operands = Byte b })
named_row (LdcW k) = (codes "LDC_W", record (plain 0x13 0 1 8 3) { operands = Index k; constant = Some k })
named_row (Iload k) = (codes "ILOAD", record (plain 0x15 0 1 6 3) { operands = Local k; reads = Some k })
named_row (Istore k) = (codes "ISTORE", record (plain 0x36 1 0 7 5) { operands = Local k; stores = Some k })
named_row Pop = (codes "POP", plain 0x57 1 0 4 3)
named_row Dup = (codes "DUP", plain 0x59 1 2 3 2)
named_row Swap = (codes "SWAP", plain 0x5F 2 2 7 6)
named_row Iadd = (codes "IADD", plain 0x60 2 1 4 3)
named_row Isub = (codes "ISUB", plain 0x64 2 1 4 3)
named_row Iand = (codes "IAND", plain 0x7E 2 1 4 3)
named_row (Iinc k b) = (codes "IINC", record (plain 0x84 0 0 7 3) { operands = LocalByte k b; reads = Some k })
named_row (Ifeq o) = (codes "IFEQ", branch 0x99 1 o 11 8 8 6)
named_row (Iflt o) = (codes "IFLT", branch 0x9B 1 o 11 8 8 6)
named_row (IfIcmpeq o) = (codes "IF_ICMPEQ", branch 0x9F 2 o 13 10 10 8)
named_row (Goto o) = (codes "GOTO", jump 0xA7 o 7 4)
named_row Ireturn = (codes "IRETURN", record (plain 0xAC 1 0 9 8) { flow = Return })
named_row Ior = (codes "IOR", plain 0xB0 2 1 4 3)
named_row (Invokevirtual k) = (codes "INVOKEVIRTUAL", call 0xB6 k 23 12 13)
named_row (WideIload k) = (codes "WIDE ILOAD", record (wide 0x15 0 1 9 4) { operands = Index k; reads = Some k })
named_row (WideIstore k) = (codes "WIDE ISTORE", record (wide 0x36 1 0 10 6) { operands = Index k; stores = Some k })
named_row (WideIinc k n) = (codes "WIDE IINC", record (wide 0x84 0 0 12 5) { operands = IndexHalf k n; reads = Some k })
named_row In = (codes "IN", plain 0xFC 0 1 6 5)
named_row Out = (codes "OUT", plain 0xFD 1 0 8 7)
named_row Err = (codes "ERR", record (plain 0xFE 0 0 1 0) { flow = End })
named_row Halt = (codes "HALT", record (plain 0xFF 0 0 1 0) { flow = End })

-- the mnemonic, after WIDE where its opcode is
abbrev pub mnemonic_of : Instr → List ℕ
mnemonic_of i = (named_row i).0

abbrev pub row_of : Instr → Row
row_of i = (named_row i).1

-- a signed number as a word
abbrev pub word_of : ℤ → ℕ
word_of z = cast_unsigned w32 z

-- the target of a jump at this address
abbrev pub target : ℕ → ℤ → ℕ
target at o = plus at (word_of o)

-- two bytes, the high one first
abbrev pub two_bytes : ℕ → List ℕ
two_bytes n = n / 256 ∷ n % 256 ∷ []

abbrev pub operand_bytes : Operands → List ℕ
operand_bytes NoOperands = []
operand_bytes (Byte b) = cast_unsigned w8 b ∷ []
operand_bytes (Local k) = k ∷ []
operand_bytes (LocalByte k b) = k ∷ cast_unsigned w8 b ∷ []
operand_bytes (Index k) = two_bytes k
operand_bytes (IndexHalf k n) = two_bytes k ++ two_bytes (cast_unsigned w16 n)
operand_bytes (Offset o) = two_bytes (cast_unsigned w16 o)

-- the local or the constant that they name
abbrev pub operand_index : Operands → Option ℕ
operand_index (Local k) = Some k
operand_index (LocalByte k b) = Some k
operand_index (Index k) = Some k
operand_index (IndexHalf k n) = Some k
operand_index _ = None

-- the operands' numbers are in the ranges of their types
abbrev pub AreInRange : Operands → Type 0
AreInRange NoOperands = Unit {0}
AreInRange (Byte b) = FitsSigned w8 b
AreInRange (Local k) = k < 256
AreInRange (LocalByte k b) = (k < 256) × FitsSigned w8 b
AreInRange (Index k) = k < 65536
AreInRange (IndexHalf k n) = (k < 65536) × FitsSigned w16 n
AreInRange (Offset o) = FitsSigned w16 o

abbrev pub IsInstr : Instr → Type 0
IsInstr i = AreInRange (row_of i).operands

-- the prefix of a row's opcode
abbrev pub prefix : Bool → List ℕ
prefix true = 0xC4 ∷ []
prefix false = []

-- the bytes of a row's instruction
abbrev pub bytes_of : Row → List ℕ
bytes_of r = prefix r.wide ++ r.opcode ∷ operand_bytes r.operands

-- the bytes of an instruction, as they are written
abbrev pub spelling : Instr → List ℕ
spelling i = bytes_of (row_of i)

-- the size of a row's instruction, in bytes
abbrev pub size_of : Row → ℕ
size_of r = length (bytes_of r)

-- these bytes are read as this instruction: 80 is a second spelling of IOR
abbrev pub SpellsInstr : List ℕ → Instr → Type 0
SpellsInstr bytes i = (bytes ≡ spelling i) ⊎ ((i ≡ Ior) × (bytes ≡ 0x80 ∷ []))

-- these bytes stand at this address of a text
abbrev pub StandAt : List ℕ → ℕ → List ℕ → Type 0
StandAt text at [] = at ≤ length text
StandAt text at (byte ∷ bytes) = (slice_index text at ≡ byte) × StandAt text (at + 1) bytes

-- the instruction that begins with these six bytes, of which it may need fewer
unfoldable pub of_bytes : ℕ → ℕ → ℕ → ℕ → ℕ → ℕ → Option Instr
of_bytes a b c d e f =
    if a == 0x00 then Some Nop else
    if a == 0x10 then Some (Bipush (cast_signed w8 b)) else
    if a == 0x13 then Some (LdcW (256 * b + c)) else
    if a == 0x15 then Some (Iload b) else
    if a == 0x36 then Some (Istore b) else
    if a == 0x57 then Some Pop else
    if a == 0x59 then Some Dup else
    if a == 0x5F then Some Swap else
    if a == 0x60 then Some Iadd else
    if a == 0x64 then Some Isub else
    if a == 0x7E then Some Iand else
    if a == 0x80 then Some Ior else
    if a == 0x84 then Some (Iinc b (cast_signed w8 c)) else
    if a == 0x99 then Some (Ifeq (cast_signed w16 (256 * b + c))) else
    if a == 0x9B then Some (Iflt (cast_signed w16 (256 * b + c))) else
    if a == 0x9F then Some (IfIcmpeq (cast_signed w16 (256 * b + c))) else
    if a == 0xA7 then Some (Goto (cast_signed w16 (256 * b + c))) else
    if a == 0xAC then Some Ireturn else
    if a == 0xB0 then Some Ior else
    if a == 0xB6 then Some (Invokevirtual (256 * b + c)) else
    if a == 0xC4 then (if b == 0x15 then Some (WideIload (256 * c + d)) else
    if b == 0x36 then Some (WideIstore (256 * c + d)) else
    if b == 0x84 then Some (WideIinc (256 * c + d) (cast_signed w16 (256 * e + f))) else None) else
    if a == 0xFC then Some In else
    if a == 0xFD then Some Out else
    if a == 0xFE then Some Err else
    if a == 0xFF then Some Halt else None

-- the instruction that begins at this byte address of a text, where bytes past the end count as 0
abbrev pub begun_at : List ℕ → ℕ → Option Instr
begun_at text at =
    of_bytes (slice_index text at) (slice_index text (at + 1)) (slice_index text (at + 2))
    (slice_index text (at + 3)) (slice_index text (at + 4)) (slice_index text (at + 5))

-- the instruction, if it ends inside a text of this many bytes
abbrev pub whole : ℕ → ℕ → Option Instr → Option Instr
whole many at None = None
whole many at (Some i) = if nat_le (at + size_of (row_of i)) many then Some i else None

-- the whole instruction at this byte address of a text
unfoldable pub instr_at : List ℕ → ℕ → Option Instr
instr_at text at = whole (length text) at (begun_at text at)

-- this instruction is read at this byte address of a text
abbrev pub IsReadAt : List ℕ → ℕ → Instr → Type 0
IsReadAt text at i = instr_at text at ≡ Some i

-- the bytes of an instruction are read as it wherever they stand
abbrev pub IsReadBack : Instr → List ℕ → List ℕ → Type 0
IsReadBack i before after = IsReadAt (before ++ (spelling i ++ after)) (length before) i

-- each instruction that is spelled at the front of these bytes is read with its length
abbrev pub ReadsFront : List ℕ → Option (Instr × ℕ) → Type 0
ReadsFront bytes read = (i : Instr) (front rest : List ℕ) → IsInstr i → SpellsInstr front i → bytes ≡ front ++ rest → read ≡ Some (i, length front)
