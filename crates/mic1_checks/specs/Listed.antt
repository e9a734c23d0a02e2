-- All instructions but HALT and ERR, as a microprogram tells them apart, and what a second store takes of them.
use Rattle.std.specs.Prelude.{◌≡◌, ◌⊎◌, ◌<◌, ℕ, length, slice_index_or, List, [], ◌∷◌, Some, None}
use Rattle.mic1_checks.specs.Common.{Micro, mic1_meaning, IsReady, Instr, Timing, State, VerifiedView, Origin, IsAt, Moment, Takes}
use Rattle.ijvm_instr.specs.declared.instr.Instr.TheVariants.{Nop, Bipush, LdcW, Iload, Istore, Pop, Dup, Swap, Iadd, Isub, Iand, Iinc, Ifeq, Iflt}
use Rattle.ijvm_instr.specs.declared.instr.Instr.TheVariants.{IfIcmpeq, Goto, Ireturn, Ior, Invokevirtual, WideIload, WideIstore, WideIinc, In, Out, Err, Halt}
use Rattle.mic1_checks.specs.declared.instruction.Instruction.{Instruction}
use Rattle.mic1_checks.specs.declared.leaf.Counts.{Counts}
use Rattle.mic1_checks.specs.declared.shape.Shape.{Shape}
use Rattle.mic1_checks.specs.Situation.{StandsBefore}
use Rattle.mic1_checks.specs.Carried.{CarriesInstruction, Onward}

-- the row of an instruction's leaves; HALT and ERR have none
abbrev pub row_number : Instr → ℕ
row_number Nop = 0
row_number (Bipush z) = 1
row_number (LdcW k) = 2
row_number (Iload k) = 3
row_number (Istore k) = 4
row_number Pop = 5
row_number Dup = 6
row_number Swap = 7
row_number Iadd = 8
row_number Isub = 9
row_number Iand = 10
row_number (Iinc k z) = 11
row_number (Ifeq z) = 12
row_number (Iflt z) = 13
row_number (IfIcmpeq z) = 14
row_number (Goto z) = 15
row_number Ireturn = 16
row_number Ior = 17
row_number (Invokevirtual k) = 18
row_number (WideIload k) = 19
row_number (WideIstore k) = 20
row_number (WideIinc k z) = 21
row_number In = 22
row_number Out = 23
row_number Err = 25
row_number Halt = 25

abbrev pub plain : ℕ → ℕ → Instruction
plain row opcode = record { row = row; opcode = opcode; second = None }

-- an instruction after WIDE
abbrev pub wide : ℕ → ℕ → Instruction
wide row second = record { row = row; opcode = 0xC4; second = Some second }

abbrev pub instructions : List Instruction
instructions =
    plain 0 0x00 ∷ plain 1 0x10 ∷ plain 2 0x13 ∷ plain 3 0x15 ∷ plain 4 0x36 ∷ plain 5 0x57 ∷ plain 6 0x59 ∷ plain 7 0x5F ∷
    plain 8 0x60 ∷ plain 9 0x64 ∷ plain 10 0x7E ∷ plain 11 0x84 ∷ plain 12 0x99 ∷ plain 13 0x9B ∷ plain 14 0x9F ∷
    plain 15 0xA7 ∷ plain 16 0xAC ∷ plain 17 0xB0 ∷ plain 17 0x80 ∷ plain 18 0xB6 ∷ wide 19 0x15 ∷ wide 20 0x36 ∷
    wide 21 0x84 ∷ plain 22 0xFC ∷ plain 23 0xFD ∷ []

-- a machine of any shape with the second store takes of each of these kinds what the first takes
abbrev pub CarriesEach : List Instruction → List ℕ → List ℕ → ℕ → ℕ → List Counts → Type 0
CarriesEach all store store' entry entry' leaves =
    (k : ℕ) → k < length all → (shape : Shape) → CarriesInstruction (slice_index_or all k (plain 0 0)) shape store store' entry entry' leaves

-- If the first store takes what every instruction takes of a machine, the second takes what every one takes that does
-- not end the run.
abbrev pub CarriesTakes : List ℕ → List ℕ → ℕ → ℕ → List Counts → Type 0
CarriesTakes store store' entry entry' leaves =
    (before : List ℕ) (timing : Timing) (v : VerifiedView) (o : Origin) (s : State) (q : Moment Micro) (i : Instr) →
    Takes mic1_meaning store (IsAt mic1_meaning IsReady entry o) before timing v o (λ i. Unit {0}) →
    StandsBefore entry' v o s q i → (i ≡ Halt) ⊎ ((i ≡ Err) ⊎ Onward leaves (row_number i) store' entry' before timing v o s q i)
