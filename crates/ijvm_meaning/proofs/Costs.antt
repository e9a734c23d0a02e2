-- The cost columns, computed: each instruction, each outcome of a branch and each kind of entry, on both machines.
use Rattle.std.specs.Prelude.{◌≡◌, ℕ, List, [], ◌∷◌, ℤ}
use Rattle.std.proofs.Common.{refl}
use Rattle.mic_words.specs.declared.machine.Machine.{Machine}
use Rattle.mic_words.specs.declared.machine.Machine.TheVariants.{Mic1, Mic2}
use Rattle.ijvm_instr.specs.declared.instr.Instr.{Instr}
use Rattle.ijvm_instr.specs.declared.instr.Instr.TheVariants.{Nop, Bipush, LdcW, Iload, Istore, Pop, Dup, Swap, Iadd, Isub, Iand, Iinc, Ifeq, Iflt, IfIcmpeq, Goto, Ireturn, Ior, Invokevirtual, WideIload, WideIstore, WideIinc, In, Out, Err, Halt}
use Rattle.ijvm_meaning.specs.Prelude.{State, start_of, moved, timing_of, cost}

-- a state with these operands, the last one first
abbrev over : List ℕ → State
over operands = moved (start_of 0 []) operands 0

-- the methods' entries
abbrev pool : List ℕ
pool = 12 ∷ 13 ∷ 14 ∷ 15 ∷ []

-- over these operands the instruction costs this many cycles on Mic-1 and on Mic-2
abbrev Costs : Instr → List ℕ → ℕ → ℕ → Type 0
Costs i operands mic1 mic2 =
    (cost (record { text = []; pool = pool }) (timing_of Mic1) i (over operands) ≡ mic1) × (cost (record { text = []; pool = pool }) (timing_of Mic2) i (over operands) ≡ mic2)

first_boundary : (machine : Machine) → (timing_of machine).boot ≡ 2
first_boundary machine = refl

costs : (b o : ℤ) (k : ℕ) → Costs Nop [] 2 1
    × Costs (Bipush b) [] 4 2
    × Costs (LdcW k) [] 8 3
    × Costs (Iload k) [] 6 3
    × Costs (Istore k) [] 7 5
    × Costs Pop [] 4 3
    × Costs Dup [] 3 2
    × Costs Swap [] 7 6
    × Costs Iadd [] 4 3
    × Costs Isub [] 4 3
    × Costs Iand [] 4 3
    × Costs (Iinc k b) [] 7 3
    × Costs (Ifeq o) (0 ∷ []) 11 8
    × Costs (Ifeq o) (1 ∷ []) 8 6
    × Costs (Iflt o) (0x80000000 ∷ []) 11 8
    × Costs (Iflt o) (0x7FFFFFFF ∷ []) 8 6
    × Costs (IfIcmpeq o) (5 ∷ 5 ∷ []) 13 10
    × Costs (IfIcmpeq o) (5 ∷ 6 ∷ []) 10 8
    × Costs (Goto o) [] 7 4
    × Costs Ireturn [] 9 8
    × Costs Ior [] 4 3
    × Costs (Invokevirtual 0) [] 23 12
    × Costs (Invokevirtual 1) [] 23 12
    × Costs (Invokevirtual 2) [] 23 12
    × Costs (Invokevirtual 3) [] 23 13
    × Costs (WideIload k) [] 9 4
    × Costs (WideIstore k) [] 10 6
    × Costs (WideIinc k b) [] 12 5
    × Costs In [] 6 5
    × Costs Out [] 8 7
    × Costs Err [] 1 0
    × Costs Halt [] 1 0
costs b o k = assumption
