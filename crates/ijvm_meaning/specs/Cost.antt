-- What an instruction costs: the columns of the table, in cycles.
use Rattle.std.specs.Prelude.{ℕ, ◌%◌, Bool, false, if◌then◌else◌, ◌==◌, List, [], ◌∷◌, slice_index, Option, Some, None}
use Rattle.ijvm_meaning.specs.Common.{is_negative, Machine, Mic1, Mic2, Instr, Row, Cost, Always, IfTaken, ByEntry, row_of, instr_at, ImageView}
use Rattle.ijvm_instr.specs.declared.instr.Instr.TheVariants.{Ifeq, Iflt, IfIcmpeq, Invokevirtual}
use Rattle.ijvm_meaning.specs.Frames.{State}

-- What a machine with its microprogram spends, in cycles.
pub record Timing : Type 0 where
  -- from reset to the first boundary
  pub boot : ℕ
  -- on each instruction
  pub of : Instr → Cost

abbrev pub column : Machine → Row → Cost
column Mic1 r = r.mic1
column Mic2 r = r.mic2

-- on both machines of the table two cycles lead to the first boundary
abbrev pub timing_of : Machine → Timing
timing_of machine = record { boot = 2; of = λ i. column machine (row_of i) }

abbrev pub tests : (ℕ → Bool) → List ℕ → Bool
tests test [] = false
tests test (y ∷ rest) = test y

abbrev pub are_equal : List ℕ → Bool
are_equal [] = false
are_equal (y ∷ []) = false
are_equal (y ∷ x ∷ rest) = x == y

-- whether a branch is taken at these operands
abbrev pub is_taken : Instr → List ℕ → Bool
is_taken (Ifeq o) operands = tests (λ y. y == 0) operands
is_taken (Iflt o) operands = tests is_negative operands
is_taken (IfIcmpeq o) operands = are_equal operands
is_taken i operands = false

-- the entry of the method that a call calls
abbrev pub entry_of : List ℕ → Instr → ℕ
entry_of pool (Invokevirtual k) = slice_index pool k
entry_of pool i = 0

abbrev pub cycles_of : Cost → Bool → ℕ → ℕ
cycles_of (Always cycles) taken entry = cycles
cycles_of (IfTaken jumps falls) taken entry = if taken then jumps else falls
cycles_of (ByEntry early late) taken entry = if entry % 4 == 3 then late else early

-- the cycles of this instruction in this state
abbrev pub cost : ImageView → Timing → Instr → State → ℕ
cost image timing i s = cycles_of (timing.of i) (is_taken i s.running.operands) (entry_of image.pool i)

abbrev pub cost_at : ImageView → Timing → State → Option Instr → ℕ
cost_at image timing s None = 0
cost_at image timing s (Some i) = cost image timing i s

-- the cycles of the instruction at this state's address
abbrev pub next_cost : ImageView → Timing → State → ℕ
next_cost image timing s = cost_at image timing s (instr_at image.text s.at)
