-- The rows of a profile in the words of the run: which instructions it completed, and in how many cycles.
use Rattle.std.specs.Prelude.{◌≡◌, ℕ, ◌+◌, ◌-◌, ◌==◌, if◌then◌else◌, List, [], ◌∷◌, ◌++◌, Option, Some, None, filter, length}
use Rattle.cli_watchers.specs.Common.{Boundary, End, completes, Cycle}
use Rattle.cli_watchers.specs.declared.profiler.RowCount.{RowCount}
use Rattle.cli_watchers.specs.Profile.{row_at}

-- the address of an instruction at a boundary, and the cycles clocked by then
pub record Reached : Type 0 where
  pub at : ℕ
  pub cycles : ℕ

-- the address of a completed instruction, and its cycles
pub record Completed : Type 0 where
  pub at : ℕ
  pub cycles : ℕ

-- ---- the cycles of a run

-- the cycle is clocked after this many, and the counts have the boundary that it reaches
pub record IsClockedAfter (before : ℕ) (c : Cycle) : Type 0 where
  pub count : c.counts.cycles ≡ before + 1
  pub reached : (at : ℕ) → c.boundary ≡ Some at → (b : Boundary) × (c.counts.boundary ≡ Some b) × (b.at ≡ at) × (b.cycles ≡ c.counts.cycles)

-- these cycles are clocked one after the other, after this many
abbrev pub AreClockedAfter : ℕ → List Cycle → Type 0
AreClockedAfter before [] = Unit {0}
AreClockedAfter before (c ∷ cs) = IsClockedAfter before c × AreClockedAfter (before + 1) cs

-- ---- the instructions of a run

abbrev pub reached_by : Option ℕ → ℕ → List Reached
reached_by None cycles = []
reached_by (Some at) cycles = record { at = at; cycles = cycles } ∷ []

-- the boundaries that these cycles reach
abbrev pub boundaries_of : List Cycle → List Reached
boundaries_of [] = []
boundaries_of (c ∷ cs) = reached_by c.boundary c.counts.cycles ++ boundaries_of cs

-- the cycles at an end by HALT or ERR, which completes the last instruction
abbrev pub end_after : End → ℕ → Option ℕ
end_after e cycles = if completes e then Some cycles else None

-- the instruction at a boundary is completed where another boundary or such an end comes after it, and the cycles between are its own
abbrev pub completed_from : Reached → List Reached → Option ℕ → List Completed
completed_from b [] None = []
completed_from b [] (Some end) = record { at = b.at; cycles = end - b.cycles } ∷ []
completed_from b (next ∷ bs) end = record { at = b.at; cycles = next.cycles - b.cycles } ∷ completed_from next bs end

abbrev pub completed_in : List Reached → Option ℕ → List Completed
completed_in [] end = []
completed_in (b ∷ bs) end = completed_from b bs end

-- the cycles up to the first boundary, or all where none was reached
abbrev pub boot_cycles : List Reached → ℕ → ℕ
boot_cycles [] all = all
boot_cycles (b ∷ bs) all = b.cycles

-- the cycles of an instruction that was cut: those after the last boundary, where no such end comes
abbrev pub cut_from : Reached → List Reached → Option ℕ → ℕ → ℕ
cut_from b [] None all = all - b.cycles
cut_from b [] (Some end) all = 0
cut_from b (next ∷ bs) end all = cut_from next bs end all

abbrev pub cut_cycles : List Reached → Option ℕ → ℕ → ℕ
cut_cycles [] end all = 0
cut_cycles (b ∷ bs) end all = cut_from b bs end all

-- ---- a row

-- the completed instructions of a row
abbrev pub of_row : List ℕ → ℕ → List Completed → List Completed
of_row rows row = filter (λ i. row_at rows i.at == row)

-- the cycles of all of these
abbrev pub cycles_of : List Completed → ℕ
cycles_of [] = 0
cycles_of (i ∷ is) = i.cycles + cycles_of is

-- how many there are, and their cycles
abbrev pub tally_of : List ℕ → ℕ → List Completed → RowCount
tally_of rows row all = record { count = length (of_row rows row all); cycles = cycles_of (of_row rows row all) }
