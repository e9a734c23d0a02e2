-- The profile of a run by its boundaries: at each boundary the instruction at the boundary before is completed, and what was clocked up to the first is boot.
use Rattle.std.specs.Prelude.{◌≡◌, ℕ, ◌+◌, ◌-◌, ◌^◌, ◌==◌, if◌then◌else◌, min, List, [], ◌∷◌, ◌++◌, Option, Some, None, codes, replicate, slice_get, slice_set, unwrap_or}
use Rattle.cli_watchers.specs.Common.{decimal, Boundary, Counts, End, completes, Cycle, kept_of}
use Rattle.cli_watchers.specs.declared.profiler.Profiler.{Profiler}
use Rattle.cli_watchers.specs.declared.profiler.RowCount.{RowCount}
use Rattle.cli_watchers.specs.Rows.{other, row_name}

pub record Profile : Type 0 where
  -- the rows of the addresses of the text
  pub rows : List ℕ
  -- the cycles up to the first boundary
  pub boot : ℕ
  pub last : Option Boundary
  -- how often the instructions of each row were completed, and in how many cycles
  pub tallies : List RowCount

-- what a profiler holds
abbrev pub profile_in : Profiler → Profile
profile_in p = record { rows = p.rows.now; boot = p.boot; last = p.last; tallies = p.tallies }

abbrev pub no_tally : RowCount
no_tally = record { count = 0; cycles = 0 }

-- a sum, up to the end of its type, which no run comes to
abbrev pub plus : ℕ → ℕ → ℕ
plus a b = min (a + b) (2 ^ 64 - 1)

abbrev pub more : ℕ → RowCount → RowCount
more cycles t = record { count = plus t.count 1; cycles = plus t.cycles cycles }

-- the row of an address; after the text there is no instruction
abbrev pub row_at : List ℕ → ℕ → ℕ
row_at rows at = unwrap_or (slice_get rows at) other

abbrev pub tally_at : List RowCount → ℕ → RowCount
tally_at ts row = unwrap_or (slice_get ts row) no_tally

-- the instruction at a boundary is completed, with these cycles clocked
abbrev pub completed : List ℕ → List RowCount → Option Boundary → ℕ → List RowCount
completed rows ts None cycles = ts
completed rows ts (Some b) cycles = slice_set ts (row_at rows b.at) (more (cycles - b.cycles) (tally_at ts (row_at rows b.at)))

-- the cycles up to the first boundary, where these are all or it was reached before
abbrev pub boot_of : Option Boundary → ℕ → ℕ → ℕ
boot_of None boot cycles = cycles
boot_of (Some b) boot cycles = boot

abbrev pub reached : Profile → Counts → Profile
reached p c = record { rows = p.rows; boot = boot_of p.last p.boot c.cycles; last = c.boundary; tallies = completed p.rows p.tallies p.last c.cycles }

abbrev pub reached_at : Option ℕ → Profile → Counts → Profile
reached_at None p c = p
reached_at (Some at) p c = reached p c

-- the profile after one more cycle
abbrev pub profile_after : Profile → Cycle → Profile
profile_after p c = reached_at c.boundary p c.counts

-- an end by HALT or ERR completes the last instruction
abbrev pub tallies_at : Profile → End → ℕ → List RowCount
tallies_at p e cycles = if completes e then completed p.rows p.tallies p.last cycles else p.tallies

-- `NAME COUNT CYCLES`, of a row whose instructions were completed
abbrev pub row_line : ℕ → RowCount → List ℕ
row_line row t =
    if t.count == 0 then [] else row_name row ++ codes " " ++ decimal t.count ++ codes " " ++ decimal t.cycles ++ codes "\n"

-- the lines of the rows from this one on
abbrev pub rows_text : ℕ → List RowCount → List ℕ
rows_text row [] = []
rows_text row (t ∷ ts) = row_line row t ++ rows_text (row + 1) ts

abbrev pub count_line : List ℕ → ℕ → List ℕ
count_line name value = name ++ codes " " ++ decimal value ++ codes "\n"

-- what is printed of a run that ended so, with these counts
abbrev pub profile_text : Profile → End → Counts → List ℕ
profile_text p e c =
    count_line (codes "boot") (boot_of p.last p.boot c.cycles) ++ rows_text 0 (tallies_at p e c.cycles) ++ count_line (codes "stalls") c.stalls

-- before the first cycle
abbrev pub start_profile : List ℕ → Profile
start_profile rows = record { rows = rows; boot = 0; last = None; tallies = replicate 27 no_tally }

-- nothing is printed of a cycle
abbrev pub Silent : Profile → Cycle → List ℕ → Type 0
Silent p c text = text ≡ []

-- the profile of these cycles
abbrev pub profile_of_cycles : List ℕ → List Cycle → Profile
profile_of_cycles rows cs = kept_of profile_after Silent (start_profile rows) cs
