-- That the rows of a profile, and the counts of a cache, are those of the run whose cycles were watched, from its reset on.
use Rattle.std.specs.Prelude.{◌≡◌, ◌+◌, ◌<◌, ◌^◌, ℕ, List, length}
use Rattle.cli_watchers.specs.Common.{Machine, End, Cycle}
use Rattle.cli_watchers.specs.Profile.{boot_of, profile_of_cycles, tallies_at, tally_at}
use Rattle.cli_watchers.specs.Cached.{accesses_of, counts_of, kept_of_cycles}
use Rattle.cli_watchers.specs.Counted.{AreClockedAfter, Completed, boot_cycles, boundaries_of, completed_in, cut_cycles, cycles_of, end_after, tally_of}

-- the instructions that a run of these cycles completed, which ended so
abbrev pub completed_by : List Cycle → End → List Completed
completed_by cs e = completed_in (boundaries_of cs) (end_after e (length cs))

-- the cycles of the instruction that this end cut
abbrev pub cut_by : List Cycle → End → ℕ
cut_by cs e = cut_cycles (boundaries_of cs) (end_after e (length cs)) (length cs)

-- a row counts its completed instructions, and has their cycles
abbrev pub CountsItsOwn : List ℕ → List Cycle → End → ℕ → Type 0
CountsItsOwn rows cs e row = AreClockedAfter 0 cs → length cs < 2 ^ 63 → row < 27 →
    tally_at (tallies_at (profile_of_cycles rows cs) e (length cs)) row ≡ tally_of rows row (completed_by cs e)

-- the boot has the cycles up to the first boundary
abbrev pub HasItsBoot : List ℕ → List Cycle → Type 0
HasItsBoot rows cs = AreClockedAfter 0 cs →
    boot_of (profile_of_cycles rows cs).last (profile_of_cycles rows cs).boot (length cs) ≡ boot_cycles (boundaries_of cs) (length cs)

-- boot, completed instructions and an instruction that was cut have all cycles
abbrev pub HasAllCycles : List Cycle → End → Type 0
HasAllCycles cs e = AreClockedAfter 0 cs →
    boot_cycles (boundaries_of cs) (length cs) + cycles_of (completed_by cs e) + cut_by cs e ≡ length cs

-- a cache that begins empty, and on which the accesses of these cycles are repeated, has their hits and misses
abbrev pub HasItsCounts : Machine → List ℕ → ℕ → List ℕ → List Cycle → Type 0
HasItsCounts machine words lines memory cs = 0 < lines → length cs < 2 ^ 62 →
    (kept_of_cycles machine words lines memory cs).tally.counts ≡ counts_of lines (length memory) (accesses_of machine words cs)
