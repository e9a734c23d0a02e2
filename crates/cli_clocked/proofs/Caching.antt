-- A memory of either map is whole blocks, and the line of a run with a cache has the counts of its accesses.
use Rattle.cli_clocked.proofs.Common.{◌≡◌, ◌∙◌, ℕ, ◌+◌, ◌%◌, ◌^◌, ◌<◌, ◌≤◌, max, List, ◌++◌, length, Some, ap, subst, arith, inl, inr, Machine, IsMap}
use Rattle.cli_clocked.proofs.Common.{CacheCounts, Counts, End, Meaning, BoardView, Cycle, VerifiedView, MalView, Loaded, CacheKept, accesses_of, cache_line}
use Rattle.cli_clocked.proofs.Common.{counts_of, kept_of_cycles, OutsideView, Says, SinkState, status_of, Ran, IsCached, RunsThrough, report_on}
use Rattle.cli_clocked.proofs.Clocked.{clocked_through}

pub whole_blocks : (size stack_end : ℕ) → size ≡ stack_end → IsMap stack_end → size % 4 ≡ 0
whole_blocks size stack_end is (inl standard) = ap (λ (n : ℕ). n % 4) (is ∙ standard)
whole_blocks size stack_end is (inr large) = ap (λ (n : ℕ). n % 4) (is ∙ large)

-- what was printed has this code
pub says_code : {old new : SinkState} {text : List ℕ} {code code' status : ℕ} → code ≡ code' → Says old new text code status → Says old new text code' status
says_code same says = rw (← same) says

-- the cache of a run counts its accesses
abbrev pub CountsRuns : Type 0
CountsRuns =
    (machine : Machine) (words : List ℕ) (lines : ℕ) (memory : List ℕ) (cs : List Cycle) → 0 < lines → length cs < 2 ^ 62 →
    (kept_of_cycles machine words lines memory cs).tally.counts ≡ counts_of lines (length memory) (accesses_of machine words cs)

module _ {M State : Type 0} (state : M → State) (m : Meaning State) (lines bound : ℕ) (micro : MalView) (program : VerifiedView) (l : Loaded)
    (last : BoardView M) (cycles : List Cycle) (end : End) (old new : OutsideView) (through : RunsThrough state m bound micro l program cycles last (Some end) old new)
    (small : bound ≤ 2 ^ 61) (growth : last.counts.cycles ≤ max bound through.first.counts.cycles + 1024) where
  short_run : length cycles < 2 ^ 62
  short_run =
      let long : length cycles ≡ last.counts.cycles = (clocked_through state m bound micro l program cycles last (Some end) old new through).1 in
      let start : through.first.counts.cycles ≡ 0 = ap (λ (c : Counts). c.cycles) through.begins.reset.counts in
      omega (arith, long, start, growth, small)

  -- what the cache counted, after the report
  pub cached : CountsRuns → 0 < lines → l.store.machine ≡ m.machine → (kept : CacheKept) (memory : List ℕ) →
      length memory ≡ program.map.stack_end → kept ≡ kept_of_cycles l.store.machine l.store.words lines memory cycles → (line : List ℕ) → line ≡ cache_line lines kept.tally.counts →
      (status : ℕ) → Says old.err new.err (report_on state m end last ++ line) (status_of end) status → IsCached state m lines bound micro program old new status
  cached law some machine kept memory size is line prints status says =
      let counts : kept.tally.counts ≡ counts_of lines program.map.stack_end (accesses_of m.machine l.store.words cycles) =
      ap (λ (k : CacheKept). k.tally.counts) is
      ∙ (law l.store.machine l.store.words lines memory cycles some short_run
      ∙ (ap (λ (n : ℕ). counts_of lines n (accesses_of l.store.machine l.store.words cycles)) size
      ∙ ap (λ (x : Machine). counts_of lines program.map.stack_end (accesses_of x l.store.words cycles)) machine)) in
      Ran l last cycles end through
      (subst (λ (t : List ℕ). Says old.err new.err (report_on state m end last ++ t) (status_of end) status)
      (prints ∙ ap (λ (c : CacheCounts). cache_line lines c) counts) says)
