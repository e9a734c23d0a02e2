use Rattle.std.proofs.Common.{◌≡◌, ◌⊎◌, ◌+◌, ◌<◌, ◌≤◌, ℕ, length, slice_index}
use Rattle.console_port.proofs.loading.write_pool.Given as goal

abbrev pub invariant-loop-k : goal.invariant-loop-k
invariant-loop-k l =
    record {
      size : length l.memory ≡ length l.initial.memory;
      written : (a : ℕ) → a < l.k → slice_index l.memory (0x4000 + a) ≡ slice_index l.pool a;
      others : (a : ℕ) → (a < 0x4000) ⊎ (0x4000 + l.k ≤ a) → slice_index l.memory a ≡ slice_index l.initial.memory a;
    }
