use Rattle.std.proofs.Common.{◌≡◌, ◌<◌, ◌≤◌, ℕ, length, slice_index}
use Rattle.console_port.specs.Prelude.{text_word}
use Rattle.console_port.proofs.loading.write_text.Given as goal

abbrev pub invariant-loop-at : goal.invariant-loop-at
invariant-loop-at l =
    record {
      size : length l.memory ≡ length l.initial.memory;
      written : (a : ℕ) → a < l.at → slice_index l.memory a ≡ text_word l.text a;
      others : (a : ℕ) → l.at ≤ a → slice_index l.memory a ≡ slice_index l.initial.memory a;
    }
