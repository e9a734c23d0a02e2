use Rattle.std.proofs.Common.{◌≡◌, ℕ, ◌-◌, ◌<◌, ◌≤◌, false}
use Rattle.micro_word.specs.Prelude.{names}
use Rattle.micro_word.proofs.lines.first_named.Given as goal

abbrev pub invariant-places : goal.invariant-places
invariant-places l =
    record {
      within : l.place ≤ 9;
      after : l.fn.from ≤ l.place;
      skipped : (place : ℕ) → l.fn.from ≤ place → place < l.place → names l.fn.c place ≡ false;
    }

abbrev pub decreases-places : goal.decreases-places
decreases-places l = 9 - l.place
