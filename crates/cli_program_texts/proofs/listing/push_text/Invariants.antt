use Rattle.std.proofs.Common.{◌≡◌, ℕ, List, ◌++◌}
use Rattle.std.specs.List.{concat}
use Rattle.cli_program_texts.specs.Prelude.{AreListingLines}
use Rattle.cli_program_texts.proofs.listing.push_text.Given as goal

abbrev pub invariant-loop-at : goal.invariant-loop-at
invariant-loop-at l = (lines : List (List ℕ)) × AreListingLines l.program.image l.at lines × (l.listing.items ≡ l.initial.listing.items ++ concat lines)
