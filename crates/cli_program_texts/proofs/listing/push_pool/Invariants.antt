use Rattle.std.proofs.Common.{◌≡◌, ◌++◌, drop}
use Rattle.cli_program_texts.specs.Prelude.{pool_text}
use Rattle.cli_program_texts.proofs.listing.push_pool.Given as goal

abbrev pub invariant-loop-index : goal.invariant-loop-index
invariant-loop-index l = l.listing.items ++ pool_text l.index (drop l.index l.pool) ≡ l.initial.listing.items ++ pool_text 0 l.pool
