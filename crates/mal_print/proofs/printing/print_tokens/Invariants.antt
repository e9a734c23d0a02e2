use Rattle.std.proofs.Common.{◌≡◌, ◌+◌, ◌≤◌, ◌++◌, false, length}
use Rattle.mal_print.specs.Prelude.{printed_after, width}
use Rattle.mal_print.proofs.printing.print_tokens.Given as goal

abbrev pub invariant-loop-token : goal.invariant-loop-token
invariant-loop-token l =
    (l.line ++ printed_after l.spacing l.rest ≡ l.fn.line ++ printed_after false l.fn.tokens)
    × (length l.line + width l.rest ≤ length l.fn.line + width l.fn.tokens)

abbrev pub decreases-loop-token : goal.decreases-loop-token
decreases-loop-token l = length l.rest
