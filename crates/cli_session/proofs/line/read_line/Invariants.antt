use Rattle.std.proofs.Common.{◌≡◌, ◌≤◌, ◌-◌, length}
use Rattle.cli_session.proofs.LineLemmas.{Reading}
use Rattle.cli_session.proofs.line.read_line.Given as goal

-- the line so far was read
abbrev pub invariant-bytes : goal.invariant-bytes
invariant-bytes g l =
    record {
      reading : Reading (g.S.Source.left l.fn.console) l.line.items (g.S.Source.left l.console);
      quiet : g.S.Source.faults l.console ≡ g.S.Source.faults l.fn.console;
      small : length l.line.items ≤ 256;
    }

abbrev pub decreases-bytes : goal.decreases-bytes
decreases-bytes g l = 256 - length l.line.items
