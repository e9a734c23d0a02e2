use Rattle.source_text.proofs.Common.{◌+◌, ◌≤◌, length, contents}
use Rattle.source_text.proofs.Walking.{AreBefore}
use Rattle.source_text.proofs.walk.read_lines.Given as goal

abbrev pub invariant-loop-rest : goal.invariant-loop-rest
invariant-loop-rest g l =
    (l.number + length l.rest ≤ length l.text)
    × AreBefore g.R.Reader.step (g.R.Reader.state l.fn.reader) (contents l.text) (contents l.rest) l.number (g.R.Reader.state l.reader)

abbrev pub decreases-loop-rest : goal.decreases-loop-rest
decreases-loop-rest g l = length l.rest
