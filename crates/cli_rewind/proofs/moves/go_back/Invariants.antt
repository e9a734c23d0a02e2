use Rattle.cli_rewind.proofs.Common.{◌≡◌, ◌≤◌, ℕ, List, Option, Stand, StandsAt, back, kept}
use Rattle.cli_rewind.proofs.moves.go_back.Given as goal

-- this many cycles were gone back over
abbrev pub invariant-cycles : goal.invariant-cycles
invariant-cycles g l = record {
  goes : (left held : Option (List ℕ)) (s : Stand g.M.Clocked.State) → StandsAt g.M.Clocked.state g.M.Clocked.meaning left held l.fn.rewind s →
      StandsAt g.M.Clocked.state g.M.Clocked.meaning left held l.rewind (back l.fn.rewind.history.depth l._made s) ×
      (l._made ≤ kept l.fn.rewind.history.depth s);
  board : l.rewind.board ≡ l.fn.rewind.board;
  depth : l.rewind.history.depth ≡ l.fn.rewind.history.depth;
}
