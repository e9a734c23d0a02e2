use Rattle.cli_watchers.proofs.Common.{◌≡◌, ◌++◌, ℕ, List, Option, drop, HasCause, Puts, rows_text}
use Rattle.cli_watchers.proofs.text.put_rows.Given as goal

-- the lines of the rows so far were put
abbrev pub invariant-loop-row : goal.invariant-loop-row
invariant-loop-row g l =
    record {
      puts : (done : List ℕ) × (done ++ rows_text l.row (drop l.row l.tallies) ≡ rows_text 0 l.tallies)
          × ((old : Option (List ℕ)) (text : List ℕ) → Puts old text l.fn.before (g.E.Sink.held l.initial.err) → Puts old (text ++ done) l.said (g.E.Sink.held l.err));
      cause : (count : ℕ) → HasCause count (g.E.Sink.faults l.initial.err) l.fn.before → HasCause count (g.E.Sink.faults l.err) l.said;
    }
