use Rattle.std.proofs.Common.{◌≡◌, ◌≤◌, ◌+◌, ◌*◌, ◌++◌, length, take, map}
use Rattle.mic_clock.specs.Prelude.{rows_text, word}
use Rattle.mic_clock.proofs.state.words.Given as goal

-- the rows so far
abbrev pub invariant-loop-name : goal.invariant-loop-name
invariant-loop-name l =
    record {
      text : l.line ≡ l.initial.line ++ rows_text (map (λ row. word row.0.now row.1) (take l.name-index l.rows));
      len : length l.line ≤ length l.initial.line + 13 * l.name-index;
    }
