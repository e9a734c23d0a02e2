use Rattle.mic_debugger.proofs.Common.{◌≡◌, HasCause, KeepsFront, Puts}
use Rattle.mic_debugger.specs.Prelude.{word_lines}
use Rattle.mic_debugger.proofs.pieces.put_words.Given as goal

-- the words so far were put, or one was not
abbrev pub invariant-loop-n : goal.invariant-loop-n
invariant-loop-n g l = record {
  puts : Puts (g.E.Sink.held l.fn.err) (word_lines l.bus.words l.first l.n) l.said (g.E.Sink.held l.err);
  keeps : KeepsFront (g.E.Sink.held l.fn.err) (g.E.Sink.held l.err);
  passed : g.E.Sink.passed l.err ≡ g.E.Sink.passed l.fn.err;
  cause : HasCause (g.E.Sink.faults l.fn.err) (g.E.Sink.faults l.err) l.said;
}
