use Rattle.std.proofs.Common.{◌≡◌}
use Rattle.cli_session.specs.declared.lines.Step.TheVariants as steps
use Rattle.cli_session.specs.Prelude.{most_lines, place, Goes}
use Rattle.cli_session.proofs.lines.do_lines.Given as goal

-- the lines so far were done
abbrev pub invariant-lines : goal.invariant-lines
invariant-lines g l =
    record {
      goes : Goes g.L.LineSession.meaning most_lines l.left (place (g.L.LineSession.seen l.fn.session) l.fn.outside.seen)
          (place (g.L.LineSession.seen l.session) l.outside.seen) l.step;
      lasts : l.step ≡ steps.On → g.L.LineSession.meaning.Lasts l.left (g.L.LineSession.seen l.session);
      names : l.outside.names ≡ l.fn.outside.names;
    }

abbrev pub decreases-lines : goal.decreases-lines
decreases-lines g l = l.left
