use Rattle.std.proofs.Common.{refl, ◌∙◌}
use Rattle.cli_debug.proofs.Ending.{cut_by, left_by, stopped_by}
use Rattle.cli_debug.proofs.debug.debug_program.Goals as goal

pub do_lines-requires : goal.do_lines-requires
do_lines-requires g c = record { lasts = tt; waits = c.in-Ok.ensures.reset.reset.kept }

pub returns-in-SinkFailed : goal.returns-in-SinkFailed
returns-in-SinkFailed g c =
    record {
      names = c.do_lines.ensures.names;
      does = stopped_by c.in-Ok.ensures c.do_lines.result c.in-SinkFailed.is (rw c.new-input.ensures at c.do_lines.ensures.goes) refl;
    }

pub returns-in-ConsoleFailed : goal.returns-in-ConsoleFailed
returns-in-ConsoleFailed g c =
    let told = rw c.board.ensures at c.report.ensures in
    record {
      names = told.names ∙ c.do_lines.ensures.names;
      does = cut_by c.in-Ok.ensures c.do_lines.result c.in-ConsoleFailed.is (rw c.new-input.ensures at c.do_lines.ensures.goes) told.does;
    }

pub returns : goal.returns
returns g c =
    let told = rw c.board-in_default.ensures at c.report-in_default.ensures in
    record {
      names = told.names ∙ c.do_lines.ensures.names;
      does =
          left_by c.in-Ok.ensures c.do_lines.result c.in_default.not-ConsoleFailed c.in_default.not-SinkFailed
          (rw c.new-input.ensures at c.do_lines.ensures.goes) told.does;
    }
