use Rattle.std.proofs.Common.{◌++◌, ◌∙◌}
use Rattle.cli_watchers.proofs.trace.TracerWatcher.see.Goals as goal

pub returns-clause-says : goal.returns-clause-says
returns-clause-says g c =
    let line = c.cycle_line.ensures in
    let old = g.E.Sink.held c.args.err.now in
    let text = c.bytes.result.now in
    let states = c.bytes-2.result.now in
    let first = c.put_after-said.ensures.puts old text c.put-said.ensures.puts in
    let text_is = c.bytes.ensures.value ∙ line.3 in
    let states_are = c.bytes-2.ensures.value ∙ c.state_lines.ensures in
    let all = c.put_boundary.ensures.puts old (text ++ states) first in (
      text ++ states ++ all.0,
      record { label = line.0; parts = line.1; word = line.2; reached = all.0; boundary = all.1; is = λ i. text_is i ++ states_are i ++ all.0 },
      all.2,
    )
