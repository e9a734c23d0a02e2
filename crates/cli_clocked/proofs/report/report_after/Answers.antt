use Rattle.cli_clocked.proofs.Common.{◌≡◌, rules, report_on}
use Rattle.cli_clocked.proofs.report.report_after.Goals as goal

pub returns : goal.returns
returns g c =
    let line_is : c.bytes.result.now ≡ report_on g.M.Clocked.state g.M.Clocked.meaning c.args.end c.args.board.now = search rules in
    rw (line_is, c.status_of.ensures) at c.say_after.ensures
