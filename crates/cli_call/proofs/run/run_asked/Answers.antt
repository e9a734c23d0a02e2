use Rattle.cli_call.proofs.Common.{ap, job_in, name_in}
use Rattle.cli_call.proofs.Asking.{ran_own, ran_shipped}
use Rattle.cli_call.proofs.run.run_asked.Goals as goal

pub returns-in-None : goal.returns-in-None
returns-in-None g c =
    ran_shipped g.I.Machine.Clocked.state g.I.Machine.Clocked.meaning g.I.Machine.Clocked.IsReady g.I.Interpreter.IsShipped g.I.Interpreter.entry g.I.Interpreter.timing
    (job_in c.args.job) _ _ _ (ap name_in c.in-None.is) c.run_file.ensures

pub returns-in-Some : goal.returns-in-Some
returns-in-Some g c =
    ran_own g.I.Machine.Clocked.state g.I.Machine.Clocked.meaning g.I.Machine.Clocked.IsReady g.I.Interpreter.IsShipped g.I.Interpreter.entry g.I.Interpreter.timing
    (job_in c.args.job) _ _ _ _ (ap name_in c.in-Some.is) c.run_own_file.ensures
