use Rattle.ijvm_simulation.proofs.Alike.{agree}
use Rattle.ijvm_simulation.proofs.agreement.interpreters_agree.Goals as goal

pub returns : goal.returns
returns g c = agree g.I.Machine.Clocked.state g.I.Machine.Clocked.meaning g.I.Machine.Clocked.IsReady g.I.Interpreter.IsShipped g.I.Interpreter.entry g.I.Interpreter.timing
    g.J.Machine.Clocked.state g.J.Machine.Clocked.meaning g.J.Machine.Clocked.IsReady g.J.Interpreter.IsShipped g.J.Interpreter.entry g.J.Interpreter.timing
