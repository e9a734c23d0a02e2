use Rattle.ijvm_simulation.proofs.Next.{Known}
use Rattle.ijvm_simulation.specs.Prelude.{Promises}
use Rattle.ijvm_simulation.proofs.Ending.{ends_as_defined}
use Rattle.ijvm_simulation.proofs.laws.shipped_runs_end_as_defined.Goals as goal

pub returns : goal.returns
returns g c =
    let promises : Promises g.I.Machine.Clocked.meaning g.I.Machine.Clocked.IsReady g.I.Interpreter.IsShipped g.I.Interpreter.entry g.I.Interpreter.timing = record { law = c.law.ensures.law; boots = c.law.ensures.boots; grows = c.law.ensures.grows } in
    let known : Known = record { sound = c.accepted_images_keep_sound.ensures; start = c.runs_keep_words.ensures.start; goes = c.runs_keep_words.ensures.goes } in
    ends_as_defined g.I.Machine.Clocked.state g.I.Machine.Clocked.meaning g.I.Machine.Clocked.IsReady g.I.Interpreter.IsShipped g.I.Interpreter.entry g.I.Interpreter.timing promises known
