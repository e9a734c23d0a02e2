use Rattle.std.proofs.Common.{◌≡◌}
use Rattle.ijvm_simulation.specs.Prelude.{Reading, Promises}
use Rattle.ijvm_simulation.proofs.Stores.{promises_of_store, runs_of_store, reads_of_store, writes_of_store}
use Rattle.ijvm_simulation.proofs.run.run_image.Given.{Over}
use Rattle.ijvm_simulation.proofs.run.run_image.Goals as goal

abbrev reading : (g : Over) → Reading g.I.Machine.Clocked.State g.I.Machine.Clocked.State
reading g = record { seen = λ state. state; timing = g.I.Interpreter.timing }

promises : (g : Over) → (c : goal.After-run_with g) →
    Promises g.I.Machine.Clocked.meaning g.I.Machine.Clocked.IsReady (λ words. words ≡ c.in_ok-store.store.words) c.entry.result g.I.Interpreter.timing
promises g c =
    promises_of_store g.I.Machine.Clocked.state g.I.Machine.Clocked.meaning g.I.Machine.Clocked.IsReady g.I.Interpreter.IsShipped g.I.Interpreter.entry g.I.Interpreter.timing
    c.in_ok-store.store.words c.in_ok-store.ensures.shipped c.entry.result c.entry.ensures.value
    (record { law = c.law.ensures.law; boots = c.law.ensures.boots; grows = c.law.ensures.grows })

pub returns-clause-run : goal.returns-clause-run
returns-clause-run g c =
    runs_of_store g.I.Machine.Clocked.state g.I.Machine.Clocked.meaning g.I.Machine.Clocked.IsReady g.I.Interpreter.IsShipped g.I.Interpreter.entry g.I.Interpreter.timing
    c.in_ok-store.store.words c.in_ok-store.ensures.shipped c.entry.result c.entry.ensures.value
    c.args.image.now c.args.bound g.S.Source.left g.K.Sink.held _ _ _ _ c.run_with.result (c.run_with.ensures.run (reading g) (promises g c))

pub returns-clause-read : goal.returns-clause-read
returns-clause-read g c =
    reads_of_store g.I.Machine.Clocked.state g.I.Machine.Clocked.meaning g.I.Machine.Clocked.IsReady g.I.Interpreter.IsShipped g.I.Interpreter.entry g.I.Interpreter.timing
    c.in_ok-store.store.words c.in_ok-store.ensures.shipped c.entry.result c.entry.ensures.value
    c.args.image.now c.args.bound g.S.Source.left g.K.Sink.held _ _ _ _ c.run_with.result (c.run_with.ensures.read (reading g) (promises g c))

pub returns-clause-write : goal.returns-clause-write
returns-clause-write g c =
    writes_of_store g.I.Machine.Clocked.state g.I.Machine.Clocked.meaning g.I.Machine.Clocked.IsReady g.I.Interpreter.IsShipped g.I.Interpreter.entry g.I.Interpreter.timing
    c.in_ok-store.store.words c.in_ok-store.ensures.shipped c.entry.result c.entry.ensures.value
    c.args.image.now c.args.bound g.S.Source.left g.K.Sink.held _ _ _ _ c.run_with.result (c.run_with.ensures.write (reading g) (promises g c))
