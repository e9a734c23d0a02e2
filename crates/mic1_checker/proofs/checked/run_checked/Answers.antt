use Rattle.mic1_checker.proofs.Common.{◌≡◌, ap, sym, ControlStore, Interprets, checked_with, reading}
use Rattle.mic1_checker.proofs.Same.{along, runs_along, reads_along, writes_along}
use Rattle.mic1_checker.proofs.checked.run_checked.Given.{Over}
use Rattle.mic1_checker.proofs.checked.run_checked.Goals as goal

words_are : (g : Over) → (c : goal.After-run_with g) → c.into_store-store.result.words ≡ c.args.checked.store.words
words_are g c = ap (λ (store : ControlStore). store.words) c.into_store-store.ensures.is

interprets : (g : Over) → (c : goal.After-run_with g) →
    Interprets (checked_with c.into_store-store.result.words c.entry-entry.result c.args.checked.costs)
interprets g c =
    along (λ words entry. Interprets (checked_with words entry c.args.checked.costs)) (sym (words_are g c)) (sym c.entry-entry.ensures.is)
    c.into_store-store.ensures.checked.interprets

pub returns-clause-run : goal.returns-clause-run
returns-clause-run g c =
    runs_along (words_are g c) c.entry-entry.ensures.is c.args.checked.costs
    c.args.image.now c.args.bound g.S.Source.left g.K.Sink.held _ _ _ _ c.run_with.result
    (c.run_with.ensures.run (reading c.args.checked.costs) (interprets g c))

pub returns-clause-read : goal.returns-clause-read
returns-clause-read g c =
    reads_along (words_are g c) c.entry-entry.ensures.is c.args.checked.costs
    c.args.image.now c.args.bound g.S.Source.left g.K.Sink.held _ _ _ _ c.run_with.result
    (c.run_with.ensures.read (reading c.args.checked.costs) (interprets g c))

pub returns-clause-write : goal.returns-clause-write
returns-clause-write g c =
    writes_along (words_are g c) c.entry-entry.ensures.is c.args.checked.costs
    c.args.image.now c.args.bound g.S.Source.left g.K.Sink.held _ _ _ _ c.run_with.result
    (c.run_with.ensures.write (reading c.args.checked.costs) (interprets g c))
