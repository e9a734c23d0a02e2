use Rattle.store_placement.proofs.Common.{subst, sym, IsTrue, PlacedNext, is_valid}
use Rattle.store_placement.proofs.FillingLemmas.{statement_leads, statement_valid}
use Rattle.store_placement.proofs.filling.placed_statement.Goals as goal

pub placed_next-requires-clause-inside : goal.placed_next-requires-clause-inside
placed_next-requires-clause-inside c =
    statement_leads c.args.program.now c.args.placement.now c.requires.program c.requires.placement c.args.s c.statement-statement.result.now c.statement-statement.ensures.value

pub returns-clause-valid : goal.returns-clause-valid
returns-clause-valid c =
    let P : PlacedNext → Type 0 = λ next. IsTrue (is_valid c.args.program.now.machine (record { part = c.statement-statement.result.now.part; next = next })) in
    subst P (sym c.placed_next.ensures) (statement_valid c.args.program.now c.args.placement.now c.requires.program c.requires.placement c.args.s c.statement-statement.result.now c.statement-statement.ensures.value)
