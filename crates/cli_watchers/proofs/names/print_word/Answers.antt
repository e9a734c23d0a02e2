use Rattle.cli_watchers.proofs.Common.{codes, refl, arith, parts_text, Placed, Unused, default_text, label_text}
use Rattle.cli_watchers.proofs.Placed.{placed_count}
use Rattle.cli_watchers.proofs.names.print_word.Goals as goal

pub print_placed_word-requires-clause-below : goal.print_placed_word-requires-clause-below
print_placed_word-requires-clause-below c =
    let count = placed_count c.args.program.now c.args.placement.now c.requires.placed in
    omega (arith, count, c.in-Some.ensures.inside)

pub returns-in-Some-clause-text : goal.returns-in-Some-clause-text
returns-in-Some-clause-text c =
    (label_text c.args.program.now c.in-Some.s, parts_text c.args.program.now c.in-Some.s, Placed c.in-Some.s c.in-Some.ensures refl refl, c.print_placed_word.ensures.text)

pub returns-in-None-clause-text : goal.returns-in-None-clause-text
returns-in-None-clause-text c =
    (codes ".default", default_text c.args.program.now, Unused c.in-None.ensures refl refl, c.print_unused_word.ensures.text)
