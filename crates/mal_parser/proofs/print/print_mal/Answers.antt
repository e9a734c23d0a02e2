use Rattle.std.proofs.Common.{◌≡◌, subst, sym}
use Rattle.mal_parser.specs.Prelude.{canonical_text, relined, SpellsProgram}
use Rattle.mal_parser.proofs.Printing.{mal_text}
use Rattle.mal_parser.proofs.print.print_mal.Goals as goal

pub returns-clause-text : goal.returns-clause-text
returns-clause-text c = mal_text c.args.program.now c.new-text.result.items _ _ _ c.new-text.ensures.items c.in_ok-add_fixes.ensures c.in_ok-add_default.ensures c.in_ok-add_statements.ensures.text

pub returns-clause-spells : goal.returns-clause-spells
returns-clause-spells c =
    let e : c.add_statements.new.text.items ≡ canonical_text c.args.program.now = mal_text c.args.program.now c.new-text.result.items _ _ _ c.new-text.ensures.items c.in_ok-add_fixes.ensures c.in_ok-add_default.ensures c.in_ok-add_statements.ensures.text in
    subst (λ text. SpellsProgram c.args.program.now.machine text (relined c.args.program.now)) (sym e) (c.canonical_text_spells_its_program.ensures c.args.program.now c.in_ok-add_statements.ensures.program)
