use Rattle.mal_parser.proofs.Composed.{text_spells}
use Rattle.mal_parser.proofs.laws.canonical_text_spells_its_program.Goals as goal

pub returns : goal.returns
returns c p h = text_spells p h (record {
  statements = c.lines_spell_what_is_printed.ensures.statements;
  fallbacks = c.lines_spell_what_is_printed.ensures.fallbacks;
  fixes = c.lines_spell_what_is_printed.ensures.fixes;
})
