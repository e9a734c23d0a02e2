use Rattle.source_text.proofs.Texts.{read_as_spelled}
use Rattle.source_text.proofs.text.a_text_says_one_thing.Goals as goal

pub returns : goal.returns
returns g c = λ setting. read_as_spelled (g.L.LineLanguage.grammar setting) g.L.LineLanguage.parser (g.L.LineLanguage.start setting) (c.requires setting)
