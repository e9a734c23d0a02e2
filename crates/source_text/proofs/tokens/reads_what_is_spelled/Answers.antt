use Rattle.source_text.specs.Prelude.{read}
use Rattle.source_text.proofs.Lexing.{is_read, spelled}
use Rattle.source_text.proofs.tokens.reads_what_is_spelled.Goals as goal

pub returns : goal.returns
unfolding read
returns g c = λ line tokens. (spelled g.L.Language.table line tokens, is_read g.L.Language.table tokens line)
