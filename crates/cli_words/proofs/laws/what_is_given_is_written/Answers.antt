use Rattle.cli_words.specs.Prelude.{form_for}
use Rattle.cli_words.proofs.Spelled.{spelled}
use Rattle.cli_words.proofs.Taken.{taken}
use Rattle.cli_words.proofs.Tidy.{tidy}
use Rattle.cli_words.proofs.laws.what_is_given_is_written.Goals as goal

pub returns : goal.returns
returns c = record { written = spelled; read = λ command words given. taken (form_for command) (tidy command) words given }
