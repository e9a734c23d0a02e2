use Rattle.cli_watchers.proofs.RowNames.{named}
use Rattle.cli_watchers.proofs.rows.rows_law.Goals as goal

pub returns : goal.returns
returns c = named
