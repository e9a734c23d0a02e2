use Rattle.std.proofs.Common.{append_assoc}
use Rattle.cli_run_texts.proofs.report.head.Goals as goal

pub returns-clause-text : goal.returns-clause-text
returns-clause-text c = rw (c.add_counts.ensures.text, c.end_name.ensures.text, c.text.ensures.text) (simp append_assoc)
