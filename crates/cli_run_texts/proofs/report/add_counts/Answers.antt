use Rattle.std.proofs.Common.{append_assoc}
use Rattle.cli_run_texts.proofs.report.add_counts.Goals as goal

pub returns-clause-text : goal.returns-clause-text
returns-clause-text c = rw (c.boundary_line.ensures.text, c.text.ensures.text, c.number-2.ensures.text, c.number.ensures.text) (simp append_assoc)
