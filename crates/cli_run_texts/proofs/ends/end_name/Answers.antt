use Rattle.std.proofs.Common.{codes, ◌∙◌, append_assoc}
use Rattle.mic_base.specs.Prelude.{hex_text}
use Rattle.cli_run_texts.proofs.ends.end_name.Goals as goal

pub returns-in-OutOfMap-clause-text : goal.returns-in-OutOfMap-clause-text
returns-in-OutOfMap-clause-text c =
    rw c.in-OutOfMap.is (c.word.ensures.text ∙ append_assoc c.args.line.now (codes "out-of-map at ") (hex_text 8 c.in-OutOfMap.at))
