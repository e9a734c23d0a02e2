use Rattle.cli_micro.proofs.Common.{◌∙◌, ap, refusal_by, OfText}
use Rattle.cli_micro.proofs.Answering.{no_text}
use Rattle.cli_micro.proofs.listing.printed.Goals as goal

pub returns-in_ok-print_mal-in-Ok-clause-ok : goal.returns-in_ok-print_mal-in-Ok-clause-ok
returns-in_ok-print_mal-in-Ok-clause-ok c = OfText c.in-Ok.program c.requires.text c.in-Ok.ensures.ok c.in_ok-print_mal-in-Ok.ensures.text

pub returns-in-Err-clause-err : goal.returns-in-Err-clause-err
returns-in-Err-clause-err c =
    no_text c.args.machine c.args.bytes.now c.in-Err.error c.by.result c.requires.text c.in-Err.ensures.err (c.by.ensures ∙ ap refusal_by c.mal_reason.ensures)
