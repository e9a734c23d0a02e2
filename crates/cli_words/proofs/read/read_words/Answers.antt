use Rattle.std.proofs.Common.{◌∙◌, sym}
use Rattle.cli_words.proofs.Asking.{words_ask}
use Rattle.cli_words.proofs.read.read_words.Goals as goal

pub returns-in-Some-request_in-clause-asks : goal.returns-in-Some-request_in-clause-asks
returns-in-Some-request_in-clause-asks c =
    words_ask c.args.words.now c.command-item.result c.as_str.result.now c.in-Some.row.command c.in_ok-matches.matches
    c.in-len1-up.len_at_least c.command-item.is c.as_str.ensures.value c.in-Some.ensures.0 c.in_ok-matches.ensures
    ∙ sym c.in-Some-request_in.ensures.asks

pub returns-clause-asks : goal.returns-clause-asks
returns-clause-asks c =
    words_ask c.args.words.now c.command-item.result c.as_str.result.now c.in-Some.row.command c.in_ok-matches.matches
    c.in-len1-up.len_at_least c.command-item.is c.as_str.ensures.value c.in-Some.ensures.0 c.in_ok-matches.ensures
    ∙ sym c.in-None.ensures.asks
