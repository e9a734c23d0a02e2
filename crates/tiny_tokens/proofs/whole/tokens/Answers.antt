use Rattle.std.proofs.Common.{subst}
use Rattle.source_text.specs.Prelude.{contents, Leads}
use Rattle.tiny_tokens.specs.Prelude.{step}
use Rattle.tiny_tokens.proofs.Adding.{has_tokens}
use Rattle.tiny_tokens.proofs.whole.tokens.Goals as goal

pub returns : goal.returns
returns c = has_tokens c.lines_have_one_reading.ensures.some c.lines_have_one_reading.ensures.one c.args.text.now c.read_lines.new.reader c.into_tokens.result.items
    (subst (λ s. Leads step 1 s (contents c.args.text.now) c.read_lines.new.reader) c.in_ok-held.ensures c.in_ok-read_lines.ensures.ok) c.into_tokens.ensures
