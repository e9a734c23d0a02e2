use Rattle.mal_shipped.proofs.Common.{◌≡◌, ◌∙◌, text_of}
use Rattle.mal_shipped.proofs.Lines.{read_as}
use Rattle.mal_shipped.proofs.program.read.Goals as goal

pub returns-in-Ok : goal.returns-in-Ok
returns-in-Ok c =
    let text : c.as_bytes.result.now ≡ text_of c.args.machine = c.as_bytes.ensures.value ∙ c.shipped_text.ensures in
    read_as c.args.machine c.as_bytes.result.now c.parse_mal.result c.in-Ok.program c.in-Ok.is text c.canonical_text_spells_its_program.ensures c.parse_mal.ensures.spelled
