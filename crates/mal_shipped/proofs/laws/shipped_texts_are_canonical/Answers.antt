use Rattle.mal_shipped.proofs.Texts.{canonical}
use Rattle.mal_shipped.proofs.laws.shipped_texts_are_canonical.Goals as goal

pub returns : goal.returns
returns c = canonical
