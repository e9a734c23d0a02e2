use Rattle.std.proofs.Common.{◌∙◌, length-set}
use Rattle.micro_word.proofs.Decoded.{canonical_there, decoded_there}
use Rattle.micro_word.proofs.store.Store.set.Goals as goal

pub invariant_of-self : goal.invariant_of-self
invariant_of-self c =
    let at = c.args.address in
    let old = c.self.inside in
    record {
      canonical = canonical_there old.machine old.words at c.word-word.result c.self.told c.requires.address c.self.invariant.canonical c.word-word.ensures.canonical;
      whole = length-set old.lines at c.lines_of.result ∙ c.self.invariant.whole;
      decoded = decoded_there old.machine old.words old.lines at c.word-word.result c.lines_of.result c.self.told c.self.invariant.whole c.requires.address
          c.self.invariant.decoded c.lines_of.ensures;
    }
