use Rattle.verifier_locals.proofs.Common.{◌∙◌, sym, w64, bit_at_set_same, bit_at_set_other}
use Rattle.verifier_locals.proofs.local_set.LocalSet.with.Goals as goal

pub returns-clause-added : goal.returns-clause-added
returns-clause-added c = bit_at_set_same w64 c.args.self.bits c.args.place c.requires

pub returns-clause-others : goal.returns-clause-others
returns-clause-others c = λ i ne.
    let same = bit_at_set_other w64 c.args.self.bits c.args.place c.requires i ne in (λ h. sym same ∙ h, λ h. same ∙ h)
