use Rattle.verifier_locals.proofs.Common.{◌∙◌, arith, sym, w64, bit_at_clear_same, bit_at_clear_other}
use Rattle.verifier_locals.proofs.local_set.LocalSet.without.Goals as goal

pub returns-clause-taken : goal.returns-clause-taken
returns-clause-taken c = λ has. let none = bit_at_clear_same w64 c.args.self.bits c.args.place c.requires in omega (arith, none, has)

pub returns-clause-others : goal.returns-clause-others
returns-clause-others c = λ i lt ne.
    let same = bit_at_clear_other w64 c.args.self.bits c.args.place c.requires i lt ne in (λ h. sym same ∙ h, λ h. same ∙ h)
