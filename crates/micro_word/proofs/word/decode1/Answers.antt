use Rattle.micro_word.proofs.Common.{◌≡◌, IsTrue, Option, IfSome, sym, subst, ◌∙◌, Mic1, Placed}
use Rattle.micro_word.specs.Prelude.{microword_of, is_valid}
use Rattle.micro_word.proofs.Coding.{known, back, none}
use Rattle.micro_word.proofs.word.decode1.Goals as goal

pub returns : goal.returns
returns c =
    record {
      known = subst (λ (r : Option Placed). IfSome r (λ p. IsTrue (is_valid Mic1 p) × (microword_of Mic1 p ≡ c.args.bits))) (sym c.decoded.ensures) (known Mic1 c.args.bits);
      back = λ p h e. c.decoded.ensures ∙ back Mic1 c.args.bits p h e;
      none = none Mic1 c.args.bits c.decoded.result c.decoded.ensures;
    }
