use Rattle.std.proofs.Common.{◌≡◌, ◌-◌, refl, arith, append_assoc}
use Rattle.mic_base.proofs.DigitLemmas.{hex_text-push, hex_text-zero}
use Rattle.mic_base.proofs.line.Line.+hex.Goals as goal
use Rattle.mic_base.proofs.line.Line.+hex.Goals.{then-digits-gt1, else-digits-gt1}

pub returns-clause-text : goal.returns-clause-text
returns-clause-text t c =
    let pushed = hex_text-push c.args.digits c.args.value c.requires.some in
    elim c.if-digits-gt1.branch [
      | then-digits-gt1 w ↦ rw (pushed, c.digit.ensures, w.self-is, w.hex.ensures.text, append_assoc) refl
      | else-digits-gt1 w ↦
          (let none : c.args.digits - 1 ≡ 0 = omega arith in
          rw (pushed, none, hex_text-zero, c.digit.ensures, w.self-is) refl)
    ]
