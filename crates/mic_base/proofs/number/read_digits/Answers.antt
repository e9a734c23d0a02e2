use Rattle.mic_base.proofs.Common.{sym, is_digit}
use Rattle.mic_base.proofs.DigitLemmas.{list_all-position}
use Rattle.mic_base.proofs.number.read_digits.Goals as goal

pub magnitude-requires-clause-digits : goal.magnitude-requires-clause-digits
magnitude-requires-clause-digits c = list_all-position (λ b. is_digit b c.args.base) c.args.digits.now (sym c.in-None.ensures)
