use Rattle.mic1_checks.proofs.Common.{◌≡◌, ◌<◌, length, get_or, sym, ◌∙◌, arith, Write}
use Rattle.mic1_checks.proofs.Alike.{write_decides}
use Rattle.mic1_checks.proofs.Orders.{taken_out}
use Rattle.mic1_checks.proofs.writes.place_of.Goals as goal

pub returns-then-eq-clause-first : goal.returns-then-eq-clause-first
returns-then-eq-clause-first c e fits knows =
    let w = c.args.write in
    let k = c.loop-place.place in
    let none : Write = record { at = 0; value = 0 } in
    let within : k < length c.args.among.now = omega (arith, c.loop-place-test.true) in
    let is : get_or c.args.among.now k none ≡ w = (write_decides (get_or c.args.among.now k none) w).0 (sym c.eq.ensures ∙ c.if-eq.true) in
    taken_out e.word w none c.args.among.now k within is (c.loop-place.invariant e fits knows)
