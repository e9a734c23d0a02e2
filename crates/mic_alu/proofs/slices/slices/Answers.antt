use Rattle.mic_alu.proofs.Slice.{and_bit, or_bit, not_bit, adder_bit, adder_carry}
use Rattle.mic_alu.proofs.slices.slices.Goals as goal

pub returns-in-true-true-clause-bit : goal.returns-in-true-true-clause-bit
returns-in-true-true-clause-bit c = λ i h. adder_bit c.args.wires c.args.a c.args.b c.args.carries i c.in-true-true.is-0 c.in-true-true.is-1

pub returns-in-true-true-clause-carry : goal.returns-in-true-true-clause-carry
returns-in-true-true-clause-carry c = λ i h. adder_carry c.args.wires c.args.a c.args.b c.args.carries i c.in-true-true.is-0 c.in-true-true.is-1

pub returns-in-true-false-clause-bit : goal.returns-in-true-false-clause-bit
returns-in-true-false-clause-bit c = λ i h. not_bit c.args.wires c.args.a c.args.b _ i c.ranges.b.fits h c.in-true-false.is-0 c.in-true-false.is-1

pub returns-in-false-true-clause-bit : goal.returns-in-false-true-clause-bit
returns-in-false-true-clause-bit c = λ i h. or_bit c.args.wires c.args.a c.args.b _ i c.in-false-true.is-0 c.in-false-true.is-1

pub returns-in-false-false-clause-bit : goal.returns-in-false-false-clause-bit
returns-in-false-false-clause-bit c = λ i h. and_bit c.args.wires c.args.a c.args.b _ i c.in-false-false.is-0 c.in-false-false.is-1
