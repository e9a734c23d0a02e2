use Rattle.std.proofs.Common.{arith}
use Rattle.mic_alu.proofs.Rounds.{settled, all_reached, none_passed}
use Rattle.mic_alu.proofs.slices.settle.Goals as goal

pub returns-then-more-eq0 : goal.returns-then-more-eq0
returns-then-more-eq0 c = λ carry start i h.
    settled 1 c.args.one.made c.args.one.passed carry (omega arith) start (none_passed c.args.one.made c.args.one.passed 1 c.if-more-eq0.true) 32 i h h

pub returns : goal.returns
returns c = λ carry start i h.
    all_reached 32 c.twice-all.result.made c.twice-all.result.passed carry (omega arith)
    (c.twice-all.ensures carry (c.twice-sixteen.ensures carry (c.twice-eight.ensures carry (c.twice-four.ensures carry (c.twice-two.ensures carry start))))) i h
