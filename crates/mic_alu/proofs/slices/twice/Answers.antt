use Rattle.mic_alu.proofs.Rounds.{twice, more_made, fewer_passed}
use Rattle.mic_alu.proofs.slices.twice.Goals as goal

pub returns : goal.returns
returns c = λ carry start.
    twice c.args.reach c.args.handed.made c.args.handed.passed _ _ carry
    (more_made c.args.handed.made c.args.handed.passed c.args.reach)
    (fewer_passed c.args.handed.passed c.args.reach)
    start
