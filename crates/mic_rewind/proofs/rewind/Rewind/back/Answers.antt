use Rattle.mic_rewind.proofs.Keeping.{back_keeps}
use Rattle.mic_rewind.proofs.rewind.Rewind.back.Goals as goal

pub invariant_of-self : goal.invariant_of-self
invariant_of-self g c =
    back_keeps g.M.Clocked.state g.M.Clocked.meaning c.self.inside.board c.self.inside.history c.back.new.self c.back.result c.back.ensures.went c.back.ensures.stayed c.self.invariant
