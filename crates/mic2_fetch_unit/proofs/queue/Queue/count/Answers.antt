use Rattle.std.proofs.Common.{length, ap, sym, ◌∙◌}
use Rattle.mic2_fetch_unit.proofs.Packed.{length-bytes_in}
use Rattle.mic2_fetch_unit.proofs.queue.Queue.count.Goals as goal

pub returns-clause-value : goal.returns-clause-value
returns-clause-value c = sym (length-bytes_in c.self.inside.count c.self.inside.bits) ∙ ap length c.self.view_is
