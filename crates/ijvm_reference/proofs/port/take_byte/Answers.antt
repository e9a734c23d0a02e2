use Rattle.ijvm_reference.proofs.Keeping.{take_reads}
use Rattle.ijvm_reference.proofs.port.take_byte.Goals as goal

pub returns-in-Ok-clause-kept : goal.returns-in-Ok-clause-kept
returns-in-Ok-clause-kept g c =
    take_reads (g.S.Source.left c.args.source.now) (g.S.Source.left c.take.new.source) c.args.console.now c.take.new.self
    (λ e. (c.take.ensures.at_end e).1) (λ e. (c.take.ensures.told e).0) (λ bytes e is. (c.in-Ok.ensures.told e).1 bytes is)
