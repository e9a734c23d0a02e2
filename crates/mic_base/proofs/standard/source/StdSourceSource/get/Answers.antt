use Rattle.mic_base.proofs.ReadLemmas.{reads_as}
use Rattle.mic_base.proofs.standard.source.StdSourceSource.get.Goals as goal

pub returns-clause-read : goal.returns-clause-read
returns-clause-read g c =
    reads_as (g.R.Read.remaining c.args.self.now.reader) (g.R.Read.remaining c.next_byte.new.reader) c.next_byte.result c.byte_read.result
    c.byte_read.ensures.next c.byte_read.ensures.failed c.next_byte.ensures.read
