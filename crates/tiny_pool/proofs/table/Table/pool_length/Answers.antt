use Rattle.tiny_pool.proofs.Pools.{pool_words}
use Rattle.tiny_pool.proofs.table.Table.pool_length.Goals as goal

pub returns : goal.returns
returns c = pool_words c.args.self.now
