use Rattle.std.proofs.Common.{arith, ap, length}
use Rattle.method_linker.proofs.image.link.Goals as goal

pub new-requires : goal.new-requires
new-requires c = record {
  text_fits = omega (arith, c.in_ok-size.ensures.is);
  pool_fits = omega (arith, ap length c.in_ok-pool.ensures, c.in_ok-count.ensures.words);
}
