-- The control bits of a next address lead where its statement goes.
use Rattle.mic_datapath.proofs.Common.{◌≡◌, ℕ, true, false, ◌==◌, IsTrue, refl, arith, nat_tests, is_next, addr_bits, jam_bits, is_negative, PlacedNext}
use Rattle.mic_datapath.proofs.Common.{next_address, jammed}
use Rattle.micro_word.specs.declared.statement.PlacedNext.TheVariants as nexts
use Rattle.micro_word.specs.declared.statement.Test.TheVariants as tests

pub by_address : (n : PlacedNext) (x byte : ℕ) → IsTrue (is_next n) → jammed (addr_bits n) (jam_bits n) (is_negative x) (x == 0) byte ≡ next_address n x byte
by_address (nexts.Goto to) x byte h = grind (arith, nat_tests)
by_address (nexts.Dispatch true) x byte h = refl
by_address (nexts.Dispatch false) x byte h = refl
by_address (nexts.Branch tests.N low) x byte h = grind (arith, nat_tests)
by_address (nexts.Branch tests.Z low) x byte h = grind (arith, nat_tests)
