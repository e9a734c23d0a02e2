use Rattle.mic1_cycles.proofs.Common.{◌≡◌, flag, Holds}
use Rattle.micro_word.specs.declared.statement.Test.TheVariants as tests
use Rattle.mic1_cycles.proofs.next.with_its_sign.Given as goal

abbrev pub invariant-loop : goal.invariant-loop
invariant-loop l = Holds l.nodes (λ e. flag tests.N (e.word l.number) ≡ flag tests.N (e.word l.x))
