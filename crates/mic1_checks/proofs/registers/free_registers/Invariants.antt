use Rattle.mic1_checks.proofs.registers.free_registers.Given as goal

abbrev pub invariant-loop : goal.invariant-loop
invariant-loop l = Unit {0}
