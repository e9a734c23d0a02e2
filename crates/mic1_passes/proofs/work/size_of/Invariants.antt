use Rattle.mic1_passes.proofs.work.size_of.Given as goal

abbrev pub invariant-loop-node : goal.invariant-loop-node
invariant-loop-node l = Unit {0}
