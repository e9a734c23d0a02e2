use Rattle.tiny_names.proofs.Common.{◌≡◌, ◌≤◌, ◌++◌, drop, length, map, first, parameter_faults, name_of}
use Rattle.tiny_names.proofs.program.declare_all.Given as goal

abbrev pub invariant-loop-parameter : goal.invariant-loop-parameter
invariant-loop-parameter l = let rest = drop l.parameter-index l.parameters in record {
  same : first (parameter_faults l.fn.declared.items l.parameters) ≡ first (parameter_faults l.declared.items rest);
  all : l.declared.items ++ map name_of rest ≡ l.fn.declared.items ++ map name_of l.parameters;
  few : length l.declared.items ≤ 255;
}
