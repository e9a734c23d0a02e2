use Rattle.method_linker.proofs.Common.{drop, map, Units, AddsParts, method_part}
use Rattle.method_linker.proofs.method.push_methods.Given as goal

-- what ends with the methods that are left ends with all of them
abbrev pub invariant-loop-method : goal.invariant-loop-method
invariant-loop-method l = (end : Units) → AddsParts l.units end (map (method_part l.first) (drop l.method-index l.methods)) →
    AddsParts l.fn.units end (map (method_part l.first) l.methods)
