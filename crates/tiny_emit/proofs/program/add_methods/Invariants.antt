use Rattle.tiny_emit.proofs.Common.{drop, places_in, methods, Units, AddsMethods, program_of}
use Rattle.tiny_emit.proofs.Texts.{Others}
use Rattle.tiny_emit.proofs.program.add_methods.Given as goal

-- what ends with the methods that are left ends with all of them
abbrev pub invariant-loop-position : goal.invariant-loop-position
invariant-loop-position l = (end : Units) →
    AddsMethods (places_in l.table) l.units end (Others l.main l.position (drop l.position l.functions)) →
    AddsMethods (places_in l.table) l.fn.units end (methods (program_of l.functions l.main))
