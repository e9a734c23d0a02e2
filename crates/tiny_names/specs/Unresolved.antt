-- Which fault is reported: the first. Out of memory may be reported at any time.
use Rattle.std.specs.Prelude.{◌≡◌, List, Some, ⊤}
use Rattle.tiny_names.specs.declared.fault.Fault.{Fault}
use Rattle.tiny_names.specs.declared.fault.Unresolved.{Unresolved}
use Rattle.tiny_names.specs.declared.fault.Unresolved.TheVariants as unresolved
use Rattle.tiny_names.specs.Faults.{first}

abbrev pub IsFirst : Unresolved → List Fault → Type 0
IsFirst (unresolved.Fault f) faults = first faults ≡ Some f
IsFirst unresolved.OutOfMemory faults = ⊤
