-- How a run ended: the name that its report gives, and the status.
use Rattle.std.specs.Prelude.{ℕ, List, ◌++◌, codes}
use Rattle.mic_base.specs.Prelude.{hex_text}
use Rattle.cli_outside.specs.Status as exits
use Rattle.mic_clock.specs.declared.end.End.{End}
use Rattle.mic_clock.specs.declared.end.End.TheVariants as ends
use Rattle.ijvm_reference.specs.declared.plain.PlainEnd.{PlainEnd}
use Rattle.ijvm_reference.specs.declared.plain.PlainEnd.TheVariants as plain

abbrev pub end_name : End → List ℕ
end_name ends.Halt = codes "halt"
end_name ends.Err = codes "error"
end_name ends.Bound = codes "bound"
end_name ends.StackLimit = codes "stack-limit"
end_name ends.ReadFault = codes "read-fault"
end_name ends.WriteFault = codes "write-fault"
end_name (ends.OutOfMap at) = codes "out-of-map at " ++ hex_text 8 at
end_name ends.Adrift = codes "adrift"

abbrev pub status_of : End → ℕ
status_of ends.Halt = exits.done
status_of ends.Err = exits.error
status_of ends.Bound = exits.bound
status_of ends.StackLimit = exits.stack_limit
status_of ends.ReadFault = exits.console
status_of ends.WriteFault = exits.sink
status_of (ends.OutOfMap at) = exits.out_of_map
status_of ends.Adrift = exits.adrift

-- the clock's word for an end of the plain machine
abbrev pub clocked_end : PlainEnd → End
clocked_end plain.Halt = ends.Halt
clocked_end plain.Err = ends.Err
clocked_end plain.Bound = ends.Bound
clocked_end plain.StackLimit = ends.StackLimit
clocked_end plain.ReadFault = ends.ReadFault
clocked_end plain.WriteFault = ends.WriteFault
