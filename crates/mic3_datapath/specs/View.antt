-- What contracts see of a Mic-3.
use Rattle.std.specs.Prelude.{ℕ, Bool, Option, Some, None}
use Rattle.mic3_datapath.specs.Common.{Computed as Values, Buses}
use Rattle.mic2_datapath.specs.Prelude.{flagged, stalled_value}
use Rattle.mic3_datapath.specs.Mic3.{driven_by}
use Rattle.mic3_datapath.specs.Pipeline.{Pipeline, Computed}
use Rattle.mic3_datapath.specs.Slots.{pipeline_in}
use Rattle.mic3_datapath.specs.declared.mic3.Mic3.{Mic3}

abbrev pub pipeline_of : Mic3 → Pipeline
pipeline_of t = pipeline_in t.pipeline

-- what left the ALU and the shifter for the statement in the result slot, with this result
abbrev pub values_by : ℕ → Option Computed → Values
values_by value None = stalled_value
values_by value (Some c) = flagged value c.value

-- what was on the buses in the cycle after which this is in the slots: whether it stalled and what left the ALU are not there
abbrev pub buses_before : Bool → ℕ → Pipeline → Buses
buses_before stalled value p =
    record { drive = record (driven_by p.operand) { stalled = stalled }; computed = values_by value p.result }

-- what was on the buses in the cycle that was clocked last
abbrev pub seen : Mic3 → Buses
seen t = buses_before t.stalled t.value (pipeline_of t)
