-- What contracts see of a Mic-1.
use Rattle.std.specs.Prelude.{ℕ, false, if◌then◌else◌}
use Rattle.mic_clock.specs.Prelude.{Buses, start_buses}
use Rattle.mic1_datapath.specs.Mic1.{computed_on}
use Rattle.mic1_datapath.specs.Micro.{Micro}
use Rattle.mic1_datapath.specs.Latches.{micro_in}
use Rattle.mic1_datapath.specs.declared.mic1.Mic1.{Mic1}

abbrev pub micro_of : Mic1 → Micro
micro_of t = micro_in t.latches

-- what a word has on the buses for these operands
abbrev pub buses_by : ℕ → ℕ → ℕ → Buses
buses_by word a b = record { drive = record { a = a; b = b; stalled = false }; computed = computed_on word a b }

-- What was on the buses in the last cycle, by the word that was clocked last and its operands. No bus is driven before a first cycle.
abbrev pub seen : Mic1 → Buses
seen t = if t.latches.clocked then buses_by t.latches.before t.last_a t.last_b else start_buses
