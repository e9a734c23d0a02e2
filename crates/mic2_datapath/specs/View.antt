-- What contracts see of a Mic-2.
use Rattle.std.specs.Prelude.{ℕ, false}
use Rattle.mic_words.specs.declared.machine.Machine.TheVariants as machines
use Rattle.mic2_datapath.specs.Common.{statement_of, Buses, start_buses, Drive}
use Rattle.mic2_datapath.specs.Micro.{Micro}
use Rattle.mic2_datapath.specs.Latches.{micro_in}
use Rattle.mic2_datapath.specs.Mic2.{computed_on, stalled_drive}
use Rattle.mic2_datapath.specs.declared.mic2.Mic2.{Mic2}
use Rattle.mic2_datapath.specs.declared.mic2.Past.{Past}
use Rattle.mic2_datapath.specs.declared.mic2.Past.TheVariants as pasts

abbrev pub micro_of : Mic2 → Micro
micro_of t = micro_in t.latches

-- what is on the buses in a cycle of a word that drives them so
abbrev pub buses_on : ℕ → Drive → Buses
buses_on word d = record { drive = d; computed = computed_on (statement_of machines.Mic2 word) d }

-- what was on the buses in a past cycle: of this word, with this on its sides, where it did not stall
abbrev pub buses_by : Past → ℕ → ℕ → ℕ → Buses
buses_by pasts.Nothing word a b = start_buses
buses_by pasts.Stalled word a b = buses_on word stalled_drive
buses_by pasts.Clocked word a b = buses_on word (record { a = a; b = b; stalled = false })

-- what was on the buses in the cycle that was clocked last
abbrev pub seen : Mic2 → Buses
seen t = buses_by t.past t.last_word t.last_a t.last_b
