-- What a cycle does in memory, by what the ports are given; the order of a write, a read and a fetch is this profile's.
use Rattle.std.specs.Prelude.{ℕ, Bool, true, false, Option, Some, None}
use Rattle.console_port.specs.Prelude.{World, Refusal, after_write, after_read, read_value, byte_in, write_refusal, read_refusal, fetch_refusal}
use Rattle.micro_word.specs.declared.statement.Mem.{Mem}
use Rattle.micro_word.specs.declared.statement.Mem.TheVariants as mems
use Rattle.mic_clock.specs.Prelude.{Outcome, Done, unless_refused}
use Rattle.mic_datapath.specs.declared.ports.Ports.{Ports}

abbrev pub ports_with : ℕ → ℕ → ℕ → Ports
ports_with mar mdr pc = record { mar = mar; mdr = mdr; pc = pc }

-- A write stores MDR at MAR, both as they are after the edge's loads.

abbrev pub written : ℕ → Mem → Ports → World → World
written stack_end mems.Write p w = after_write stack_end w p.mar p.mdr
written stack_end mems.Read p w = w
written stack_end mems.None p w = w

-- A read samples the word at MAR, and a fetch the byte at PC, in the world after the write. They arrive at the next edge.

abbrev pub word_under_way : ℕ → Mem → Ports → World → Option ℕ
word_under_way stack_end mems.Read p w = Some (read_value stack_end w.words w.untaken p.mar)
word_under_way stack_end mems.Write p w = None
word_under_way stack_end mems.None p w = None

abbrev pub byte_under_way : Bool → Ports → World → Option ℕ
byte_under_way true p w = Some (byte_in w.words p.pc)
byte_under_way false p w = None

abbrev pub sampled : ℕ → Mem → Ports → World → World
sampled stack_end mems.Read p w = after_read stack_end w p.mar
sampled stack_end mems.Write p w = w
sampled stack_end mems.None p w = w

-- Why a step is refused, if it is: a write, a read and a fetch are looked at in this order.

abbrev pub memory_refusal : ℕ → Mem → ℕ → Option Refusal
memory_refusal stack_end mems.Write at = write_refusal stack_end at
memory_refusal stack_end mems.Read at = read_refusal stack_end at
memory_refusal stack_end mems.None at = None

abbrev pub byte_refusal : ℕ → Bool → ℕ → Option Refusal
byte_refusal stack_end true at = fetch_refusal stack_end at
byte_refusal stack_end false at = None

abbrev pub first_refusal : Option Refusal → Option Refusal → Option Refusal
first_refusal (Some refusal) other = Some refusal
first_refusal None other = other

abbrev pub access_refusal : ℕ → Mem → Bool → Ports → Option Refusal
access_refusal stack_end mem fetch p = first_refusal (memory_refusal stack_end mem p.mar) (byte_refusal stack_end fetch p.pc)

-- a step that is done where no access is refused
abbrev pub outcome : {State : Type 0} → Option Refusal → State → World → Outcome State
outcome refusal s w = unless_refused refusal (Done s w)
