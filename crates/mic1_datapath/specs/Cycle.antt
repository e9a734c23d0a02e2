-- What the edge of Mic-1 is handed: a word with its control lines, and what leaves the ALU and the shifter. And an edge that
-- needs no source and no sink.
use Rattle.std.specs.Prelude.{◌≡◌, ℕ, Bool, true, false, Option}
use Rattle.mic1_datapath.specs.Common.{BusView, IsDecoded, IsEdgeInside, mem_of, statement_of, fields_of, shifted, Lines, Ports}
use Rattle.mic_words.specs.declared.machine.Machine.TheVariants as machines
use Rattle.micro_word.specs.declared.statement.Mem.TheVariants as mems
use Rattle.mic1_datapath.specs.Latches.{AreLatches, fetches, micro_in}
use Rattle.mic1_datapath.specs.Mic1.{mic1_meaning}
use Rattle.mic1_datapath.specs.Microstep.{assigned, next_micro, ports_of, result_of, settled}
use Rattle.mic1_datapath.specs.Micro.{Micro}
use Rattle.mic1_datapath.specs.declared.edge.Try.{Try}
use Rattle.mic1_datapath.specs.declared.edge.Try.TheVariants as tries
use Rattle.mic1_datapath.specs.declared.latches.Latches.{Latches}

-- what leaves the ALU, and what is on the C bus
pub record HasComputed (word : ℕ) (m : Micro) (value c : ℕ) : Type 0 where
  pub value_is : value ≡ result_of (statement_of machines.Mic1 word).part m
  pub c_is : c ≡ shifted (statement_of machines.Mic1 word).part.shift value

-- what an edge is handed
pub record IsAtEdge (l : Latches) (word : ℕ) (lines : Lines) (value c : ℕ) : Type 0 where
  pub latches : AreLatches l
  pub decoded : IsDecoded machines.Mic1 word lines
  pub computed : HasComputed word (micro_in l) value c

-- the state after a word that has this value out of the ALU, with what its accesses sampled under way
abbrev pub moved_on : ℕ → ℕ → Micro → Option ℕ → Option ℕ → Micro
moved_on word value m read byte = next_micro (statement_of machines.Mic1 word).next value (settled (statement_of machines.Mic1 word).part m) read byte

-- the latches after a clocked word, which they keep
abbrev pub IsLast : ℕ → Latches → Type 0
IsLast word l = (l.before ≡ word) × (l.clocked ≡ true)

-- what the memory's ports are given at the edge of a word, where this is on the C bus
abbrev pub ports_at : ℕ → ℕ → Micro → Ports
ports_at word c m = ports_of (assigned (fields_of machines.Mic1 word).c c m)

-- a word that accesses nothing
abbrev pub IsQuiet : ℕ → Type 0
IsQuiet word = (mem_of (fields_of machines.Mic1 word).mem ≡ mems.None) × (fetches word ≡ false)

-- whether a try did the edge
abbrev pub is_done : Try → Bool
is_done tries.Done = true
is_done tries.Outside = false
is_done tries.Other = false

-- an edge that needs no source and no sink is done, or all is as it was
pub record IsTried (word : ℕ) (l : Latches) (bus : BusView) (l' : Latches) (bus' : BusView) (done : Bool) : Type 0 where
  pub latches : AreLatches l'
  pub edge : done ≡ true → IsEdgeInside mic1_meaning word (micro_in l) bus (micro_in l') bus'
  pub last : done ≡ true → IsLast word l'
  pub ended : bus'.console.ended ≡ bus.console.ended
  pub none : done ≡ false → (l' ≡ l) × (bus' ≡ bus)
