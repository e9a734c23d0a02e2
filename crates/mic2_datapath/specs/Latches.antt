-- What the latches of Mic-2 mean: the microstep's state, and what its edge is handed.
use Rattle.std.specs.Prelude.{◌≡◌, ℕ, ◌*◌, ◌+◌, ◌<◌, ◌≤◌, Bool, true, false, IsTrue, length, slice_index, Option, None, is_some}
use Rattle.mic2_datapath.specs.Common.{BusView, signed_byte, signed_pair, Mic2, mem_of, statement_of, fields_of, AreLines, names, shifted, is_canonical, Lines}
use Rattle.mic2_datapath.specs.Common.{NOTHING, Mem, Placed, IsTransfer, LeadsInside, memory_refusal, registers_at, NineRegisters, loaded, sample_refusal}
use Rattle.micro_word.specs.declared.statement.Mem.TheVariants as mems
use Rattle.mic_datapath.specs.declared.ports.Ports.{Ports}
use Rattle.mic2_datapath.specs.Micro.{Micro}
use Rattle.mic2_datapath.specs.Microstep.{demand, is_stalled, result_of, unit_samples}
use Rattle.mic2_datapath.specs.declared.latches.Latches.{Latches}

abbrev pub micro_in : Latches → Micro
micro_in l =
    record {
      mar = slice_index l.places 0;
      mdr = slice_index l.places 1;
      pc = slice_index l.places 2;
      sp = slice_index l.places 3;
      lv = slice_index l.places 4;
      cpp = slice_index l.places 5;
      tos = slice_index l.places 6;
      opc = slice_index l.places 7;
      h = slice_index l.places 8;
      mpc = l.mpc;
      word = l.word;
      unit = l.unit;
      begins = l.begins;
    }

-- what holds of all latches
pub record AreLatches (l : Latches) : Type 0 where
  pub mpc : l.mpc < 512
  pub nothing : slice_index l.places NOTHING ≡ 0

-- a canonical word, with its control lines, which have the number of bytes of the queue that it demands
pub record IsDecoded (word : ℕ) (lines : Lines) : Type 0 where
  pub canonical : IsTrue (is_canonical Mic2 word)
  pub decoded : AreLines Mic2 (fields_of Mic2 word) lines
  pub demands : lines.takes ≡ demand (statement_of Mic2 word)

-- JMPC, JAMN and JAMZ of a word
abbrev pub jam_in : ℕ → ℕ
jam_in word = (fields_of Mic2 word).jam

-- the front of the queue stands on its places, as far as this many bytes of it are named
pub record HasFront (operands : ℕ) (l : Latches) : Type 0 where
  pub byte : 1 ≤ operands → slice_index l.places 9 ≡ signed_byte (slice_index l.unit.bytes 0)
  pub unsigned : 1 ≤ operands → slice_index l.places 10 ≡ slice_index l.unit.bytes 0
  pub pair : 2 ≤ operands → slice_index l.places 11 ≡ signed_pair (slice_index l.unit.bytes 0) (slice_index l.unit.bytes 1)
  pub unsigned_pair : 2 ≤ operands → slice_index l.places 12 ≡ 256 * slice_index l.unit.bytes 0 + slice_index l.unit.bytes 1

-- what left the ALU and the shifter, where the cycle does not stall
pub record HasComputed (s : Placed) (m : Micro) (stalled : Bool) (value c : ℕ) : Type 0 where
  pub waits : stalled ≡ is_stalled s m
  pub alu : stalled ≡ false → value ≡ result_of s.part m
  pub shifter : stalled ≡ false → c ≡ shifted s.part.shift value

-- what a word does that reads, or else writes
abbrev pub access_by : Bool → Mem
access_by true = mems.Read
access_by false = mems.Write

-- the registers, where the C bus went to those that a word names and a word that was read arrived
abbrev pub loaded_in : ℕ → ℕ → Latches → NineRegisters
loaded_in word c l = loaded (fields_of Mic2 word).c c l.word (registers_at l.places)

-- The read or the write of a word was done, and needed no source and no sink: this is what a read sampled.
-- A write is done only where the unit's fetch is not refused.
pub record IsInside (word c taken : ℕ) (l : Latches) (bus bus' : BusView) (word_read : Option ℕ) : Type 0 where
  pub accesses : mem_of (fields_of Mic2 word).mem ≡ access_by (is_some word_read)
  pub clear : memory_refusal (length bus.words) (access_by (is_some word_read)) (loaded_in word c l).mar ≡ None
  pub transfer : (p : Ports) → p.mar ≡ (loaded_in word c l).mar → p.mdr ≡ (loaded_in word c l).mdr →
      LeadsInside bus bus' (λ w v. IsTransfer (length bus.words) (access_by (is_some word_read)) p w word_read v)
  pub samples : is_some word_read ≡ false → sample_refusal (length bus.words) (unit_samples (names (fields_of Mic2 word).c 2) c taken l.unit) ≡ None
  pub same : is_some word_read ≡ true → bus' ≡ bus
