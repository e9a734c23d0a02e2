-- What the latches of Mic-1 mean: the microstep's state.
use Rattle.std.specs.Prelude.{◌≡◌, ℕ, ◌<◌, ◌==◌, Bool, true, false, if◌then◌else◌, List, IsTrue, Option, Some, None, slice_index}
use Rattle.mic1_datapath.specs.Common.{signed_byte, fields_of, is_canonical, NOTHING, Mem}
use Rattle.mic_words.specs.declared.machine.Machine.TheVariants as machines
use Rattle.micro_word.specs.declared.statement.Mem.TheVariants as mems
use Rattle.mic1_datapath.specs.Micro.{Micro}
use Rattle.mic1_datapath.specs.declared.latches.Latches.{Latches}

-- whether the word reads, and whether it fetches: then what was sampled arrives
abbrev pub reads : ℕ → Bool
reads word = (fields_of machines.Mic1 word).mem == 1

abbrev pub fetches : ℕ → Bool
fetches word = (fields_of machines.Mic1 word).fetch == 1

-- what a word accesses that reads, or does not read and writes
abbrev pub access_by : Bool → Mem
access_by true = mems.Read
access_by false = mems.Write

abbrev pub under_way : Bool → ℕ → Option ℕ
under_way is value = if is then Some value else None

abbrev pub micro_in : Latches → Micro
micro_in l =
    record {
      mar = slice_index l.places 0;
      mdr = slice_index l.places 1;
      pc = slice_index l.places 2;
      sp = slice_index l.places 3;
      lv = slice_index l.places 4;
      cpp = slice_index l.places 5;
      tos = slice_index l.places 6;
      opc = slice_index l.places 7;
      h = slice_index l.places 8;
      mbr = slice_index l.places 10;
      mpc = l.mpc;
      word = under_way (reads l.before) l.word;
      byte = under_way (fetches l.before) l.byte;
      entry = l.entry;
      clocked = l.clocked;
    }

-- the place of MBR with its sign shows the byte at the place without
abbrev pub HasSignedMbr : List ℕ → Type 0
HasSignedMbr places = slice_index places 9 ≡ signed_byte (slice_index places 10)

-- what holds of all latches
pub record AreLatches (l : Latches) : Type 0 where
  pub mpc : l.mpc < 512
  pub mbr : slice_index l.places 10 < 256
  pub signed : HasSignedMbr l.places
  pub nothing : slice_index l.places NOTHING ≡ 0
  pub before : IsTrue (is_canonical machines.Mic1 l.before)
