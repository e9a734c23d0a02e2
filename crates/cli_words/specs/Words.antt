-- What the words of a command line ask for: a command's name, and then what the entries after it say, by the table.
use Rattle.std.specs.Prelude.{◌≡◌, ◌≤◌, ◌<◌, ℕ, ℤ, pos, Bool, true, false, ◌&&◌, nat_le, if◌then◌else◌, List, [], ◌∷◌, Option, Some, None, Result, Ok, Err, codes, option_and_then, option_map, unwrap_or}
use Rattle.std.specs.Borrow.{Bor}
use Rattle.std.specs.Str.{bytes_eq}
use Rattle.mic_base.specs.Prelude.{number_of}
use Rattle.mic_base.specs.declared.number.NumberError.{NumberError}
use Rattle.mic_words.specs.declared.machine.Machine.{Machine}
use Rattle.mic_words.specs.declared.machine.Machine.TheVariants.{Mic1, Mic2}
use Rattle.console_port.specs.declared.map.MemoryMap.{MemoryMap}
use Rattle.console_port.specs.declared.map.TheConstants.MemoryMap.{LARGE, STANDARD}
use Rattle.console_port.specs.Prelude.{IsMap}
use Rattle.cli_words.specs.Reading.{Entry, Text, reads, text_in}
use Rattle.cli_words.specs.Table.{form_for, name_for}
use Rattle.cli_words.specs.declared.error.WordsError.{WordsError}
use Rattle.cli_words.specs.declared.error.WordsError.TheVariants as error
use Rattle.cli_words.specs.declared.table.CommandName.{CommandName}
use Rattle.cli_words.specs.declared.table.CommandName.TheVariants as name
use Rattle.cli_words.specs.declared.request.Processor.{Processor}
use Rattle.cli_words.specs.declared.request.Processor.TheVariants.{Datapath, Mic3}
use Rattle.cli_words.specs.declared.request.Request.{Request}

-- a request, with its texts as they are read
abbrev pub Asked : Type 0
Asked = Request Text

abbrev pub asked : Request (Bor Text) → Asked
asked r = record {
  command = r.command;
  file = r.file.now;
  target = r.target.now;
  seed = r.seed;
  size = r.size;
  lines = r.lines;
  processor = r.processor;
  bound = r.bound;
  micro = option_map (λ micro. micro.now) r.micro;
  input = option_map (λ input. input.now) r.input;
  depth = r.depth;
  map = r.map;
  buses = r.buses;
}

-- The numbers of the command line.

-- the bound of a run, in cycles, where none is given
abbrev pub default_bound : ℕ
default_bound = 10000000

-- the greatest bound that may be given
abbrev pub most_cycles : ℕ
most_cycles = 1000000000

-- the greatest seed of a generated program
abbrev pub most_seed : ℕ
most_seed = 4294967295

-- the most blocks of a generated program
abbrev pub most_blocks : ℕ
most_blocks = 9000

-- the most lines of a cache
abbrev pub most_lines : ℕ
most_lines = 4096

-- the cycles that a session can go back where no depth is given
abbrev pub default_depth : ℕ
default_depth = 4096

-- the greatest depth that may be given
abbrev pub most_depth : ℕ
most_depth = 65536

-- one of the two maps
abbrev pub HasMap : MemoryMap → Type 0
HasMap map = IsMap map.stack_end

-- a cache has at least one line, and at most the most lines
abbrev pub IsLineCount : ℕ → Type 0
IsLineCount lines = (0 < lines) × (lines ≤ most_lines)

-- a session can go back by at least one cycle, and at most by the most cycles
abbrev pub IsDepth : ℕ → Type 0
IsDepth depth = (0 < depth) × (depth ≤ most_depth)

-- The map of a request is one of the two, its numbers are within their limits, and Mic-3 is named only for `run`, with the
-- microprogram that ships.
pub record HasLimits {T : Type 0} (r : Request T) : Type 0 where
  pub size : r.size ≤ most_blocks
  pub lines : IsLineCount r.lines
  pub bound : r.bound ≤ most_cycles
  pub depth : IsDepth r.depth
  pub map : HasMap r.map
  pub mic3 : r.processor ≡ Mic3 → (r.command ≡ name.Run) × (r.micro ≡ None)

-- The value of an option, where it is given, and what holds where it is not.

-- the datapath whose microprograms are clocked
abbrev pub machine_of : Processor → Machine
machine_of (Datapath machine) = machine
machine_of Mic3 = Mic2

-- Mic-3 is named only where it is taken
abbrev pub processor_in : Bool → Option Text → Option Processor
processor_in takes_mic3 None = Some (Datapath Mic1)
processor_in takes_mic3 (Some word) =
    if bytes_eq word (codes "mic1") then Some (Datapath Mic1)
    else (if bytes_eq word (codes "mic2") then Some (Datapath Mic2)
    else (if bytes_eq word (codes "mic3") && takes_mic3 then Some Mic3 else None))

-- `run` takes Mic-3, with the microprogram that ships
abbrev pub takes_mic3 : CommandName → Option Text → Bool
takes_mic3 name.Run None = true
takes_mic3 _ _ = false

abbrev pub map_in : Option Text → Option MemoryMap
map_in None = Some STANDARD
map_in (Some word) = if bytes_eq word (codes "standard") then Some STANDARD else (if bytes_eq word (codes "large") then Some LARGE else None)

-- a number from the least to the greatest
abbrev pub number_within : ℕ → ℕ → Result ℤ NumberError → Option ℕ
number_within least greatest (Ok (pos n)) = if nat_le least n && nat_le n greatest then Some n else None
number_within least greatest _ = None

-- a number from the least to the greatest; the default where none is given
abbrev pub number_in : (default least greatest : ℕ) → Option Text → Option ℕ
number_in default least greatest None = Some default
number_in default least greatest (Some word) = number_within least greatest (number_of word)

-- A flag reads as `true` where it is given, and as `false` where it is not.

abbrev pub is_true : Option Text → Bool
is_true None = false
is_true (Some word) = bytes_eq word (codes "true")

-- What a command asks for, by the text that each name got. A plain word that the command does not take is empty, or the least number.
abbrev pub asked_by : CommandName → (Text → Option Text) → Option Asked
asked_by command text =
    option_and_then (λ seed. option_and_then (λ size. option_and_then (λ lines. option_and_then (λ processor.
    option_and_then (λ bound. option_and_then (λ depth. option_map (λ map. record {
      command = command;
      file = unwrap_or (text (codes "FILE")) [];
      target = unwrap_or (text (codes "TARGET")) [];
      seed = seed;
      size = size;
      lines = lines;
      processor = processor;
      bound = bound;
      micro = text (codes "micro");
      input = text (codes "input");
      depth = depth;
      map = map;
      buses = is_true (text (codes "buses"));
    })
    (map_in (text (codes "map")))) (number_in default_depth 1 most_depth (text (codes "depth"))))
    (number_in default_bound 0 most_cycles (text (codes "bound")))) (processor_in (takes_mic3 command (text (codes "micro"))) (text (codes "machine"))))
    (number_in 1 1 most_lines (text (codes "LINES")))) (number_in 1 1 most_blocks (text (codes "SIZE")))) (number_in 0 0 most_seed (text (codes "SEED")))

-- what a command with these entries asks for
abbrev pub asked_of : CommandName → List Entry → Option Asked
asked_of command given = asked_by command (λ name. text_in name given)

-- what a command that is named asks for, with the words after its name
abbrev pub asked_after : Option CommandName → List Text → Option Asked
asked_after None words = None
asked_after (Some command) words = option_and_then (asked_of command) (reads (form_for command) words)

-- what a whole list of words asks for, or nothing where it is a usage fault
abbrev pub request_of : List Text → Option Asked
request_of [] = None
request_of (command ∷ words) = asked_after (name_for command) words

-- the result is the request of what the words ask for, or a usage error where they ask for nothing
abbrev pub AnswersAs : Option Asked → Result (Request (Bor Text)) WordsError → Type 0
AnswersAs asks (Ok request) = asks ≡ Some (asked request)
AnswersAs asks (Err error.Usage) = asks ≡ None
AnswersAs asks (Err error.OutOfMemory) = Unit {0}

-- What a command over a file asks for, where all else is as it is by default.

abbrev over : CommandName → Text → Asked
over command file = record {
  command = command;
  file = file;
  target = [];
  seed = 0;
  size = 1;
  lines = 1;
  processor = Datapath Mic1;
  bound = default_bound;
  micro = None;
  input = None;
  depth = default_depth;
  map = STANDARD;
  buses = false;
}

-- `run`, by the microprogram that ships
abbrev pub Run : Text → Machine → ℕ → MemoryMap → Asked
Run file machine bound map = record (over name.Run file) { processor = Datapath machine; bound = bound; map = map }

abbrev pub Reference : Text → Machine → ℕ → MemoryMap → Asked
Reference file machine bound map = record (over name.Reference file) { processor = Datapath machine; bound = bound; map = map }

-- `cache`, with this many lines
abbrev pub Cache : Text → ℕ → ℕ → MemoryMap → Asked
Cache file lines bound map = record (over name.Cache file) { lines = lines; bound = bound; map = map }

abbrev pub Tiny : Text → Machine → ℕ → Asked
Tiny file machine bound = record (over name.Tiny file) { processor = Datapath machine; bound = bound }
