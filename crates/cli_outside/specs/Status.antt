-- The statuses by name: how a call of `mic` ended.
use Rattle.std.specs.Prelude.{ℕ}

-- the command is done, or its run ended by HALT
abbrev pub done : ℕ
done = 0

-- The run ended by ERR; at its bound; at the end of the stack.

abbrev pub error : ℕ
error = 1

abbrev pub bound : ℕ
bound = 2

abbrev pub stack_limit : ℕ
stack_limit = 3

-- the words ask for nothing
abbrev pub usage : ℕ
usage = 64

-- the file's contents are refused
abbrev pub refused : ℕ
refused = 65

-- the file could not be read or written
abbrev pub file : ℕ
file = 66

-- the file is too long
abbrev pub too_long : ℕ
too_long = 67

-- The run left the memory map; met no boundary for too long.

abbrev pub out_of_map : ℕ
out_of_map = 68

abbrev pub adrift : ℕ
adrift = 69

-- the console failed
abbrev pub console : ℕ
console = 70

-- `out` or `err` failed
abbrev pub sink : ℕ
sink = 71

-- memory ran out
abbrev pub memory : ℕ
memory = 75
