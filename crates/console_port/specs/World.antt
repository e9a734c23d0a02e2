-- The world of a machine: the memory's words, the console bytes not yet taken and those given. This profile's memory map decides each access.
use Rattle.std.specs.Prelude.{ℕ, ◌-◌, ◌/◌, ◌%◌, ◌^◌, nat_lt, ◌==◌, if◌then◌else◌, List, [], ◌∷◌, ◌++◌, drop, slice_index, slice_set, Option, Some, None}
use Rattle.console_port.specs.declared.fault.BusFault.{BusFault}
use Rattle.console_port.specs.declared.fault.BusFault.TheVariants as faults
use Rattle.console_port.specs.declared.map.TheConstants.{CONSOLE, STACK_SIDE}

pub record World : Type 0 where
  pub words : List ℕ
  pub untaken : List ℕ
  pub given : List ℕ

-- why the map refuses an address
pub data Refusal : Type 0 where
  StackLimit : (at : ℕ) → Refusal
  OutOfMap : (at : ℕ) → Refusal

-- the fault that a refused access returns
abbrev pub fault_of : Refusal → BusFault
fault_of (StackLimit at) = faults.StackLimit at
fault_of (OutOfMap at) = faults.OutOfMap at

-- the address of the console
abbrev pub console_at : ℕ
console_at = CONSOLE

-- The memory has its words below `stack_end`. Each access below looks for them first, and then for the console.

-- why a write there is refused
unfoldable pub write_refusal : ℕ → ℕ → Option Refusal
write_refusal stack_end at =
    if nat_lt at stack_end then None else
    if at == console_at then None else
    if nat_lt at STACK_SIDE then Some (StackLimit at) else Some (OutOfMap at)

-- why a read there is refused
unfoldable pub read_refusal : ℕ → ℕ → Option Refusal
read_refusal stack_end at =
    if nat_lt at stack_end then None else
    if at == console_at then None else Some (OutOfMap at)

-- why a fetch of the word there is refused
unfoldable pub word_refusal : ℕ → ℕ → Option Refusal
word_refusal stack_end at = if nat_lt at stack_end then None else Some (OutOfMap at)

-- why a fetch at this byte address is refused
unfoldable pub fetch_refusal : ℕ → ℕ → Option Refusal
fetch_refusal stack_end byte = if nat_lt (byte / 4) stack_end then None else Some (OutOfMap (byte / 4))

-- the next input byte, which is the low 8 bits of what comes next, or 0 where none is left
abbrev pub next_byte : List ℕ → ℕ
next_byte [] = 0
next_byte (byte ∷ bytes) = byte % 256

-- The definitions below are for accesses that are not refused.

-- the value that a read there gives, from these words and untaken bytes
unfoldable pub read_value : ℕ → List ℕ → List ℕ → ℕ → ℕ
read_value stack_end words untaken at = if nat_lt at stack_end then slice_index words at else next_byte untaken

-- the untaken bytes after a read there
unfoldable pub untaken_after : ℕ → List ℕ → ℕ → List ℕ
untaken_after stack_end untaken at = if nat_lt at stack_end then untaken else drop 1 untaken

-- the bytes given after a write there, which gives the low 8 bits
unfoldable pub given_after : ℕ → List ℕ → ℕ → ℕ → List ℕ
given_after stack_end given at value = if nat_lt at stack_end then given else given ++ (value % 256) ∷ []

-- the world after a read there
abbrev pub after_read : ℕ → World → ℕ → World
after_read stack_end w at = record { words = w.words; untaken = untaken_after stack_end w.untaken at; given = w.given }

-- the world after a write there; a list is unchanged by a write past its end
abbrev pub after_write : ℕ → World → ℕ → ℕ → World
after_write stack_end w at value =
    record { words = slice_set w.words at value; untaken = w.untaken; given = given_after stack_end w.given at value }

-- byte 0, 1, 2 or 3 of a word, the most significant first
abbrev pub byte_of : ℕ → ℕ → ℕ
byte_of word place = word / 256 ^ (3 - place) % 256

-- the byte at a byte address
unfoldable pub byte_in : List ℕ → ℕ → ℕ
byte_in words byte = byte_of (slice_index words (byte / 4)) (byte % 4)
