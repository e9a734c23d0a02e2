-- The lines of a session, as bytes. Words have 8 hexadecimal digits in lower case, addresses of the control store 3.
use Rattle.std.specs.Prelude.{ℕ, suc, zero, ◌+◌, ◌-◌, min, max, Bool, List, [], ◌++◌, Option, Some, None, codes, if◌then◌else◌}
use Rattle.mic_debugger.specs.Common.{decimal, hex_text, Boundary, Counts, Registers, state_line, word_line}
use Rattle.mic_debugger.specs.Book.{Book}

-- the text of a cycle's statement, `stall` where the cycle was a stall
abbrev pub cycle_text : Book → ℕ → Bool → List ℕ
cycle_text book mpc stalled = if stalled then codes "stall" else book.text mpc

-- a clocked cycle: its number, the address of its word, the label, and the text of the statement where it was no stall
unfoldable pub clocked_line : Book → ℕ → ℕ → Bool → List ℕ
clocked_line book cycles mpc stalled =
    decimal cycles ++ codes " " ++ hex_text 3 mpc ++ codes " " ++ book.label mpc ++ codes " " ++ cycle_text book mpc stalled ++ codes "\n"

-- the registers after a cycle
unfoldable pub registers_line : Registers → List ℕ
registers_line r = codes "  " ++ state_line r ++ codes "\n"

-- the last boundary's address and instruction
abbrev pub place_text : Book → Option Boundary → List ℕ
place_text book None = codes "- -"
place_text book (Some b) = hex_text 8 b.at ++ codes " " ++ book.instruction b.at

-- where a run stands: the cycles and the last boundary
unfoldable pub place_line : Book → Counts → List ℕ
place_line book c = codes "cycle " ++ decimal c.cycles ++ codes " at " ++ place_text book c.boundary

-- the word that comes next
unfoldable pub next_line : Book → ℕ → List ℕ
next_line book mpc = codes " mpc " ++ hex_text 3 mpc ++ codes " " ++ book.label mpc ++ codes " " ++ book.text mpc ++ codes "\n"

abbrev pub where_line : Book → Counts → ℕ → List ℕ
where_line book c mpc = place_line book c ++ next_line book mpc

-- this many memory words, from an address on
abbrev pub word_lines : List ℕ → ℕ → ℕ → List ℕ
word_lines memory first zero = []
word_lines memory first (suc n) = word_lines memory first n ++ word_line memory (first + n)

-- the words from LV up to SP of a memory that has this many, at most the 64 highest of them
unfoldable pub stack_text : List ℕ → ℕ → ℕ → ℕ → List ℕ
stack_text memory count lv sp =
    let over = min (sp + 1) count in
    let first = max lv (over - 64) in
    word_lines memory first (over - first)
