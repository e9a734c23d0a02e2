-- What is printed of a placed program and of a control store. Addresses have three hexadecimal digits, words as many as the machine's need.
use Rattle.std.specs.Prelude.{ℕ, List, [], ◌∷◌, ◌++◌, length, map, slice_index, codes}
use Rattle.cli_micro.specs.Common.{decimal, hex_text, Machine, Mic1, Mic2, statement_of, ControlStore, MalView, placed_text, statement_text, text_of}
use Rattle.cli_micro.specs.Common.{fixed_count, pair_count, below, demands_of}

-- the digits of 36 bits, and of 39
abbrev pub word_digits : Machine → ℕ
word_digits Mic1 = 9
word_digits Mic2 = 10

-- an address and its word
abbrev pub word_text : ControlStore → ℕ → List ℕ
word_text s address = hex_text 3 address ++ codes " " ++ hex_text (word_digits s.machine) (slice_index s.words address) ++ codes " "

-- the statement with this number: its address, the word there, and its canonical line
abbrev pub statement_line : MalView → List ℕ → ControlStore → ℕ → List ℕ
statement_line program addresses s number = word_text s (slice_index addresses number) ++ statement_text program number

-- the statements, those of them that a `.label` fixes, and the different pairs
abbrev pub counts_line : MalView → List ℕ
counts_line program =
    codes "statements " ++ decimal (length program.statements) ++ codes " fixed " ++ decimal (fixed_count (demands_of program))
    ++ codes " pairs " ++ decimal (pair_count (demands_of program))

-- a line for each statement in order
abbrev pub statement_lines : MalView → List ℕ → ControlStore → List (List ℕ)
statement_lines program addresses s = map (statement_line program addresses s) (below (length program.statements))

abbrev pub statements_text : MalView → List ℕ → ControlStore → List ℕ
statements_text program addresses s = text_of (statement_lines program addresses s)

-- the lines of the statements, then the counts
abbrev pub placement_text : MalView → List ℕ → ControlStore → List ℕ
placement_text program addresses s =
    text_of (statement_lines program addresses s ++ counts_line program ∷ [])

-- an address, its word, and the canonical text of the statement whose word it is
abbrev pub store_line : ControlStore → ℕ → List ℕ
store_line s address = word_text s address ++ placed_text s.machine (statement_of s.machine (slice_index s.words address))

-- a line for each address
abbrev pub listing : ControlStore → List ℕ
listing s = text_of (map (store_line s) (below 512))
