-- Why a microprogram or a store file is refused: what follows the file's name in the message.
use Rattle.std.specs.Prelude.{ℕ, ◌<◌, List, ◌++◌, codes, Option, Some, None, option_map, slice_get, unwrap_or}
use Rattle.cli_micro.specs.Common.{decimal, hex_text, of_file, of_line, MalError, Statement, PlaceError, StoreError}
use Rattle.mal_parser.specs.declared.error.MalError.TheVariants as mal
use Rattle.store_placement.specs.declared.refusal.PlaceError.TheVariants as place
use Rattle.store_placement.specs.declared.store_error.StoreError.TheVariants as store

-- a text that is no program; out of memory is no refusal
abbrev pub mal_reason : MalError → Option (List ℕ)
mal_reason (mal.BadToken line) = Some (of_line line (codes "bad token"))
mal_reason (mal.BadStatement line) = Some (of_line line (codes "bad statement"))
mal_reason (mal.WrongMachine line) = Some (of_line line (codes "not on this machine"))
mal_reason (mal.NoSuchOperation line) = Some (of_line line (codes "no such operation"))
mal_reason (mal.DuplicateLabel line) = Some (of_line line (codes "name used twice"))
mal_reason (mal.BadFix line) = Some (of_line line (codes "bad fixed address"))
mal_reason (mal.TooMany line) = Some (of_line line (codes "more than 512 statements"))
mal_reason (mal.UnknownLabel line) = Some (of_line line (codes "unknown name"))
mal_reason (mal.LastFalls line) = Some (of_line line (codes "no statement follows"))
mal_reason mal.NoEntry = Some (of_file (codes "no Main1"))
mal_reason mal.OutOfMemory = None

-- the line of the source that the statement with this number stands on
abbrev pub line_at : List Statement → ℕ → ℕ
line_at statements s = unwrap_or (option_map (λ t. t.line) (slice_get statements s)) 0

-- the message of two statements on these lines
abbrev pub of_two_lines : ℕ → ℕ → List ℕ
of_two_lines first second = of_file (codes "lines " ++ decimal first ++ codes " and " ++ decimal second ++ codes " are forced to one address")

-- a program that has no placement
abbrev pub place_reason : List Statement → PlaceError → List ℕ
place_reason statements (place.PairClash s) = of_line (line_at statements s) (codes "stands in two pairs")
place_reason statements (place.FixedWrongHalf s) = of_line (line_at statements s) (codes "fixed in the wrong half")
place_reason statements (place.FixedClash s t) = of_two_lines (line_at statements s) (line_at statements t)
place_reason statements place.NoRoom = of_file (codes "no room for the pairs")

-- bytes that are no store file; out of memory is no refusal
abbrev pub store_reason : StoreError → Option (List ℕ)
store_reason store.BadMagic = Some (of_file (codes "bad magic"))
store_reason (store.BadLength length) = Some (of_file (codes "bad length " ++ decimal length))
store_reason (store.BadWord address) = Some (of_file (codes "bad word at " ++ hex_text 3 address))
store_reason store.OutOfMemory = None

-- the statements that the refusal names exist
abbrev pub NamesStatements : ℕ → PlaceError → Type 0
NamesStatements count (place.PairClash s) = s < count
NamesStatements count (place.FixedWrongHalf s) = s < count
NamesStatements count (place.FixedClash s t) = (s < count) × (t < count)
NamesStatements count place.NoRoom = Unit {0}

-- the address that the refusal names is one of a store
abbrev pub NamesPlaces : StoreError → Type 0
NamesPlaces store.BadMagic = Unit {0}
NamesPlaces (store.BadLength length) = Unit {0}
NamesPlaces (store.BadWord address) = address < 512
NamesPlaces store.OutOfMemory = Unit {0}
