-- What the words after the program's name ask for: a microprogram's file, and the machine that it is for.
use Rattle.std.specs.Prelude.{ℕ, Bool, true, false, not, ◌==◌, ◌&&◌, if◌then◌else◌, List, [], ◌∷◌, Option, Some, None, codes}
use Rattle.std.specs.Borrow.{Bor}
use Rattle.std.specs.Str.{bytes_eq}
use Rattle.cli_check.specs.declared.words.MachineName.{MachineName}
use Rattle.cli_check.specs.declared.words.MachineName.TheVariants.{Mic1, Mic2, Mic3}
use Rattle.cli_check.specs.declared.words.Request.{Request}

abbrev pub Text : Type 0
Text = List ℕ

-- a request, with its text as it is read
abbrev pub Asked : Type 0
Asked = Request Text

abbrev pub asked : Request (Bor Text) → Asked
asked r = record { file = r.file.now; machine = r.machine }

-- the value of the option
abbrev pub machine_named : Text → Option MachineName
machine_named word =
    if bytes_eq word (codes "mic1") then Some Mic1
    else (if bytes_eq word (codes "mic2") then Some Mic2
    else (if bytes_eq word (codes "mic3") then Some Mic3 else None))

-- the option and its value in one word
abbrev pub option_in : Text → Option MachineName
option_in word =
    if bytes_eq word (codes "--machine=mic1") then Some Mic1
    else (if bytes_eq word (codes "--machine=mic2") then Some Mic2
    else (if bytes_eq word (codes "--machine=mic3") then Some Mic3 else None))

-- a word that names a file is not empty, and has no dash in front, or is a dash alone
abbrev pub is_file : Text → Bool
is_file [] = false
is_file (x ∷ []) = true
is_file (x ∷ y ∷ rest) = not (x == 45)

abbrev pub asked_of : Text → Option MachineName → Option Asked
asked_of file None = None
asked_of file (Some machine) = if is_file file then Some (record { file = file; machine = machine }) else None

-- the same of a word after `--`, which may have a dash in front
abbrev pub asked_plain : Text → Option MachineName → Option Asked
asked_plain file None = None
asked_plain [] (Some machine) = None
asked_plain (x ∷ rest) (Some machine) = Some (record { file = x ∷ rest; machine = machine })

abbrev pub asked_by : Option MachineName → Text → Text → Option Asked
asked_by (Some machine) first second = asked_of second (Some machine)
asked_by None first second = asked_of first (option_in second)

abbrev pub asked_of_two : Text → Text → Option Asked
asked_of_two first second =
    if bytes_eq first (codes "--") then asked_plain second (Some Mic1) else asked_by (option_in first) first second

abbrev pub asked_of_three : Text → Text → Text → Option Asked
asked_of_three first second third =
    if bytes_eq second (codes "--") then asked_plain third (option_in first)
    else (if bytes_eq first (codes "--machine") then asked_of third (machine_named second)
    else (if bytes_eq second (codes "--machine") then asked_of first (machine_named third) else None))

abbrev pub asked_of_four : Text → Text → Text → Text → Option Asked
asked_of_four first second third fourth =
    if bytes_eq first (codes "--machine") && bytes_eq third (codes "--") then asked_plain fourth (machine_named second) else None

-- a file alone, which is for Mic-1, or a file and the option `--machine`, in any order; `--` may stand before the last word
abbrev pub asked_in : List Text → Option Asked
asked_in (file ∷ []) = asked_of file (Some Mic1)
asked_in (first ∷ second ∷ []) = asked_of_two first second
asked_in (first ∷ second ∷ third ∷ []) = asked_of_three first second third
asked_in (first ∷ second ∷ third ∷ fourth ∷ []) = asked_of_four first second third fourth
asked_in _ = None
