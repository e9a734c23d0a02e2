-- What the console keeps along a run: OUT adds a byte, and empties a full console first; IN empties it, until it has met the end of input.
use Rattle.std.specs.Prelude.{◌≡◌, ◌≢◌, ◌⊎◌, ◌<◌, ◌≤◌, ℕ, ◌+◌, Bool, true, false, List, [], ◌∷◌, length, Option, Some}
use Rattle.ijvm_reference.specs.Common.{ConsoleView, Untaken, TellsLeft, Instr, In, Out}

abbrev pub is_empty : List ℕ → Bool
is_empty [] = true
is_empty (x ∷ xs) = false

-- an IN over these untaken bytes; `told` says that they are known
pub record ReadsIn (told : Bool) (untaken : List ℕ) (c c' : ConsoleView) : Type 0 where
  pub later : c.ended ≡ true → c' ≡ c
  pub emptied : c.ended ≡ false → c'.kept ≡ []
  pub end : c.ended ≡ false → told ≡ true → c'.ended ≡ is_empty untaken

pub record WritesOut (c c' : ConsoleView) : Type 0 where
  pub ended : c'.ended ≡ c.ended
  pub more : length c.kept < 4096 → length c'.kept ≡ length c.kept + 1
  pub full : length c.kept ≡ 4096 → length c'.kept ≡ 1

-- from before an instruction to after it
pub record Keeps (told : Bool) (i : Option Instr) (untaken : List ℕ) (c c' : ConsoleView) : Type 0 where
  pub read : i ≡ Some In → ReadsIn told untaken c c'
  pub write : i ≡ Some Out → WritesOut c c'
  pub other : i ≢ Some In → i ≢ Some Out → c' ≡ c

-- the instruction puts what the console keeps: an IN that asks the source, or an OUT that finds the console full
abbrev pub PutsKept : Option Instr → ConsoleView → Type 0
PutsKept i c = ((i ≡ Some In) × (c.ended ≡ false) × (c.kept ≢ [])) ⊎ ((i ≡ Some Out) × (4096 ≤ length c.kept))

-- after an IN, and after any instruction, whatever the source may have left

abbrev pub HasRead : Option (List ℕ) → ConsoleView → ConsoleView → Type 0
HasRead left c c' = (told : Bool) (untaken : List ℕ) → (told ≡ true → TellsLeft left c.ended) → Untaken left c.ended untaken → ReadsIn told untaken c c'

abbrev pub HasKept : Option (List ℕ) → Option Instr → ConsoleView → ConsoleView → Type 0
HasKept left i c c' = (told : Bool) (untaken : List ℕ) → (told ≡ true → TellsLeft left c.ended) → Untaken left c.ended untaken → Keeps told i untaken c c'

-- a console that keeps nothing, before the end of input
abbrev pub fresh : ConsoleView
fresh = record { kept = []; ended = false }
