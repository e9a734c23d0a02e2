-- What a table has of a program: the places in the pool, and the numbers.
use Rattle.std.specs.Prelude.{◌≡◌, ℕ, ◌+◌, if◌then◌else◌, nat_lt, List, length, slice_get, Some}
use Rattle.std.specs.Ordering.{nat_cmp}
use Rattle.std.specs.BTreeMap.{get}
use Rattle.tiny_pool.specs.declared.table.Table.{Table}
use Rattle.tiny_tree.specs.Prelude.{Function, Program}
use Rattle.tiny_code.specs.Prelude.{Places, numbers, places_of, layout_of}
use Rattle.ijvm_text.specs.Prelude.{pool_of}
use Rattle.tiny_pool.specs.Seen.{or_else}

-- a number that the pool does not have has the place after the pool
abbrev pub places_in : Table → Places
places_in table =
    record {
      constant = λ n. or_else table.constants.end (get nat_cmp table.constants.places n);
      entry = λ f. if nat_lt f table.main then f + 1 else f;
    }

-- the numbers, in the order of their places
abbrev pub numbers_in : Table → List ℕ
numbers_in table = table.constants.numbers.items

-- how many words the pool has
abbrev pub words_in : Table → ℕ
words_in table = table.constants.end

-- the table of this program's pool
pub record IsTableOf (table : Table) (program : Program) : Type 0 where
  pub places_are : places_in table ≡ places_of program
  pub numbers_are : numbers_in table ≡ numbers program
  pub words : words_in table ≡ length program.functions + length (numbers program)

-- the pool of the program whose table this is has this many words
abbrev pub IsPoolLength : Table → ℕ → Type 0
IsPoolLength table words = (program : Program) (main : Function) → IsTableOf table program →
    slice_get program.functions program.main ≡ Some main → words ≡ length (pool_of (layout_of program main))
