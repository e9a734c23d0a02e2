-- How long a pool is, and the table of a program.
use Rattle.tiny_pool.proofs.Common.{◌≡◌, ℕ, ◌+◌, List, length, ap, ◌∙◌, cond, arith, Option, Some, nat_lt, slice_get, flat_map, nat_cmp, get, length-append}
use Rattle.tiny_pool.proofs.Common.{length-map, slice_get_within, fun_ext, Part, begins, pool_of, length-begins, Program, Places, function_numbers, methods}
use Rattle.tiny_pool.proofs.Common.{numbers, places_of, layout_of, method_part, from_main, Table, HasSeen, or_else, place_from, IsTableOf}
use Rattle.tiny_tree.specs.Prelude.{Function}
use Rattle.tiny_pool.proofs.Once.{place_or_end}

-- ---- how long it is

pub pool_words : (table : Table) (program : Program) (main : Function) → IsTableOf table program → slice_get program.functions program.main ≡ Some main →
    table.constants.end ≡ length (pool_of (layout_of program main))
pool_words table program main is found =
    let at : ℕ = length (layout_of program main).main.bytes in
    let parts : List Part = (layout_of program main).methods in
    let inside = slice_get_within program.functions program.main main found in
    let few = (from_main program.main 0 program.functions (omega arith) (omega (arith, inside))).1 in
    let words = is.words in
    omega (
      arith,
      length-append (begins at parts) (numbers program),
      length-begins at parts,
      length-map (methods program) (method_part (places_of program)),
      few,
      words,
    )

-- ---- the table

abbrev with : (ℕ → ℕ) → ℕ → Places
with constant main = record { constant = constant; entry = λ f. cond (nat_lt f main) (f + 1) f }

pub table_of : (table : Table) (program : Program) → table.main ≡ program.main →
    HasSeen table.constants (length program.functions) (flat_map function_numbers program.functions) → IsTableOf table program
table_of table program main seen =
    record {
      places_are = ap (λ (m : ℕ). with (λ n. or_else table.constants.end (get nat_cmp table.constants.places n)) m) main
          ∙ ap (λ (k : ℕ → ℕ). with k program.main) (fun_ext (λ n. ap (λ (o : Option ℕ). or_else table.constants.end o) (seen.places n)
          ∙ ap (λ (e : ℕ). or_else e (place_from (length program.functions) (numbers program) n)) seen.end
          ∙ place_or_end (length program.functions) (numbers program) n));
      numbers_are = seen.numbers;
      words = seen.end;
    }
