-- The pool of a program, and its refusals.
use Rattle.tiny_compiler.proofs.Common.{◌≡◌, ℕ, List, ◌∷◌, ◌++◌, length, map, subst, ap, ◌∙◌, IfErr, Result, Ok, Err, Units, begins, pool_of, AreUnits}
use Rattle.tiny_compiler.proofs.Common.{Function, Table, IsTableOf, numbers_in, Spells, TinyError, HasNoCode, TooLarge, IsTooLarge, program_of}
use Rattle.tiny_tree.specs.Tree as tree
use Rattle.tiny_tree.specs.Prelude.{Program, function_tree}
use Rattle.tiny_code.specs.Prelude.{layout_of}

pub pool_is : (program : Program) (main : tree.Function) (table : Table) (units : Units) (pool : List ℕ) → IsTableOf table program →
    AreUnits (layout_of program main) units → pool ≡ 0 ∷ (units.entries.items ++ numbers_in table) → pool ≡ pool_of (layout_of program main)
pool_is program main table units pool is emitted made =
    made ∙ ap (λ (l : List ℕ). 0 ∷ (l ++ numbers_in table)) emitted.entries
    ∙ ap (λ (l : List ℕ). 0 ∷ (begins (length (layout_of program main).main.bytes) (layout_of program main).methods ++ l)) is.numbers_are

-- ---- the refusals of a program are those of its text

pub on_err : {T E : Type 0} (r : Result T E) (P Q : E → Type 0) → ((e : E) → P e → Q e) → IfErr r P → IfErr r Q
on_err (Ok x) P Q f h = h
on_err (Err e) P Q f h = f e h

abbrev with : List tree.Function → ℕ → Program
with gs k = record { functions = gs; main = k }

pub too_large : (text : List ℕ) (program : Program) (functions : List Function) (main : ℕ) → map function_tree functions ≡ program.functions →
    main ≡ program.main → Spells text program → (e : TinyError) → IsTooLarge (program_of functions main) e → HasNoCode text e
too_large text program functions main fs m spelled e large =
    TooLarge program spelled
    (subst (λ (p : Program). IsTooLarge p e)
    (ap (λ (gs : List tree.Function). with gs main) fs ∙ ap (λ (k : ℕ). with program.functions k) m) large)
