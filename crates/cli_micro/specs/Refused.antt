-- That what a command refuses, it refuses for a reason that holds of the file.
use Rattle.std.proofs.Common.{◌≡◌, ℕ, List, Some, false, refl, sym, subst, length, arith}
use Rattle.cli_micro.specs.Common.{length-map, Machine, Refusal, IsRefusal, refusal_by, by_reason, MalError, Statement, MalView, is_memory, IsRefused}
use Rattle.cli_micro.specs.Common.{PlaceError, demands_of}
use Rattle.mal_parser.specs.declared.error.MalError.TheVariants as mal
use Rattle.store_placement.specs.declared.refusal.PlaceError.TheVariants as place
use Rattle.store_placement.specs.Refusals as placing
use Rattle.cli_micro.specs.Answers.{IsRefusedText, NoProgram}
use Rattle.cli_micro.specs.Reasons.{mal_reason, NamesStatements}

-- what has a reason is a refusal
pub is_refusal : (e : MalError) (reason : List ℕ) → Some reason ≡ mal_reason e → is_memory e ≡ false
is_refusal mal.OutOfMemory reason h = cc
is_refusal _ reason h = refl

-- each statement has its demand
pub length_fixed : (program : MalView) → length (demands_of program).fixed ≡ length program.statements
unfolding demands_of
length_fixed program = length-map program.statements (λ (s : Statement). s.fixed)

refused_inside : (program : MalView) (e : PlaceError) → placing.Refuses (demands_of program) e → NamesStatements (length (demands_of program).fixed) e
refused_inside program (place.PairClash s) h = h.inside
refused_inside program (place.FixedWrongHalf s) h = h.1.inside
refused_inside program (place.FixedClash s t) h = (omega (arith, h.2.first.ordered, h.2.first.inside), h.2.first.inside)
refused_inside program place.NoRoom h = tt

-- the statements that a refusal names are those of the program
pub names_inside : (program : MalView) (e : PlaceError) → placing.Refuses (demands_of program) e → NamesStatements (length program.statements) e
names_inside program e h = let P : ℕ → Type 0 = λ n. NamesStatements n e in subst P (length_fixed program) (refused_inside program e h)

-- why a text is no microprogram
pub no_program : (machine : Machine) (bytes : List ℕ) (e : MalError) (refusal : Refusal) → (is_memory e ≡ false → IsRefused machine bytes e) →
    refusal ≡ refusal_by (mal_reason e) → IsRefusal (IsRefusedText machine) bytes refusal
no_program machine bytes e refusal refused is =
    subst (IsRefusal (IsRefusedText machine) bytes) (sym is)
    (by_reason (IsRefusedText machine) bytes (mal_reason e) (λ reason h. NoProgram e (refused (is_refusal e reason (sym h))) h))
