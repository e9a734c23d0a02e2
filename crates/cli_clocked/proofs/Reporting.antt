-- A text after another that was put.
use Rattle.cli_clocked.proofs.Common.{◌≡◌, ℕ, List, ◌++◌, ◌∙◌, subst, Ok, Err, Rose, puts_first, puts_then, Puts, Said, Says, SinkState, Unsaid}
use Rattle.std.specs.Option.{option_map}
use Rattle.cli_outside.specs.Status as exits

-- what is printed after a text that was put
pub says-after : (old mid new : SinkState) (text rest : List ℕ) (code status : ℕ) → mid.held ≡ option_map (λ held. held ++ text) old.held → mid.faults ≡ old.faults →
    Says mid new rest code status → Says old new (text ++ rest) code status
says-after old mid new text rest code status put quiet (Said is got flushed same) =
    Said is (puts_then {E = Unit {0}} old.held mid.held new.held text rest (Ok (tt {0})) put got) flushed (same ∙ quiet)
says-after old mid new text rest code status put quiet (Unsaid is front rose) =
    Unsaid is (puts_then {E = Unit {0}} old.held mid.held new.held text rest (Err (tt {0})) put front) (subst (λ (n : ℕ). Rose n new.faults) quiet rose)

-- nothing is printed after a text that was not put whole
pub unsaid-after : {E : Type 0} (old new : SinkState) (text rest : List ℕ) (code status : ℕ) (x : E) → Puts old.held text (Err x) new.held →
    Rose old.faults new.faults → status ≡ exits.sink → Says old new (text ++ rest) code status
unsaid-after old new text rest code status x put rose is = Unsaid is (puts_first {E = Unit {0}} old.held new.held text rest (tt {0}) put) rose
