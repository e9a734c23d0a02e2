-- What an outcome after a test shows of the test.
use Rattle.ijvm_asm.proofs.Common.{◌≡◌, Bool, true, false, refl, ap, sym, cond, Result, Ok, Err, FailsBy, AsmError}
use Rattle.ijvm_asm.specs.Prelude.{is_memory, RefusesBy}

abbrev pub ok : {A : Type 0} → A → Result A AsmError
ok a = Ok a

pub if_ok : {A : Type 0} (b : Bool) (e : AsmError) (r : Result A AsmError) (u : A) → cond b (Err e) r ≡ Ok u → (b ≡ false) × (r ≡ Ok u)
if_ok true e r u h = absurd (cc)
if_ok false e r u h = (refl, h)

pub ok_if : {A : Type 0} (b : Bool) (e : AsmError) (r : Result A AsmError) → b ≡ false → cond b (Err e) r ≡ r
ok_if true e r h = absurd (cc)
ok_if false e r h = refl

pub refuses_fails : {A : Type 0} (e : AsmError) (r : Result A AsmError) → RefusesBy e r → FailsBy is_memory e r
refuses_fails e (Ok a) h = λ m. absurd (let k : is_memory e ≡ true = ap is_memory h in cc)
refuses_fails e (Err f) h = λ m. ap Err (sym h)
