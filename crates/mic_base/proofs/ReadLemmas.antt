-- What a read did, by what its answer became.
use Rattle.mic_base.proofs.Common.{◌≡◌, ℕ, true, false, List, Option, Some, None, Result, Ok, Err, refl, sym, subst, IfOk, IsErr, ReadsNext}

pub reads_as : {D E : Type 0} (old new : Option (List ℕ)) (answer : Result (Option ℕ) D) (result : Result (Option ℕ) E) →
    IfOk answer (λ next. result ≡ Ok next) → (IsErr answer → IsErr result) → ReadsNext old answer new → ReadsNext old result new
reads_as {E = E} old new (Ok None) result is failed h = subst (λ (r : Result (Option ℕ) E). ReadsNext old r new) (sym is) h
reads_as {E = E} old new (Ok (Some byte)) result is failed h = subst (λ (r : Result (Option ℕ) E). ReadsNext old r new) (sym is) h
reads_as old new (Err d) (Ok next) is failed h = absurd (let no : false ≡ true = failed refl in cc)
reads_as old new (Err d) (Err e) is failed h = h
