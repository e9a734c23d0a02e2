-- What a call was lent, once its parts are given back.
use Rattle.std.proofs.Common.{◌≡◌, subst, sym}

-- what holds of what was given back holds of what is there at the end
pub given_back : {F S K E : Type 0} (P : F → S → K → E → Type 0) {f f' : F} {s s' : S} {k k' : K} {e e' : E} →
    f ≡ f' → s ≡ s' → k ≡ k' → e ≡ e' → P f' s' k' e' → P f s k e
given_back P {f = f} {f' = f'} {s = s} {s' = s'} {k = k} {k' = k'} {e' = e'} pf ps pk pe h =
    subst (λ e. P f s k e) (sym pe) (subst (λ k. P f s k e') (sym pk) (subst (λ s. P f s k' e') (sym ps) (subst (λ f. P f s' k' e') (sym pf) h)))
