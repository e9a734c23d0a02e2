-- What a word samples is under way after it.
use Rattle.mic1_datapath.proofs.Common.{◌≡◌, ℕ, Bool, true, false, Option, Some, None, is_some, unwrap_or, refl, under_way}

pub kept_under_way : (o : Option ℕ) (is : Bool) (old : ℕ) → is_some o ≡ is → under_way is (unwrap_or o old) ≡ o
kept_under_way None true old e = absurd (cc)
kept_under_way None false old e = refl
kept_under_way (Some v) true old e = refl
kept_under_way (Some v) false old e = absurd (cc)
