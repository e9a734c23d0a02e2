use Rattle.mic_base.proofs.Common.{ℕ, List, Result, Ok, Err, take, refl, IsUtf8, IsOk, MatchResult}
use Rattle.mic_base.proofs.NameLemmas.{IsUtf8-name}
use Rattle.mic_base.proofs.name.Name.text.Goals as goal

is_read : {T E : Type 0} (P : T → Type 0) (Q : E → Type 0) (bytes : List ℕ) (r : Result T E) → IsUtf8 bytes → MatchResult r P (λ e. ¬ IsUtf8 bytes × Q e) → IsOk r
is_read P Q bytes (Ok s) text h = refl
is_read P Q bytes (Err e) text h = absurd (h.0 text)

pub unwrap-requires : goal.unwrap-requires
unwrap-requires c =
    let text = IsUtf8-name (take c.self.inside.len c.self.inside.bytes) c.self.invariant.0 in
    is_read _ _ _ c.from_utf8.result (rw c.from.ensures text) c.from_utf8.ensures.cases
