-- Why the count of the input rose.
use Rattle.mic_debugger.proofs.Common.{◌≡◌, ℕ, Option, None, refl, subst, ◌∙◌, Rose, HasEndCause, End}
use Rattle.mic_debugger.specs.Prelude.{HasReadCause}

-- nothing was read yet
pub cause_start : (n : ℕ) (end : Option End) → end ≡ None → HasReadCause n n end
cause_start n end live = record { rose = λ p. absurd (cc); same = λ q. refl }

-- one more turn
pub cause_more : {a b c k k' : ℕ} {end end' : Option End} → end ≡ None → HasReadCause a b end → HasEndCause b c k k' end end' → HasReadCause a c end'
cause_more {a = a} {b = b} {c = c} live before now =
    let still : b ≡ a = before.same (λ p. cc) in
    record { rose = λ p. subst (λ (n : ℕ). Rose n c) still (now.read live p); same = λ q. now.source_same (λ _. q) ∙ still }
