-- What a sink has after a put, and then perhaps a flush.
use Rattle.std.proofs.Common.{◌≡◌, ℕ, List, ◌++◌, length, take, Result, Ok, Err, Option, sym, ◌∙◌, ap}
use Rattle.std.specs.Option.{option_map}
use Rattle.std.specs.Prelude.{OnOk}
use Rattle.std.proofs.Math.Seq.{take-length}
use Rattle.mic_base.specs.Prelude.{IsFlushed, PutsAndFlushes}

-- a whole piece is a prefix of itself
pub prefix_put : (held held' : Option (List ℕ)) (piece : List ℕ) → held' ≡ option_map (λ h. h ++ piece) held → (n : ℕ) × (held' ≡ option_map (λ h. h ++ take n piece) held)
prefix_put held held' piece put = (length piece, put ∙ ap (λ b. option_map (λ a. a ++ b) held) (sym (take-length piece)))

-- a piece that was put, and then perhaps passed on
pub flushed_put : {E : Type 0} (held held' held2 passed2 : Option (List ℕ)) (piece : List ℕ) (r : Result Unit E) →
    held' ≡ option_map (λ h. h ++ piece) held → held2 ≡ held' → OnOk r (IsFlushed held2 passed2) → PutsAndFlushes held piece r held2 passed2
flushed_put held held' held2 passed2 piece (Ok done) put same flushed = record { puts = same ∙ put; flushed = flushed }
flushed_put held held' held2 passed2 piece (Err e) put same flushed = record { puts = prefix_put held held2 piece (same ∙ put); flushed = tt }
