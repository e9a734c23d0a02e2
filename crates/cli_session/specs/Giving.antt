-- Machines that only add to what they have given.
use Rattle.std.specs.Prelude.{◌≡◌, ℕ, List, ◌++◌}
use Rattle.console_port.specs.Prelude.{World}
use Rattle.mic_clock.specs.Prelude.{Meaning, Done}

-- no step takes back what was given
abbrev pub OnlyGives : {State : Type 0} → Meaning State → Type 0
OnlyGives {State} m =
    (word : ℕ) (s s' : State) (w w' : World) → m.step word s w ≡ Done s' w' → (more : List ℕ) × (w'.given ≡ w.given ++ more)
