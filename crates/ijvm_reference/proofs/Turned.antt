-- The outcome of an instruction on the machine.
use Rattle.ijvm_reference.proofs.Common.{◌≡◌, ◌≢◌, ℕ, List, Option, Some, refl, sym, ap, subst, ◌∙◌, Untaken, Given, Instr, In, Out, Halt, ConsoleView}
use Rattle.ijvm_reference.proofs.Common.{StepError, Effect, instr_at}
use Rattle.ijvm_instr.specs.declared.instr.Instr.TheVariants.{Err}
use Rattle.ijvm_reference.specs.declared.compute.Effect.TheVariants as effects
use Rattle.ijvm_meaning.specs.Prelude.{step_outcome, step, step_if_any}
use Rattle.ijvm_reference.specs.Prelude.{MachineView, IsComputed, state_of, outcome_of, StepFails, Turns, step_end, LedTo, LedBy, IsLedOn}

pub is_computed : (i : Instr) → i ≢ Halt → i ≢ Err → i ≢ In → i ≢ Out → IsComputed i
is_computed In h e n m = n refl
is_computed Out h e n m = m refl
is_computed Err h e n m = e refl
is_computed Halt h e n m = h refl
is_computed _ h e n m = tt

effect-turns : (effect : Effect) (old new : MachineView) (u g u' g' : List ℕ) →
    step_outcome old.image old.stack_end (state_of old u g) ≡ outcome_of effect (state_of new u' g') →
    Turns (step_end effect) old new u g u' g'
effect-turns effects.Went old new u g u' g' e = e
effect-turns _ old new u g u' g' e = e

pub failed_at : (i j : Option Instr) (left held : Option (List ℕ)) (c : ConsoleView) (left' held' : Option (List ℕ)) (c' : ConsoleView) (old new : MachineView) (e : StepError) → j ≡ i →
    StepFails i left held c left' held' c' old new e → StepFails j left held c left' held' c' old new e
failed_at i j left held c left' held' c' old new e is = subst (λ (k : Option Instr). StepFails k left held c left' held' c' old new e) (sym is)

-- the instruction at the address, as it is decoded
outcome-at : (old : MachineView) (i : Instr) (u g : List ℕ) → instr_at old.image.text old.at ≡ Some i →
    step_outcome old.image old.stack_end (state_of old u g) ≡ step old.image old.stack_end i (state_of old u g)
outcome-at old i u g e = ap (step_if_any old.image old.stack_end (state_of old u g)) e

-- what a step leads to may be replaced by what follows from it
pub led_as : (left held : Option (List ℕ)) (c : ConsoleView) (left' held' : Option (List ℕ)) (c' : ConsoleView)
    (P Q : List ℕ → List ℕ → List ℕ → List ℕ → Type 0) →
    IsLedOn left held c left' held' c' P → ((u g u' g' : List ℕ) → Untaken left c.ended u → P u g u' g' → Q u g u' g') →
    LedTo Given left held c left' held' c' Q
led_as left held c left' held' c' P Q led told = λ rest here.
    let first = led rest here in (
      first.0,
      first.1,
      λ given shown.
          let next = first.2 given shown in
          (next.0, next.1, told first.0 given rest next.0 first.1 next.2),
    )

-- the outcome of the instruction at the address is the machine's
pub turned : (i : Instr) (effect : Effect) (left held : Option (List ℕ)) (c : ConsoleView) (left' held' : Option (List ℕ)) (c' : ConsoleView)
    (old new : MachineView) → instr_at old.image.text old.at ≡ Some i → LedBy (step old.image old.stack_end i) left held c left' held' c' old new effect →
    IsLedOn left held c left' held' c' (Turns (step_end effect) old new)
turned i effect left held c left' held' c' old new found led =
    led_as left held c left' held' c' (λ u g u' g'. step old.image old.stack_end i (state_of old u g) ≡ outcome_of effect (state_of new u' g'))
    (Turns (step_end effect) old new) led
    (λ u g u' g' here is. effect-turns effect old new u g u' g' (outcome-at old i u g found ∙ is))
