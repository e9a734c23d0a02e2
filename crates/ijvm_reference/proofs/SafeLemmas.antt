-- A run that never gets stuck goes on so after each step.
use Rattle.ijvm_reference.proofs.Common.{◌≡◌, ℕ, List, [], ◌++◌, Bool, true, false, Option, Some, None, IsSome, refl, sym, ap, subst, ◌∙◌, ConsoleView, Untaken}
use Rattle.ijvm_reference.proofs.Common.{Given, StepEnd, ImageView}
use Rattle.ijvm_reference.specs.declared.frames.StepEnd.TheVariants as ends
use Rattle.ijvm_meaning.specs.Prelude.{State, limits-same, SameFrames, ComesTo, Here, On, NeverStuck}
use Rattle.ijvm_reference.specs.Prelude.{MachineView, KeepsProgram, state_of, IsLedOn, Does, Turns}

same_on : (s t u : State) → SameFrames s t → SameFrames t u → SameFrames s u
same_on s t u first then_ = record { running = then_.running ∙ first.running; callers = then_.callers ∙ first.callers; at = then_.at ∙ first.at }

comes_as : (image : ImageView) (stack_end : ℕ) (s t v : State) → ComesTo image stack_end s t → SameFrames t v → ComesTo image stack_end s v
comes_as image stack_end s t v (Here w same) more = Here v (same_on s w v same more)
comes_as image stack_end s t v (On a b w first step same) more = On a b v first step (same_on b w v same more)

-- a run that comes to a state comes to all that this comes to
comes_on : (image : ImageView) (stack_end : ℕ) (s t to : State) → ComesTo image stack_end s t → ComesTo image stack_end t to → ComesTo image stack_end s to
comes_on image stack_end s t to first (Here v same) = comes_as image stack_end s t v first same
comes_on image stack_end s t to first (On a b v more step same) = On a b v (comes_on image stack_end s t a first more) step same

-- a run that never gets stuck goes on so from each state that it comes to
never_on : (image : ImageView) (stack_end : ℕ) (s t : State) → NeverStuck image stack_end s → ComesTo image stack_end s t → NeverStuck image stack_end t
never_on image stack_end s t never comes = λ to more. never to (comes_on image stack_end s t to comes more)

pub some_untaken : (left : Option (List ℕ)) (ended : Bool) → (rest : List ℕ) × Untaken left ended rest
some_untaken left true = ([], refl)
some_untaken None false = ([], tt)
some_untaken (Some l) false = (l, refl)

pub some_given : (held : Option (List ℕ)) (kept : List ℕ) → (given : List ℕ) × Given held kept given
some_given None kept = ([], tt)
some_given (Some h) kept = (h ++ kept, refl)

-- the frames of a machine, whatever the console's bytes
same_frames : (m : MachineView) (u g v h : List ℕ) → SameFrames (state_of m u g) (state_of m v h)
same_frames m u g v h = record { running = refl; callers = refl; at = refl }

pub never_none : (left held : Option (List ℕ)) (c : ConsoleView) (left' held' : Option (List ℕ)) (c' : ConsoleView) (old new : MachineView) →
    NeverStuck old.image old.stack_end (state_of old [] []) → IsLedOn left held c left' held' c' (Turns None old new) → ⊥
never_none left held c left' held' c' old new never led =
    let rest = some_untaken left' c'.ended in
    let first = led rest.0 rest.1 in
    let given = some_given held c.kept in
    let next = first.2 given.0 given.1 in
    never (state_of old first.0 given.0) (Here _ (same_frames old [] [] first.0 given.0)) next.2

pub some_of : {A : Type 0} (o : Option A) → (o ≡ None → ⊥) → IsSome o
some_of (Some x) some = refl
some_of None some = absurd (some refl)

comes_by : (end : StepEnd) (old new : MachineView) (u g u' g' : List ℕ) → Does end old new u g u' g' →
    ComesTo old.image old.stack_end (state_of old [] []) (state_of new [] [])
comes_by ends.Went old new u g u' g' does =
    On (state_of old u g) (state_of new u' g') (state_of new [] []) (Here _ (same_frames old [] [] u g)) does (same_frames new u' g' [] [])
comes_by ends.StackLimit old new u g u' g' does =
    let stays = (limits-same old.image old.stack_end (state_of old u g) (state_of new u' g') does).frames in
    Here _ (record { running = stays.running; callers = stays.callers; at = stays.at })
comes_by _ old new u g u' g' does =
    Here _ (record { running = ap (λ (s : State). s.running) does.1; callers = ap (λ (s : State). s.callers) does.1; at = ap (λ (s : State). s.at) does.1 })

pub never_after : (left held : Option (List ℕ)) (c : ConsoleView) (left' held' : Option (List ℕ)) (c' : ConsoleView) (end : StepEnd) (old new : MachineView) →
    NeverStuck old.image old.stack_end (state_of old [] []) → IsLedOn left held c left' held' c' (Turns (Some end) old new) → KeepsProgram old new →
    NeverStuck new.image new.stack_end (state_of new [] [])
never_after left held c left' held' c' end old new never led keeps =
    let rest = some_untaken left' c'.ended in
    let first = led rest.0 rest.1 in
    let given = some_given held c.kept in
    let next = first.2 given.0 given.1 in
    let same : NeverStuck old.image old.stack_end (state_of new [] []) =
    never_on old.image old.stack_end (state_of old [] []) (state_of new [] []) never (comes_by end old new first.0 given.0 rest.0 next.0 next.2) in
    subst (λ (n : ℕ). NeverStuck new.image n (state_of new [] [])) (sym keeps.stack_end) (subst (λ (image : ImageView). NeverStuck image old.stack_end (state_of new [] [])) (sym keeps.image) same)
