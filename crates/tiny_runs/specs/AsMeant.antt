-- Runs that do what a program means, up to the bound and the stack's end.
use Rattle.std.specs.Prelude.{◌≡◌, ◌≢◌, ◌≤◌, ◌⊎◌, ℕ, List, ◌++◌}
use Rattle.ijvm_image.specs.Prelude.{ImageView}
use Rattle.ijvm_meaning.specs.declared.run.RunEnd.TheVariants as ends
use Rattle.ijvm_meaning.specs.Prelude.{State, Goes, step_outcome, Timing, next_cost, TimedImage, Point, Finish, first_point, EndsBy, Passes}
use Rattle.tiny_tree.specs.Prelude.{Program, Meaning, Ended, Cut, meaning}

abbrev pub output : Meaning → List ℕ
output (Ended given untaken) = given
output (Cut given) = given

abbrev pub IsPrefix : List ℕ → List ℕ → Type 0
IsPrefix a b = (c : List ℕ) × (b ≡ a ++ c)

-- an instruction that goes on costs at least one cycle
abbrev pub Advances : Timing → Type 0
Advances timing = (image : ImageView) (stack_end : ℕ) (s to : State) → step_outcome image stack_end s ≡ Goes to → 1 ≤ next_cost image timing s

-- the runs of an image, with what a machine spends
abbrev pub runs_of : ImageView → ℕ → Timing → TimedImage
runs_of image stack_end timing = record { image = image; stack_end = stack_end; timing = timing }

-- Of the runs with one input: `ends_by bound f` says that the run with this bound ends so, `passes bound at` that it passes this boundary.
pub record AreAsMeant (means : ℕ → Meaning) (ends_by : ℕ → Finish → Type 0) (passes : ℕ → Point → Type 0) : Type 0 where
  pub never_errs : (bound : ℕ) (f : Finish) → ends_by bound f → f.end ≢ ends.Err
  -- where the run ends by Halt, the program ends with its output and rest
  pub halts : (bound : ℕ) (f : Finish) → ends_by bound f → f.end ≡ ends.Halt → (n : ℕ) × (means n ≡ Ended f.left.given f.left.untaken)
  -- where the program ends, some bound has a run that ends by Halt with that output and rest, or by StackLimit
  pub ended : (n : ℕ) (given untaken : List ℕ) → means n ≡ Ended given untaken → (bound : ℕ) × (f : Finish) × ends_by bound f
      × ((f.end ≡ ends.StackLimit) ⊎ ((f.end ≡ ends.Halt) × (f.left.given ≡ given) × (f.left.untaken ≡ untaken)))
  -- at every boundary the output is a prefix of the program's
  pub prefix : (bound : ℕ) (at : Point) → passes bound at → (n : ℕ) × IsPrefix at.state.given (output (means n))
  -- some run comes to each output of the program, or ends by StackLimit
  pub reaches : (n : ℕ) → (bound : ℕ) × (f : Finish) × ends_by bound f
      × ((f.end ≡ ends.StackLimit) ⊎ IsPrefix (output (means n)) f.left.given)

-- every run of the image is as the program means, with every input and bound
abbrev pub RunsAsMeant : Program → TimedImage → ℕ → Type 0
RunsAsMeant program runs main_locals = (input : List ℕ) →
    AreAsMeant (meaning program input)
    (λ bound f. EndsBy runs bound (first_point runs main_locals input) f)
    (λ bound at. Passes runs bound (first_point runs main_locals input) at)
