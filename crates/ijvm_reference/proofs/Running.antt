-- A turn of a run, from the step of its frames.
use Rattle.ijvm_reference.proofs.Common.{◌≡◌, ◌<◌, ◌≤◌, ℕ, zero, suc, ◌+◌, Bool, true, List, [], ◌++◌, take, drop, append_assoc, Option, Some, None, IfNone}
use Rattle.ijvm_reference.proofs.Common.{IfSome, Result, Ok, Err, refl, sym, ap, ap₂, subst, ◌∙◌, arith, AllocError, take-append-drop, lt-leb, le-leb, Machine}
use Rattle.ijvm_reference.proofs.Common.{ConsoleView, Untaken, Given, IsLost, TellsLeft, SinkGoesOn, SourceGoesOn, StepEnd, StepError, RunEnd, PlainEnd}
use Rattle.ijvm_reference.proofs.Common.{instr_at, Counts, ImageView}
use Rattle.ijvm_reference.specs.declared.frames.StepEnd.TheVariants as steps
use Rattle.ijvm_reference.specs.declared.frames.StepError.TheVariants as errors
use Rattle.ijvm_meaning.specs.declared.run.RunEnd.TheVariants as defined
use Rattle.ijvm_reference.specs.declared.plain.PlainEnd.TheVariants as ends
use Rattle.ijvm_meaning.specs.Prelude.{State, StepOutcome, Goes, Halts, Errs, Limits, step_outcome, limits-same, same_frames, timing_of, next_cost, TimedImage, Point, Finish, point_after, completed, stopped, after_outcome, after_test, finish_from, EndsBy, Passes, Start, More}
use Rattle.ijvm_reference.specs.Prelude.{MachineView, KeepsProgram, state_of, IsLedOn, Does, IsCutOff, IsMetBy, HasKept, program_of, point_at, EndsIn, IsAllBut}
use Rattle.ijvm_reference.specs.Prelude.{IsAtBoundary, IsCut, ComesFurther, StoppedBy, IsShown, ShownBy, LedTo, TurnsTo, GoesOn, counts_after, stop_by, Reaches}
use Rattle.ijvm_reference.specs.Prelude.{Begins, Onward, cut_by}
use Rattle.ijvm_reference.proofs.Costs.{next_cost-least}
use Rattle.ijvm_reference.proofs.SafeLemmas.{some_untaken, some_given}
use Rattle.ijvm_reference.proofs.Keeping.{next_kept}
use Rattle.ijvm_reference.proofs.Turned.{led_as}

-- the run ends at this boundary, by the outcome of its instruction
ends_by : (p : TimedImage) (bound : ℕ) (at : Point) (o : StepOutcome) (f : Finish) → at.cycles < bound → step_outcome p.image p.stack_end at.state ≡ o →
    after_outcome (finish_from p bound zero) p at o ≡ Some f → EndsBy p bound at f
ends_by p bound at o f under is then_ =
    (suc zero, ap (after_test (finish_from p bound zero) p at) (lt-leb bound at.cycles under) ∙ ap (after_outcome (finish_from p bound zero) p at) is ∙ then_)

-- the run ends at this boundary, whose instruction is completed
completed_ends : (o : StepOutcome) (end : RunEnd) (bound : ℕ) (machine : Machine) (old new : MachineView) (counts : Counts) (cost : ℕ) (u g u' g' : List ℕ) →
    counts.cycles < bound → counts.boundary ≡ counts.cycles → cost ≡ next_cost old.image (timing_of machine) (state_of old [] []) →
    ((p : TimedImage) (at : Point) → after_outcome (finish_from p bound zero) p at o ≡ Some (completed p at end)) →
    step_outcome old.image old.stack_end (state_of old u g) ≡ o → state_of new u' g' ≡ state_of old u g →
    EndsIn end (program_of old machine) bound (point_at old counts.cycles counts.instructions u g) (counts_after steps.Halt cost counts) new u' g'
completed_ends o end bound machine old new counts cost u g u' g' under boundary is then_ does same =
    let p : TimedImage = program_of old machine in
    let at : Point = point_at old counts.cycles counts.instructions u g in (
      record {
        finish = completed p at end;
        ends = ends_by p bound at o (completed p at end) under does (then_ p at);
        stands = record {
          boundary = sym boundary;
          all = ap (λ (k : ℕ). counts.cycles + k) (sym is);
          completed = refl;
          frames = same_frames at.state;
          left_is = sym same;
        };
      },
      refl,
    )

limit_ends : (bound : ℕ) (machine : Machine) (old new : MachineView) (counts : Counts) (u g u' g' : List ℕ) → counts.cycles < bound → counts.boundary ≡ counts.cycles →
    Does steps.StackLimit old new u g u' g' → EndsIn defined.StackLimit (program_of old machine) bound (point_at old counts.cycles counts.instructions u g) counts new u' g'
limit_ends bound machine old new counts u g u' g' under boundary does =
    let p : TimedImage = program_of old machine in
    let at : Point = point_at old counts.cycles counts.instructions u g in
    let left : State = state_of new u' g' in (
      record {
        finish = stopped at defined.StackLimit left;
        ends = ends_by p bound at (Limits left) (stopped at defined.StackLimit left) under does refl;
        stands = record {
          boundary = sym boundary;
          all = refl;
          completed = refl;
          frames = (limits-same p.image p.stack_end at.state left does).frames;
          left_is = refl;
        };
      },
      refl,
    )

-- what a step makes of the run, by its end
pub step_led : (end : StepEnd) (told : Bool) (left held : Option (List ℕ)) (c : ConsoleView) (left' held' : Option (List ℕ)) (c' : ConsoleView) (bound : ℕ) (machine : Machine) (old new : MachineView)
    (counts : Counts) (cost : ℕ) → (told ≡ true → TellsLeft left c.ended) → HasKept left (instr_at old.image.text old.at) c c' → counts.cycles < bound → counts.boundary ≡ counts.cycles →
    cost ≡ next_cost old.image (timing_of machine) (state_of old [] []) → IsLedOn left held c left' held' c' (Does end old new) →
    LedTo (ShownBy (stop_by end)) left held c left' held' c' (TurnsTo told (stop_by end) bound machine counts (counts_after end cost counts) c c' held' old new)
step_led steps.Went told left held c left' held' c' bound machine old new counts cost tell kept under boundary is led =
    led_as left held c left' held' c' (Does steps.Went old new) (TurnsTo told None bound machine counts (counts_after steps.Went cost counts) c c' held' old new) led
    (λ u g u' g' here does. record {
      under = under;
      goes = does;
      counts = ap (λ (k : ℕ). point_at new (counts.cycles + k) (counts.instructions + 1) u' g') is;
      keeps = kept told u tell here;
    })
step_led steps.Halt told left held c left' held' c' bound machine old new counts cost tell kept under boundary is led =
    led_as left held c left' held' c' (Does steps.Halt old new) (TurnsTo told (stop_by steps.Halt) bound machine counts (counts_after steps.Halt cost counts) c c' held' old new) led
    (λ u g u' g' here does. completed_ends Halts defined.Halt bound machine old new counts cost u g u' g' under boundary is (λ p at. refl) does.0 does.1)
step_led steps.Err told left held c left' held' c' bound machine old new counts cost tell kept under boundary is led =
    led_as left held c left' held' c' (Does steps.Err old new) (TurnsTo told (stop_by steps.Err) bound machine counts (counts_after steps.Err cost counts) c c' held' old new) led
    (λ u g u' g' here does. completed_ends Errs defined.Err bound machine old new counts cost u g u' g' under boundary is (λ p at. refl) does.0 does.1)
step_led steps.StackLimit told left held c left' held' c' bound machine old new counts cost tell kept under boundary is led =
    led_as left held c left' held' c' (Does steps.StackLimit old new) (TurnsTo told (stop_by steps.StackLimit) bound machine counts counts c c' held' old new) led
    (λ u g u' g' here does. limit_ends bound machine old new counts u g u' g' under boundary does)

pub bound_ends : (told : Bool) (c : ConsoleView) (held : Option (List ℕ)) (bound : ℕ) (machine : Machine) (m : MachineView) (cycles instructions : ℕ) (r : Counts) (u g : List ℕ) → bound ≤ cycles →
    r.boundary ≡ cycles → r.cycles ≡ cycles → r.instructions ≡ instructions → StoppedBy told c held (Ok ends.Bound) (program_of m machine) bound (point_at m cycles instructions u g) r m u g
bound_ends told c held bound machine m cycles instructions r u g over boundary all one =
    let p : TimedImage = program_of m machine in
    let at : Point = point_at m cycles instructions u g in (
      record {
        finish = stopped at defined.Bound at.state;
        ends = (suc zero, ap (after_test (finish_from p bound zero) p at) (le-leb bound cycles over));
        stands = record { boundary = sym boundary; all = sym all; completed = sym one; frames = same_frames at.state; left_is = refl };
      },
      refl,
    )

cut_here : (e : StepError) (told : Bool) (c : ConsoleView) (held : Option (List ℕ)) (bound : ℕ) (machine : Machine) (old new : MachineView) (cycles instructions : ℕ) (r : Counts) (u g : List ℕ) → new ≡ old → cycles < bound →
    IsMetBy e (instr_at old.image.text old.at) c → (e ≡ errors.WriteFault → IsAllBut held c.kept g) → r.boundary ≡ cycles → r.cycles ≡ cycles → r.instructions ≡ instructions →
    IsCut e told c held (program_of old machine) bound (point_at old cycles instructions u g) r new u g
cut_here e told c held bound machine old new cycles instructions r u g same under met lost boundary all one =
    let at : Point = point_at old cycles instructions u g in
    record {
      at = at;
      console = c;
      reaches = Begins at c refl refl;
      cut = record {
        under = under;
        met = met;
        stands = record {
          boundary = sym boundary;
          all = sym all;
          completed = sym one;
          frames = same_frames at.state;
          left_is = ap (λ (m : MachineView). state_of m u g) (sym same);
        };
        lost = lost;
      };
    }

cut_reported : (e : StepError) (told : Bool) (c : ConsoleView) (held : Option (List ℕ)) (p : TimedImage) (bound : ℕ) (from : Point) (r : Counts) (new : MachineView) (u g : List ℕ) →
    IsCut e told c held p bound from r new u g → StoppedBy told c held (cut_by e) p bound from r new u g
cut_reported errors.ReadFault told c held p bound from r new u g cut = cut
cut_reported _ told c held p bound from r new u g cut = cut

-- after a write that failed the sink holds all but the last of what was kept
all_but : (held held' : Option (List ℕ)) (kept kept' given : List ℕ) → IsLost held kept held' kept' → Given held kept given → IsAllBut held' kept given
all_but None held' kept kept' given lost shown = subst (λ (h : Option (List ℕ)). IsAllBut h kept given) (sym lost.prefix.1) tt
all_but (Some h) held' kept kept' given lost shown =
    let n : ℕ = lost.prefix.0 in
    let parts : (h ++ take n kept) ++ drop n kept ≡ given =
    append_assoc h (take n kept) (drop n kept) ∙ ap (λ (xs : List ℕ). h ++ xs) (take-append-drop n kept) ∙ sym shown in
    subst (λ (x : Option (List ℕ)). IsAllBut x kept given) (sym lost.prefix.1) (n, parts)

-- what a sink that lost bytes holds is a beginning of what was given
pub lost_shown : (held held' : Option (List ℕ)) (kept kept' given : List ℕ) → IsLost held kept held' kept' → Given held kept given → IsShown (Ok ends.WriteFault) held' kept' given
lost_shown None held' kept kept' given lost shown =
    subst (λ (h : Option (List ℕ)). IfSome h (λ x. (more : List ℕ) × (given ≡ x ++ more))) (sym lost.prefix.1) tt
lost_shown (Some h) held' kept kept' given lost shown =
    let n : ℕ = lost.prefix.0 in
    let parts : given ≡ (h ++ take n kept) ++ drop n kept =
    shown ∙ ap (λ (xs : List ℕ). h ++ xs) (sym (take-append-drop n kept)) ∙ sym (append_assoc h (take n kept) (drop n kept)) in
    subst (λ (x : Option (List ℕ)). IfSome x (λ y. (more : List ℕ) × (given ≡ y ++ more))) (sym lost.prefix.1) (drop n kept, parts)

cut_shown : (e : StepError) (left held : Option (List ℕ)) (c : ConsoleView) (left' held' : Option (List ℕ)) (c' : ConsoleView) (given : List ℕ) →
    IsCutOff left held c left' held' c' e → Given held c.kept given → IsShown (cut_by e) held' c'.kept given
cut_shown errors.ReadFault left held c left' held' c' given cut shown = cut.given (λ same. cc) given shown
cut_shown errors.WriteFault left held c left' held' c' given cut shown = lost_shown held held' c.kept c'.kept given (cut.lost refl) shown
cut_shown errors.OutOfMemory left held c left' held' c' given cut shown = cut.given (λ same. cc) given shown

pub cut_led : (e : StepError) (told : Bool) (left held : Option (List ℕ)) (c : ConsoleView) (left' held' : Option (List ℕ)) (c' : ConsoleView) (bound : ℕ) (machine : Machine) (old new : MachineView)
    (cycles instructions : ℕ) (r : Counts) → IsCutOff left held c left' held' c' e → new ≡ old → cycles < bound → IsMetBy e (instr_at old.image.text old.at) c → r.boundary ≡ cycles → r.cycles ≡ cycles → r.instructions ≡ instructions →
    LedTo (IsShown (cut_by e)) left held c left' held' c' (λ u g u' g'. StoppedBy told c held' (cut_by e) (program_of old machine) bound (point_at old cycles instructions u g) r new u' g')
cut_led e told left held c left' held' c' bound machine old new cycles instructions r cut same under met boundary all one = λ rest here.
    let ended : Untaken left' c.ended rest = subst (λ (b : Bool). Untaken left' b rest) cut.ended here in
    let first : Untaken left c.ended rest = subst (λ (l : Option (List ℕ)). Untaken l c.ended rest) cut.untaken ended in (
      rest,
      first,
      λ given shown. (
        given,
        cut_shown e left held c left' held' c' given cut shown,
        cut_reported e told c held' (program_of old machine) bound (point_at old cycles instructions rest given) r new rest given
            (cut_here e told c held' bound machine old new cycles instructions r rest given same under met
            (λ is. all_but held held' c.kept c'.kept given (cut.lost is) shown) boundary all one),
      ),
    )

-- a step that goes on costs at least a cycle
went_cost : (left held : Option (List ℕ)) (c : ConsoleView) (left' held' : Option (List ℕ)) (c' : ConsoleView) (machine : Machine) (old new : MachineView) →
    IsLedOn left held c left' held' c' (Does steps.Went old new) → 1 ≤ next_cost old.image (timing_of machine) (state_of old [] [])
went_cost left held c left' held' c' machine old new led =
    let rest = some_untaken left' c'.ended in
    let first = led rest.0 rest.1 in
    let given = some_given held c.kept in
    let next = first.2 given.0 given.1 in
    next_cost-least old.image old.stack_end machine (state_of old first.0 given.0) (state_of new rest.0 next.0) next.2

pub step_further : (end : StepEnd) (left held : Option (List ℕ)) (c : ConsoleView) (left' held' : Option (List ℕ)) (c' : ConsoleView) (bound : ℕ) (machine : Machine) (old new : MachineView)
    (counts : Counts) (cost : ℕ) → counts.cycles < bound → IsAtBoundary counts → cost ≡ next_cost old.image (timing_of machine) (state_of old [] []) →
    IsLedOn left held c left' held' c' (Does end old new) → IfNone (stop_by end) (ComesFurther bound counts (counts_after end cost counts))
step_further steps.Went left held c left' held' c' bound machine old new counts cost under at is led =
    let some : 1 ≤ cost = subst (λ (k : ℕ). 1 ≤ k) (sym is) (went_cost left held c left' held' c' machine old new led) in
    record { under = under; more = omega arith; next = record { boundary = refl; few = omega (arith, at.few) } }
step_further steps.Halt left held c left' held' c' bound machine old new counts cost under at is led = tt
step_further _ left held c left' held' c' bound machine old new counts cost under at is led = tt

-- Whole runs.

finish_passes : (p : TimedImage) (bound : ℕ) (from at : Point) (f : Finish) → Passes p bound from at → EndsBy p bound at f → EndsBy p bound from f
finish_passes p bound from at f (Start a same) e = subst (λ (x : Point). EndsBy p bound x f) same e
finish_passes p bound from at f (More b next to first under goes is) e =
    let e0 : EndsBy p bound (point_after p b to) f = subst (λ (x : Point). EndsBy p bound x f) is e in
    finish_passes p bound from b f first
    (suc e0.0, ap (after_test (finish_from p bound e0.0) p b) (lt-leb bound b.cycles under) ∙ ap (after_outcome (finish_from p bound e0.0) p b) goes ∙ e0.1)

-- the boundaries that a run reaches are boundaries that it passes
pub passed : (told : Bool) (p : TimedImage) (bound : ℕ) (from : Point) (c0 : ConsoleView) (at : Point) (c : ConsoleView) → Reaches told p bound from c0 at c → Passes p bound from at
passed told p bound from c0 at c (Begins a d same is) = Start a same
passed told p bound from c0 at c (Onward b next d d' first on) = More b next next.state (passed told p bound from c0 b d first) on.under on.goes on.counts

-- a run reaches each boundary that it passes
pub reached : (told : Bool) (p : TimedImage) (bound : ℕ) (from : Point) (c0 : ConsoleView) (at : Point) → Passes p bound from at → (c : ConsoleView) × Reaches told p bound from c0 at c
reached told p bound from c0 at (Start a same) = (c0, Begins at c0 same refl)
reached told p bound from c0 at (More b next to before under goes is) =
    let first = reached told p bound from c0 b before in
    let kept = next_kept told (instr_at p.image.text b.state.at) b.state.untaken first.0 in
    let state : to ≡ next.state = sym (ap (λ (q : Point). q.state) is) in
    (kept.0, Onward b next first.0 kept.0 first.1 (record { under = under; goes = goes ∙ ap Goes state; counts = is ∙ ap (point_after p b) state; keeps = kept.1 }))

reaches_on : (told : Bool) (p : TimedImage) (bound : ℕ) (from : Point) (c0 : ConsoleView) (at : Point) (c : ConsoleView) (to : Point) (d : ConsoleView) → Reaches told p bound from c0 at c → Reaches told p bound at c to d → Reaches told p bound from c0 to d
reaches_on told p bound from c0 at c to d first (Begins a b same is) =
    subst (λ (x : Point). Reaches told p bound from c0 x d) (sym same) (subst (λ (v : ConsoleView). Reaches told p bound from c0 at v) (sym is) first)
reaches_on told p bound from c0 at c to d first (Onward b next e e' more on) = Onward b next e e' (reaches_on told p bound from c0 at c b e first more) on

cut_on : (e : StepError) (told : Bool) (held : Option (List ℕ)) (p : TimedImage) (bound : ℕ) (from at : Point) (c0 c : ConsoleView)
    (r : Counts) (new : MachineView) (u g : List ℕ) → Reaches told p bound from c0 at c → IsCut e told c held p bound at r new u g →
    IsCut e told c0 held p bound from r new u g
cut_on e told held p bound from at c0 c r new u g first h =
    record { at = h.at; console = h.console; reaches = reaches_on told p bound from c0 at c h.at h.console first h.reaches; cut = h.cut }

ends_on : (end : RunEnd) (told : Bool) (p : TimedImage) (bound : ℕ) (from at : Point) (c0 c : ConsoleView) (r : Counts) (new : MachineView)
    (u g : List ℕ) → Reaches told p bound from c0 at c → EndsIn end p bound at r new u g → EndsIn end p bound from r new u g
ends_on end told p bound from at c0 c r new u g first (e, is) =
    (record { finish = e.finish; ends = finish_passes p bound from at e.finish (passed told p bound from c0 at c first) e.ends; stands = e.stands }, is)

reported_on : (end : Result PlainEnd AllocError) (told : Bool) (held : Option (List ℕ)) (p : TimedImage) (bound : ℕ) (from at : Point) (c0 c : ConsoleView) (r : Counts) (new : MachineView) (u g : List ℕ) →
    Reaches told p bound from c0 at c → StoppedBy told c held end p bound at r new u g → StoppedBy told c0 held end p bound from r new u g
reported_on (Ok ends.ReadFault) told held p bound from at c0 c r new u g first h = cut_on errors.ReadFault told held p bound from at c0 c r new u g first h
reported_on (Err e) told held p bound from at c0 c r new u g first h = cut_on errors.OutOfMemory told held p bound from at c0 c r new u g first h
reported_on (Ok ends.WriteFault) told held p bound from at c0 c r new u g first h = cut_on errors.WriteFault told held p bound from at c0 c r new u g first h
reported_on (Ok ends.Halt) told held p bound from at c0 c r new u g first h = ends_on defined.Halt told p bound from at c0 c r new u g first h
reported_on (Ok ends.Err) told held p bound from at c0 c r new u g first h = ends_on defined.Err told p bound from at c0 c r new u g first h
reported_on (Ok ends.Bound) told held p bound from at c0 c r new u g first h = ends_on defined.Bound told p bound from at c0 c r new u g first h
reported_on (Ok ends.StackLimit) told held p bound from at c0 c r new u g first h = ends_on defined.StackLimit told p bound from at c0 c r new u g first h

-- one after the other
led_on : (shown : Option (List ℕ) → List ℕ → List ℕ → Type 0) (l0 h0 : Option (List ℕ)) (c0 : ConsoleView) (l1 h1 : Option (List ℕ)) (c1 : ConsoleView) (l2 h2 : Option (List ℕ)) (c2 : ConsoleView)
    (P Q R : List ℕ → List ℕ → List ℕ → List ℕ → Type 0) → LedTo Given l0 h0 c0 l1 h1 c1 P → LedTo shown l1 h1 c1 l2 h2 c2 Q →
    ((u g v h w k : List ℕ) → P u g v h → Q v h w k → R u g w k) → LedTo shown l0 h0 c0 l2 h2 c2 R
led_on shown l0 h0 c0 l1 h1 c1 l2 h2 c2 P Q R first second both = λ rest here.
    let b = second rest here in
    let a = first b.0 b.1 in (
      a.0,
      a.1,
      λ given g0.
          let x = a.2 given g0 in
          let y = b.2 x.0 x.1 in
          (y.0, y.1, both a.0 given b.0 x.0 rest y.0 x.2 y.2),
    )

-- a run that has passed this boundary, with these frames and consoles
abbrev pub HasPassed : Bool → ℕ → Machine → ℕ → ℕ → ℕ → ℕ → ConsoleView → ConsoleView → MachineView → MachineView → List ℕ → List ℕ → List ℕ → List ℕ → Type 0
HasPassed told bound machine cycles instructions cycles' instructions' c c' old new u g u' g' =
    Reaches told (program_of old machine) bound (point_at old cycles instructions u g) c (point_at new cycles' instructions' u' g') c'

-- at the start of a run
pub passed_none : (told : Bool) (l h : Option (List ℕ)) (c : ConsoleView) (bound : ℕ) (machine : Machine) (cycles instructions : ℕ) (m : MachineView) →
    LedTo Given l h c l h c (HasPassed told bound machine cycles instructions cycles instructions c c m m)
passed_none told l h c bound machine cycles instructions m = λ rest here. (rest, here, λ given shown. (given, shown, Begins _ c refl refl))

same_program : (machine : Machine) (old new : MachineView) → KeepsProgram old new → program_of new machine ≡ program_of old machine
same_program machine old new keeps = ap₂ (λ (image : ImageView) (n : ℕ). program image n machine) keeps.image keeps.stack_end
  where
    program : ImageView → ℕ → Machine → TimedImage
    program image n machine = record { image = image; stack_end = n; timing = timing_of machine }

pub passed_more : (told : Bool) (l0 h0 : Option (List ℕ)) (c0 : ConsoleView) (l1 h1 : Option (List ℕ)) (c1 : ConsoleView) (l2 h2 : Option (List ℕ)) (c2 : ConsoleView) (bound : ℕ) (machine : Machine)
    (cycles instructions cycles' instructions' cycles'' instructions'' : ℕ) (old new next : MachineView) → KeepsProgram old new →
    LedTo Given l0 h0 c0 l1 h1 c1 (HasPassed told bound machine cycles instructions cycles' instructions' c0 c1 old new) →
    LedTo Given l1 h1 c1 l2 h2 c2 (λ u g u' g'. GoesOn told (program_of new machine) bound (point_at new cycles' instructions' u g) (point_at next cycles'' instructions'' u' g') c1 c2) →
    LedTo Given l0 h0 c0 l2 h2 c2 (HasPassed told bound machine cycles instructions cycles'' instructions'' c0 c2 old next)
passed_more told l0 h0 c0 l1 h1 c1 l2 h2 c2 bound machine cycles instructions cycles' instructions' cycles'' instructions'' old new next keeps first second =
    led_on Given l0 h0 c0 l1 h1 c1 l2 h2 c2 (HasPassed told bound machine cycles instructions cycles' instructions' c0 c1 old new)
    (λ u g u' g'. GoesOn told (program_of new machine) bound (point_at new cycles' instructions' u g) (point_at next cycles'' instructions'' u' g') c1 c2)
    (HasPassed told bound machine cycles instructions cycles'' instructions'' c0 c2 old next) first second
    (λ u g v h w k passes on. Onward (point_at new cycles' instructions' v h) (point_at next cycles'' instructions'' w k) c1 c2 passes
    (subst (λ (p : TimedImage). GoesOn told p bound (point_at new cycles' instructions' v h) (point_at next cycles'' instructions'' w k) c1 c2) (same_program machine old new keeps) on))

pub passed_end : (end : Result PlainEnd AllocError) (told : Bool) (l0 h0 : Option (List ℕ)) (c0 : ConsoleView) (l1 h1 : Option (List ℕ)) (c1 : ConsoleView) (l2 h2 : Option (List ℕ)) (c2 : ConsoleView) (bound : ℕ) (machine : Machine)
    (cycles instructions cycles' instructions' : ℕ) (r : Counts) (old new next : MachineView) → KeepsProgram old new →
    LedTo Given l0 h0 c0 l1 h1 c1 (HasPassed told bound machine cycles instructions cycles' instructions' c0 c1 old new) →
    LedTo (IsShown end) l1 h1 c1 l2 h2 c2 (λ u g u' g'. StoppedBy told c1 h2 end (program_of new machine) bound (point_at new cycles' instructions' u g) r next u' g') →
    LedTo (IsShown end) l0 h0 c0 l2 h2 c2 (λ u g u' g'. StoppedBy told c0 h2 end (program_of old machine) bound (point_at old cycles instructions u g) r next u' g')
passed_end end told l0 h0 c0 l1 h1 c1 l2 h2 c2 bound machine cycles instructions cycles' instructions' r old new next keeps first second =
    led_on (IsShown end) l0 h0 c0 l1 h1 c1 l2 h2 c2 (HasPassed told bound machine cycles instructions cycles' instructions' c0 c1 old new)
    (λ u g u' g'. StoppedBy told c1 h2 end (program_of new machine) bound (point_at new cycles' instructions' u g) r next u' g')
    (λ u g u' g'. StoppedBy told c0 h2 end (program_of old machine) bound (point_at old cycles instructions u g) r next u' g') first second
    (λ u g v h w k passes reported. reported_on end told h2 (program_of old machine) bound (point_at old cycles instructions u g) (point_at new cycles' instructions' v h) c0 c1 r next w k passes
    (subst (λ (p : TimedImage). StoppedBy told c1 h2 end p bound (point_at new cycles' instructions' v h) r next w k) (same_program machine old new keeps) reported))

-- what holds of a run between two turns
pub record IsRunning (l0 h0 : Option (List ℕ)) (c0 : ConsoleView) (l1 h1 : Option (List ℕ)) (c1 : ConsoleView) (bound : ℕ) (machine : Machine) (counts0 counts1 : Counts) (old new : MachineView) : Type 0 where
  pub passed : (told : Bool) → (told ≡ true → TellsLeft l0 c0.ended) →
      LedTo Given l0 h0 c0 l1 h1 c1 (HasPassed told bound machine counts0.cycles counts0.instructions counts1.cycles counts1.instructions c0 c1 old new)
  pub program : KeepsProgram old new
  pub boundary : IsAtBoundary counts1

-- one call after another over a source and a sink

pub source_on : {S : Type 0} (left : S → Option (List ℕ)) (e0 e1 e2 : Bool) (s0 s1 s2 : S) → SourceGoesOn left e0 s0 e1 s1 → SourceGoesOn left e1 s1 e2 s2 → SourceGoesOn left e0 s0 e2 s2
source_on left e0 e1 e2 s0 s1 s2 first then_ =
    record {
      asked_no_more = λ ended.
          let a = first.asked_no_more ended in
          let b = then_.asked_no_more a.0 in
          (b.0, b.1 ∙ a.1);
      tells_left = λ tells. then_.tells_left (first.tells_left tells);
    }

pub sink_on : {K : Type 0} (held passed : K → Option (List ℕ)) (E F G : Type 0) (k0 k1 k2 : K) → (E → G) → (F → G) → SinkGoesOn held passed E k0 k1 → SinkGoesOn held passed F k1 k2 → SinkGoesOn held passed G k0 k2
sink_on held passed E F G k0 k1 k2 early late first then_ =
    record {
      keeps = λ front h. then_.keeps front (first.keeps front h);
      tells = λ t. then_.tells (first.tells t);
      flushed = λ none f. then_.flushed (λ e. none (late e)) (first.flushed (λ e. none (early e)) f);
    }

pub source_stays : {S : Type 0} (left : S → Option (List ℕ)) (ended : Bool) (s : S) → SourceGoesOn left ended s ended s
source_stays left ended s = record { asked_no_more = λ e. (e, refl); tells_left = λ t. t }

pub sink_stays : {K : Type 0} (held passed : K → Option (List ℕ)) (G : Type 0) (k : K) → SinkGoesOn held passed G k k
sink_stays held passed G k = record { keeps = λ front h. h; tells = λ t. t; flushed = λ none f. f }

pub program_stays : (m : MachineView) → KeepsProgram m m
program_stays m = record { image = refl; stack_end = refl }

pub program_on : (old new next : MachineView) → KeepsProgram old new → KeepsProgram new next → KeepsProgram old next
program_on old new next first then_ = record { image = then_.image ∙ first.image; stack_end = then_.stack_end ∙ first.stack_end }
