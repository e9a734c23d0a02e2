-- What a run reports, from how it was driven.
use Rattle.ijvm_reference.proofs.Common.{◌≡◌, ◌≢◌, ℕ, ◌+◌, ◌-◌, Bool, true, false, List, [], ◌∷◌, ◌++◌, append_assoc, Option, Some, None, IfSome, Result}
use Rattle.ijvm_reference.proofs.Common.{Ok, Err, refl, sym, ap, ap₂, subst, ◌∙◌, arith, AllocError, is_some, append-nil, append_cancel_left, Holds, Machine}
use Rattle.ijvm_reference.proofs.Common.{ConsoleView, Untaken, Given, IsLost, LosesLast, TellsLeft, StepError, RunEnd, PlainEnd, PlainReport, Counts}
use Rattle.ijvm_reference.proofs.Common.{ImageView}
use Rattle.ijvm_reference.specs.declared.frames.StepError.TheVariants as errors
use Rattle.ijvm_meaning.specs.declared.run.RunEnd.TheVariants as defined
use Rattle.ijvm_reference.specs.declared.plain.PlainEnd.TheVariants as ends
use Rattle.ijvm_meaning.specs.Prelude.{Frame, State, frames_of, base, SameFrames, timing_of, TimedImage, Point, Finish, first_point}
use Rattle.ijvm_reference.specs.Prelude.{MachineView, state_of, started, fresh, program_of, point_at, IsAllBut, IsCut, IsCutAt, StandsWith, EndsIn}
use Rattle.ijvm_reference.specs.Prelude.{StoppedBy, IsShown, IsDriven, Begins, told_of, reported_end, IsReportOf, Reports, Leaves, GotFront, Finishes}
use Rattle.ijvm_reference.specs.Prelude.{Stops, HasRun, IsCutByRead, IsCutInside, IsCutAtEnd, IsShort}
use Rattle.ijvm_reference.proofs.SafeLemmas.{some_untaken}
use Rattle.ijvm_reference.proofs.Running.{lost_shown}
use Rattle.ijvm_reference.proofs.Following.{following, point_following, ended_following, reached_following}

reports : (front : List ℕ) (r : PlainReport) (c : Counts) (new : MachineView) (u g : List ℕ) (cycles instructions : ℕ) (last : Point) (left : State) →
    IsReportOf r c new → StandsWith (point_following front last) cycles instructions left c new u g → Reports r cycles instructions last
reports front r c new u g cycles instructions last left is at =
    let same : SameFrames (following front last.state) (state_of new u g) =
    subst (λ (s : State). SameFrames (following front last.state) s) at.left_is at.frames in
    let places : base (new.running ∷ new.callers) ≡ base (frames_of last.state) = ap₂ (λ (f : Frame) (fs : List Frame). base (f ∷ fs)) same.running same.callers in
    record {
      cycles_are = is.cycles ∙ sym at.all;
      instructions_are = is.instructions ∙ sym at.completed;
      boundary = is.boundary ∙ sym at.boundary;
      address = is.address ∙ same.at;
      sp = before r.sp (base (frames_of last.state)) (is.sp ∙ places);
      lv = is.lv ∙ ap base same.callers;
    }
  where
    before : (x y : ℕ) → x + 1 ≡ y → x ≡ y - 1
    before x y e = omega arith

-- what the sink got, after a flush that was done
got_all : (front out all : List ℕ) (held : Option (List ℕ)) → Given held [] all → front ++ out ≡ all → IfSome held (λ h. h ≡ front ++ out)
got_all front out all None shown e = tt
got_all front out all (Some h) shown e = sym (append-nil h) ∙ sym shown ∙ sym e

-- what the sink got, where it holds a front of all
got_front : (front out all : List ℕ) (held : Option (List ℕ)) → Holds front held → IfSome held (λ h. (more : List ℕ) × (all ≡ h ++ more)) → front ++ out ≡ all →
    IfSome held (λ h. (some more : List ℕ) × (h ≡ front ++ some) × (some ++ more ≡ out))
got_front front out all None holds shown e = tt
got_front front out all (Some h) holds shown e =
    let parts : front ++ (holds.0 ++ shown.0) ≡ front ++ out = sym (append_assoc front holds.0 shown.0) ∙ ap (λ (xs : List ℕ). xs ++ shown.0) (sym holds.1) ∙ sym shown.1 ∙ sym e in
    (holds.0, shown.0, holds.1, append_cancel_left front (holds.0 ++ shown.0) out parts)

kept_front : (kept all : List ℕ) (held : Option (List ℕ)) → Given held kept all → IfSome held (λ h. (more : List ℕ) × (all ≡ h ++ more))
kept_front kept all None shown = tt
kept_front kept all (Some h) shown = (kept, shown)

told_given : (held : Option (List ℕ)) → Given held [] (told_of held ++ [])
told_given None = tt
told_given (Some h) = refl

-- What is known in the end to be left of the source.

rest_told : (left' : Option (List ℕ)) (ended : Bool) (rest : List ℕ) → TellsLeft left' ended → Untaken left' ended rest → left' ≡ Some rest
rest_told left' true rest t here = t.tells ∙ ap some (t.none_left refl ∙ sym here)
  where
    some : List ℕ → Option (List ℕ)
    some x = Some x
rest_told left' false rest t here =
    let same : rest ≡ t.bytes = subst (λ (l : Option (List ℕ)). IfSome l (λ x. rest ≡ x)) t.tells here in
    t.tells ∙ ap some (sym same)
  where
    some : List ℕ → Option (List ℕ)
    some x = Some x

told_bytes : (left : Option (List ℕ)) (ended : Bool) (bytes : List ℕ) → ended ≡ false → left ≡ Some bytes → TellsLeft left ended
told_bytes left ended bytes not_ended is = record { bytes = bytes; tells = is; none_left = λ e. absurd (cc) }

told_if : (left : Option (List ℕ)) (ended : Bool) → ended ≡ false → is_some left ≡ true → TellsLeft left ended
told_if None ended not_ended is = absurd (cc)
told_if (Some bytes) ended not_ended is = told_bytes (Some bytes) ended bytes not_ended refl

-- where something was kept, it is the last that was given
lost_last : (held held' : Option (List ℕ)) (kept kept' given : List ℕ) → kept ≢ [] → IsLost held kept held' kept' → Given held kept given →
    LosesLast held' given
lost_last None held' kept kept' given some lost told = subst (λ o. LosesLast o given) (sym lost.prefix.1) tt
lost_last (Some h) held' kept kept' given some lost told = subst (λ o. LosesLast o given) (sym lost.prefix.1) (h, kept, lost.prefix.0, some, told, refl)

-- a run that was driven from its first boundary to this stop: what was known of the source and the sink before it, and what came of it
module _ (p : TimedImage) (main_locals bound : ℕ) (left held left' : Option (List ℕ)) where
  pub record Driven (stop : Result PlainEnd AllocError) (held' : Option (List ℕ)) (c' : ConsoleView) (c : Counts) (new : MachineView) : Type 0 where
    pub input : List ℕ
    pub told : Untaken left false input
    pub rest : List ℕ
    pub untaken : Leaves left left' rest
    pub all : List ℕ
    pub shown : IsShown stop held' c'.kept all
    pub stopped : StoppedBy (is_some left) fresh held' stop p bound (point_following (told_of held) (first_point p main_locals input)) c new rest all

pub driven : (stop : Result PlainEnd AllocError) (left held left' held' : Option (List ℕ)) (c0 c' : ConsoleView) (image : ImageView) (n main_locals bound : ℕ) (machine : Machine) (c0s c : Counts) (old new : MachineView) →
    c0.kept ≡ [] → c0.ended ≡ false → c0s.cycles ≡ 2 → c0s.instructions ≡ 0 → old ≡ started image n main_locals → (TellsLeft left c0.ended → TellsLeft left' c'.ended) →
    IsDriven (Some stop) bound machine c0s c left held c0 left' held' c' old new →
    Driven (record { image = image; stack_end = n; timing = timing_of machine }) main_locals bound left held left' stop held' c' c new
driven stop left held left' held' c0 c' image n main_locals bound machine c0s c old new kept ended cycles instructions is tells led =
    let rest = some_untaken left' c'.ended in
    let first = led (is_some left) (told_if left c0.ended ended) rest.0 rest.1 in
    let next = first.2 (told_of held ++ []) (subst (λ (k : List ℕ). Given held k (told_of held ++ [])) (sym kept) (told_given held)) in
    let begun : c0 ≡ fresh = ap₂ view kept ended in
    record {
      input = first.0;
      told = subst (λ (b : Bool). Untaken left b first.0) ended first.1;
      rest = rest.0;
      untaken = λ bytes told. rest_told left' c'.ended rest.0 (tells (told_bytes left c0.ended bytes ended told)) rest.1;
      all = next.0;
      shown = next.1;
      stopped = at_start (is_some left) held' stop bound machine c0 c0s c old new image n main_locals first.0 (told_of held ++ []) rest.0 next.0 begun cycles instructions is next.2;
    }
  where
    view : List ℕ → Bool → ConsoleView
    view kept ended = record { kept = kept; ended = ended }

    at_start : (told : Bool) (held' : Option (List ℕ)) (stop : Result PlainEnd AllocError) (bound : ℕ) (machine : Machine) (c0 : ConsoleView) (c0s c : Counts) (old new : MachineView) (image : ImageView) (n main_locals : ℕ) (u g u' g' : List ℕ) →
        c0 ≡ fresh → c0s.cycles ≡ 2 → c0s.instructions ≡ 0 → old ≡ started image n main_locals →
        StoppedBy told c0 held' stop (program_of old machine) bound (point_at old c0s.cycles c0s.instructions u g) c new u' g' →
        StoppedBy told fresh held' stop (program_of (started image n main_locals) machine) bound (point_at (started image n main_locals) 2 0 u g) c new u' g'
    at_start told held' stop bound machine c0 c0s c old new image n main_locals u g u' g' begun cycles instructions is h =
        rw (begun, cycles, instructions, is) at h

-- The run's end, or where it was cut, without the bytes that the sink held before it.

module _ (p : TimedImage) (main_locals bound : ℕ) (left held left' held1 held' : Option (List ℕ)) (c1 : ConsoleView) (c : Counts) (new : MachineView) where
  ended_at : (end : RunEnd) (input rest all : List ℕ) → Untaken left false input → Leaves left left' rest →
      EndsIn end p bound (point_following (told_of held) (first_point p main_locals input)) c new rest all →
      (run : Finishes p main_locals bound left held left' held') × (run.finish.end ≡ end) ×
      StandsWith (point_following (told_of held) run.finish.last) run.finish.cycles run.finish.instructions (following (told_of held) run.finish.left)
      c new rest all
  ended_at end input rest all told untaken e =
      let b = ended_following p bound (told_of held) (first_point p main_locals input) e.0.finish e.0.ends in
      let stands = subst (λ (x : Finish). StandsWith x.last x.cycles x.instructions x.left c new rest all) b.2 e.0.stands in (
        record {
          input = input;
          told = told;
          finish = b.0;
          ends = b.1;
          untaken = subst (λ (xs : List ℕ). Leaves left left' xs) (sym (ap (λ (s : State). s.untaken) stands.left_is)) untaken;
        },
        sym (ap (λ (x : Finish). x.end) b.2) ∙ e.1,
        stands,
      )

  cut_at : (e : StepError) (stop : Result PlainEnd AllocError) (d : Driven p main_locals bound left held left' stop held1 c1 c new) →
      IsCut e (is_some left) fresh held1 p bound (point_following (told_of held) (first_point p main_locals d.input)) c new d.rest d.all →
      (run : Stops p main_locals bound left held left' held') × IsCutAt e held1 p bound (point_following (told_of held) run.at) run.console c new d.rest d.all
  cut_at e stop d cut =
      let b = reached_following (is_some left) p bound (told_of held) (first_point p main_locals d.input) fresh cut.at cut.console cut.reaches in
      let is = subst (λ (x : Point). IsCutAt e held1 p bound x cut.console c new d.rest d.all) b.2 cut.cut in (
        record {
          input = d.input;
          told = d.told;
          at = b.0;
          console = cut.console;
          reaches = b.1;
          untaken = subst (λ (xs : List ℕ). Leaves left left' xs) (sym (ap (λ (s : State). s.untaken) is.stands.left_is)) d.untaken;
        },
        is,
      )

  -- without a fault a run is driven to an end of the definition's, and all that was given is shown
  undisturbed : (end : PlainEnd) → end ≢ ends.ReadFault → end ≢ ends.WriteFault → (d : Driven p main_locals bound left held left' (Ok end) held1 c1 c new) →
      (to : RunEnd) × (end ≡ reported_end to) × Given held1 c1.kept d.all ×
      EndsIn to p bound (point_following (told_of held) (first_point p main_locals d.input)) c new d.rest d.all
  undisturbed ends.Halt n m d = (defined.Halt, refl, d.shown, d.stopped)
  undisturbed ends.Err n m d = (defined.Err, refl, d.shown, d.stopped)
  undisturbed ends.Bound n m d = (defined.Bound, refl, d.shown, d.stopped)
  undisturbed ends.StackLimit n m d = (defined.StackLimit, refl, d.shown, d.stopped)
  undisturbed ends.ReadFault n m d = absurd (n refl)
  undisturbed ends.WriteFault n m d = absurd (m refl)

  pub ran : (end : PlainEnd) (r : PlainReport) → end ≢ ends.ReadFault → end ≢ ends.WriteFault →
      Driven p main_locals bound left held left' (Ok end) held1 c1 c new →
      ((g : List ℕ) → Given held1 c1.kept g → Given held' [] g) → IsReportOf r c new → r.end ≡ end → HasRun p main_locals bound left held left' held' r
  ran end r n m d flushed is by =
      let e = undisturbed end n m d in
      let b = ended_at e.0 d.input d.rest d.all d.told d.untaken e.3 in
      let f : Finish = b.0.finish in
      record {
        run = b.0;
        end = by ∙ e.1 ∙ ap reported_end (sym b.1);
        report = reports (told_of held) r c new d.rest d.all f.cycles f.instructions f.last (following (told_of held) f.left) is b.2;
        given = got_all (told_of held) f.left.given d.all held' (flushed d.all e.2) (ap (λ (s : State). s.given) b.2.left_is);
      }

  -- the run has ended, but the last flush failed
  pub unflushed : (end : PlainEnd) (kept : List ℕ) (r : PlainReport) → end ≢ ends.ReadFault → end ≢ ends.WriteFault →
      Driven p main_locals bound left held left' (Ok end) held1 c1 c new →
      c1.kept ≢ [] → IsLost held1 c1.kept held' kept → Holds (told_of held) held' → IsReportOf r c new → IsCutAtEnd p main_locals bound left held left' held' r
  unflushed end kept r n m d some lost holds is =
      let e = undisturbed end n m d in
      let b = ended_at e.0 d.input d.rest d.all d.told d.untaken e.3 in
      let f : Finish = b.0.finish in
      let given : told_of held ++ f.left.given ≡ d.all = ap (λ (s : State). s.given) b.2.left_is in
      record {
        run = b.0;
        report = reports (told_of held) r c new d.rest d.all f.cycles f.instructions f.last (following (told_of held) f.left) is b.2;
        given = got_front (told_of held) f.left.given d.all held' holds (lost_shown held1 held' c1.kept kept d.all lost e.2) given;
        last = subst (λ (xs : List ℕ). LosesLast held' xs) (sym given) (lost_last held1 held' c1.kept kept d.all some lost e.2);
      }

  pub cut_by_read : (r : PlainReport) → Driven p main_locals bound left held left' (Ok ends.ReadFault) held1 c1 c new →
      ((g : List ℕ) → Given held1 c1.kept g → Given held' [] g) →
      IsReportOf r c new → IsCutByRead p main_locals bound left held left' held' r
  cut_by_read r d flushed is =
      let b = cut_at errors.ReadFault (Ok ends.ReadFault) d d.stopped in
      let at : Point = b.0.at in
      record {
        run = b.0;
        under = b.1.under;
        instr = (b.1.met.read refl).0;
        asked = (b.1.met.read refl).1;
        report = reports (told_of held) r c new d.rest d.all at.cycles at.instructions at (following (told_of held) at.state) is b.1.stands;
        given = got_all (told_of held) at.state.given d.all held' (flushed d.all d.shown) (ap (λ (s : State). s.given) b.1.stands.left_is);
      }

  pub cut_inside : (r : PlainReport) → Driven p main_locals bound left held left' (Ok ends.WriteFault) held1 c1 c new → held' ≡ held1 →
      Holds (told_of held) held1 → IsReportOf r c new →
      IsCutInside p main_locals bound left held left' held' r
  cut_inside r d same holds is =
      let b = cut_at errors.WriteFault (Ok ends.WriteFault) d d.stopped in
      let at : Point = b.0.at in
      let given : told_of held ++ at.state.given ≡ d.all = ap (λ (s : State). s.given) b.1.stands.left_is in
      record {
        run = b.0;
        under = b.1.under;
        met = b.1.met.write refl;
        report = reports (told_of held) r c new d.rest d.all at.cycles at.instructions at (following (told_of held) at.state) is b.1.stands;
        given = subst (λ (h : Option (List ℕ)). GotFront held h at.state.given) (sym same)
            (got_front (told_of held) at.state.given d.all held1 holds d.shown given);
        lost = subst (λ (h : Option (List ℕ)). IsAllBut h b.0.console.kept (told_of held ++ at.state.given)) (sym same)
            (subst (λ (xs : List ℕ). IsAllBut held1 b.0.console.kept xs) (sym given) (b.1.lost refl));
      }

  pub short : (e : AllocError) → Driven p main_locals bound left held left' (Err e) held1 c1 c new → held' ≡ held1 → Holds (told_of held) held1 →
      IsShort p main_locals bound left held left' held'
  short e d same holds =
      let b = cut_at errors.OutOfMemory (Err e) d d.stopped in
      record {
        run = b.0;
        given = subst (λ (h : Option (List ℕ)). GotFront held h b.0.at.state.given) (sym same)
            (got_front (told_of held) b.0.at.state.given d.all held1 holds (kept_front c1.kept d.all held1 d.shown)
            (ap (λ (s : State). s.given) b.1.stands.left_is));
      }

-- memory ran out before the first boundary
pub short_first : (left held : Option (List ℕ)) (p : TimedImage) (main_locals bound : ℕ) → IsShort p main_locals bound left held left held
short_first left held p main_locals bound =
    let input = some_untaken left false in
    record {
      run = record {
        input = input.0;
        told = input.1;
        at = first_point p main_locals input.0;
        console = fresh;
        reaches = Begins _ fresh refl refl;
        untaken = same_left left input.0 input.1;
      };
      given = nothing held;
    }
  where
    nothing : (h : Option (List ℕ)) → GotFront h h []
    nothing None = tt
    nothing (Some h) = ([], [], sym (append-nil h), refl)

    same_left : (l : Option (List ℕ)) (input : List ℕ) → Untaken l false input → Leaves l l input
    same_left l input here = λ bytes is. rest_told l false input (told_bytes l false bytes refl is) here

pub holds_told : (held : Option (List ℕ)) → Holds (told_of held) held
holds_told None = tt
holds_told (Some h) = ([], sym (append-nil h))
