-- The runs of an accepted image are sound.
use Rattle.std.proofs.Common.{◌≡◌, ◌≢◌, ℕ, ℤ, zero, suc, ◌+◌, ◌<◌, ◌≤◌, inl, inr, Bool, true, false, cond, Option, Some, None, List, [], ◌∷◌, length, take, drop, replicate, refl, arith, ◌∙◌, ap, sym, subst, length-set, length-drop, length-take}
use Rattle.std.specs.Prelude.{slice_get, slice_set, nat_lt, nat_le, ◌==◌}
use Rattle.std.specs.Option.{option_map}
use Rattle.std.proofs.lemmas.Bool.{cases_lt, lt-ltb, ne_eqb}
use Rattle.std.proofs.lemmas.Option.{slice_get_within, slice_get-get_or}
use Rattle.std.proofs.lemmas.List.{length-replicate}
use Rattle.console_port.specs.Prelude.{next_byte}
use Rattle.ijvm_instr.specs.declared.instr.Instr.{Instr}
use Rattle.ijvm_instr.specs.declared.instr.Instr.TheVariants.{Nop, Bipush, LdcW, Iload, Istore, Pop, Dup, Swap, Iinc, Ifeq, Iflt, IfIcmpeq, Goto, Ireturn, Invokevirtual, WideIload, WideIstore, WideIinc, In, Out, Err, Halt}
use Rattle.ijvm_instr.specs.declared.row.Flow.TheVariants.{Branch}
use Rattle.ijvm_instr.specs.Prelude.{row_of, size_of, instr_at, target, word_of}
use Rattle.ijvm_image.specs.declared.method.Method.{Method}
use Rattle.ijvm_image.specs.Prelude.{ImageView}
use Rattle.ijvm_meaning.specs.Prelude.{Frame, State, base, frames_of, start_of, StepOutcome, Goes, Limits, Stuck, limited, moved, pushed, pushed_constant, loaded, is_own, with_local, stored, increased, popped, doubled, swapped, combined, way, branched, compared, returned, onto, in_method, entered, called_at, taken, given_out, step, step_if_any, step_outcome, after, state_after, SameFrames, ComesTo, Here}
use Rattle.ijvm_meaning.specs.Safe.{On as Onward}
use Rattle.verifier_facts.specs.declared.error.VerifyError.TheVariants.{LinkSlot, BadLocal, UnsetLocal}
use Rattle.verifier_facts.specs.Prelude.{Arrival, arrival, need_of, GoesOn, left_unset, MayCarry, Reached, Start, Names, IsMainCount, Accepts, IsFrameOf, FrameStandsAt, AreWaiting, IsSound, Finds, KeepsSound}
use Rattle.verifier_facts.proofs.Rows.{size_fits}
use Rattle.verifier_facts.proofs.Reaches.{Stands, IsCalled, code_there, reached_inside, constant_there, method_there, operands_there, inside, goes_on, goes_in, params_above, return_in_method}

-- where the running frame stands
abbrev pub place_of : Option ℕ → State → Option ℕ → Arrival
place_of unit s unset = arrival unit s.at (length s.running.operands) unset

-- the premises of a step
pub record Steps (image : ImageView) (z count : ℕ) (s : State) (i : Instr) : Type 0 where
  pub accepts : Accepts image z
  pub main : IsMainCount image count
  pub sound : IsSound image count s
  pub code : instr_at image.text s.at ≡ Some i

abbrev standing : (image : ImageView) (z count : ℕ) (s : State) (i : Instr) (h : Steps image z count s i) → Stands image z (place_of h.sound.unit s None) i
standing image z count s i h = record { accepts = h.accepts; reached = h.sound.running.reached; code = h.code }

-- a local that the instruction names is one of the frame's
own_local : (image : ImageView) (z count : ℕ) (s : State) (i : Instr) (h : Steps image z count s i) (k : ℕ) → Names (row_of i) k → (k < length s.running.locals) × (is_own s.running.back k ≡ true)
own_local image z count s i h k names = by_unit h.sound.unit h.sound.running.reached s.running.back h.sound.running.frame k names
  where
    by_unit : (u : Option ℕ) → Reached image (place_of u s None) → (back : Option ℕ) → IsFrameOf image.text count u back s.running.locals → (k : ℕ) → Names (row_of i) k →
        (k < length s.running.locals) × (is_own back k ≡ true)
    by_unit None r back f k names =
        let below : k < count = h.main.above k (place_of None s None, row_of i, r, (i, h.code, refl), refl, names) in
        (omega (arith, f.1), ap (λ (b : Option ℕ). is_own b k) f.0)
    by_unit (Some e) r back f zero names = absurd (h.accepts (LinkSlot s.at) (place_of (Some e) s None, r, (refl, row_of i, (i, h.code, refl), e, refl, names)))
    by_unit (Some e) r back f (suc k) names = (
      elim (cases_lt (suc k) (length s.running.locals)) [
        | inl low ↦ low
        | inr high ↦ absurd (h.accepts (BadLocal s.at (suc k)) (place_of (Some e) s None, r, (refl, row_of i, (i, h.code, refl), e, refl, names, omega (arith, f.1))))
      ],
      by_back back,
    )
      where
        by_back : (b : Option ℕ) → is_own b (suc k) ≡ true
        by_back None = refl
        by_back (Some r) = refl

-- a local that the instruction reads is set
set_local : (image : ImageView) (z count : ℕ) (s : State) (i : Instr) (h : Steps image z count s i) (k : ℕ) → (row_of i).reads ≡ Some k → (v : ℕ) × (slice_get s.running.locals k ≡ Some (Some v))
set_local image z count s i h k reads =
    let own = own_local image z count s i h k (inl reads) in
    by_local (slice_get s.running.locals k) refl own.0
    (by_unit h.sound.unit s.running.back h.sound.running.frame h.sound.running.carried own.1)
  where
    by_local : (o : Option (Option ℕ)) → slice_get s.running.locals k ≡ o → k < length s.running.locals → slice_get s.running.locals k ≢ Some None → (v : ℕ) × (slice_get s.running.locals k ≡ Some (Some v))
    by_local None is lt set = let some : slice_get s.running.locals k ≡ Some _ = slice_get-get_or s.running.locals k None lt in cc
    by_local (Some None) is lt set = absurd (set is)
    by_local (Some (Some v)) is lt set = (v, is)

    by_unit : (u : Option ℕ) (back : Option ℕ) → IsFrameOf image.text count u back s.running.locals →
        ((j : ℕ) → 0 < j → slice_get s.running.locals j ≡ Some None → Reached image (place_of u s (Some j))) → is_own back k ≡ true → slice_get s.running.locals k ≢ Some None
    by_unit None back f carried own is = f.2 k is
    by_unit (Some e) back f carried own is =
        let above : 0 < k = own_above back k f.0 own in
        h.accepts (UnsetLocal s.at k) (place_of (Some e) s (Some k), carried k above is, (refl, row_of i, (i, h.code, refl), refl, reads))
      where
        own_above : (b : Option ℕ) (j : ℕ) → b ≢ None → is_own b j ≡ true → 0 < j
        own_above None j some own = absurd (some refl)
        own_above (Some r) zero some own = cc
        own_above (Some r) (suc j) some own = omega arith

-- a method has a caller
caller_there : (image : ImageView) (z count : ℕ) → Accepts image z → (back : Option ℕ) (fs : List Frame) → AreWaiting image count back fs → back ≢ None →
    (to : ℕ) × (g : Frame) × (gs : List Frame) × (back ≡ Some to) × (fs ≡ g ∷ gs) × (to < length image.text)
caller_there image z count accepts None fs w some = absurd (some refl)
caller_there image z count accepts (Some to) [] w some = elim w [ ]
caller_there image z count accepts (Some to) (g ∷ gs) w some = (to, g, gs, refl, refl, reached_inside image z (arrival w.0.0 to (length g.operands + 1) None) accepts w.0.1.reached)

in_method_back : (text : List ℕ) (count : ℕ) (u back : Option ℕ) (locals : List (Option ℕ)) → u ≢ None → IsFrameOf text count u back locals → back ≢ None
in_method_back text count None back locals some f = absurd (some refl)
in_method_back text count (Some e) back locals some f = f.0

-- what the instruction finds in a sound state
pub finds : (image : ImageView) (z count : ℕ) (s : State) (i : Instr) → Steps image z count s i → Finds image s i
finds image z count s i h = record {
  code = h.code;
  whole = size_fits image.text s.at i h.code;
  constant = constant_there image z (place_of h.sound.unit s None) i (standing image z count s i h);
  operands = operands_there image z (place_of h.sound.unit s None) i (standing image z count s i h);
  read = λ k reads. set_local image z count s i h k reads;
  named = λ k names. own_local image z count s i h k names;
  inside = λ to way. inside image z (place_of h.sound.unit s None) i to (standing image z count s i h) way;
  calls = λ k flow. let m = method_there image z (place_of h.sound.unit s None) i k (standing image z count s i h) flow in
      (m.0, m.1.is, params_above image z (place_of h.sound.unit s None) i k m.0 (standing image z count s i h) flow m.1, m.1.inside);
  returns = λ flow. caller_there image z count h.accepts s.running.back s.callers h.sound.callers
      (in_method_back image.text count h.sound.unit s.running.back s.running.locals (return_in_method image z (place_of h.sound.unit s None) i (standing image z count s i h) flow) h.sound.running.frame);
}

-- an outcome that is sound
abbrev pub IsGood : ImageView → ℕ → StepOutcome → Type 0
IsGood image count (Goes to) = IsSound image count to
IsGood image count Stuck = ⊥
IsGood image count _ = Unit {0}

good_limited : (image : ImageView) (count z : ℕ) (left to : State) → IsSound image count to → IsGood image count (limited z left to)
good_limited image count z left to h = by_test (nat_le (base (frames_of to)) z)
  where
    by_test : (b : Bool) → IsGood image count (cond b (Goes to) (Limits left))
    by_test true = h
    by_test false = tt

-- the console's bytes do not matter
pub same_sound : (image : ImageView) (count : ℕ) (s to : State) → SameFrames s to → IsSound image count s → IsSound image count to
same_sound image count s to same h = record {
  unit = h.unit;
  running = subst (λ (f : Frame). FrameStandsAt image count h.unit to.at (length f.operands) f.back f.locals) (sym same.running)
      (subst (λ (at : ℕ). FrameStandsAt image count h.unit at (length s.running.operands) s.running.back s.running.locals) (sym same.at) h.running);
  callers = subst (λ (f : Frame). AreWaiting image count f.back to.callers) (sym same.running)
      (subst (λ (fs : List Frame). AreWaiting image count s.running.back fs) (sym same.callers) h.callers);
}

-- a frame goes on with the instruction, at another address and depth, with such locals
stands_on : (image : ImageView) (z count : ℕ) (s : State) (i : Instr) (h : Steps image z count s i) (need to d : ℕ) → need_of image (row_of i).needs (row_of i).flow ≡ Some need →
    GoesOn (row_of i).flow s.at (s.at + size_of (row_of i)) to → d + need ≡ length s.running.operands + (row_of i).gives → (locals : List (Option ℕ)) → IsFrameOf image.text count h.sound.unit s.running.back locals →
    ((k : ℕ) → slice_get locals k ≡ Some None → (slice_get s.running.locals k ≡ Some None) × (left_unset (row_of i).stores (Some k) ≡ Some k)) →
    FrameStandsAt image count h.sound.unit to d s.running.back locals
stands_on image z count s i h need to d needs goes depth locals frame unset =
    let u : Option ℕ = h.sound.unit in
    record {
      reached = subst (λ (c : Option ℕ). Reached image (arrival u to d c)) (stays_none (row_of i).stores)
          (goes_on image z (place_of u s None) i need to d (record { accepts = h.accepts; reached = h.sound.running.reached; code = h.code }) needs goes depth);
      carried = λ k above is. let w = unset k is in
          subst (λ (c : Option ℕ). Reached image (arrival u to d c)) w.1
          (goes_on image z (place_of u s (Some k)) i need to d (record { accepts = h.accepts; reached = h.sound.running.carried k above w.0; code = h.code }) needs goes depth);
      frame = frame;
    }
  where
    stays_none : (o : Option ℕ) → left_unset o None ≡ None
    stays_none None = refl
    stays_none (Some k) = refl

-- the running frame with other operands, and the same locals
sound_on : (image : ImageView) (z count : ℕ) (s : State) (i : Instr) (h : Steps image z count s i) (need to : ℕ) (xs : List ℕ) → need_of image (row_of i).needs (row_of i).flow ≡ Some need →
    GoesOn (row_of i).flow s.at (s.at + size_of (row_of i)) to → length xs + need ≡ length s.running.operands + (row_of i).gives → (row_of i).stores ≡ None → IsSound image count (moved s xs to)
sound_on image z count s i h need to xs needs goes depth stores = record {
  unit = h.sound.unit;
  running = stands_on image z count s i h need to (length xs) needs goes depth s.running.locals h.sound.running.frame
      (λ k is. (is, ap (λ (o : Option ℕ). left_unset o (Some k)) stores));
  callers = h.sound.callers;
}

-- one operand more
good_push : (image : ImageView) (z count : ℕ) (s : State) (i : Instr) (h : Steps image z count s i) (v to : ℕ) → need_of image (row_of i).needs (row_of i).flow ≡ Some 0 → (row_of i).gives ≡ 1 → (row_of i).stores ≡ None →
    GoesOn (row_of i).flow s.at (s.at + size_of (row_of i)) to → IsGood image count (pushed z s v to)
good_push image z count s i h v to needs gives stores goes =
    good_limited image count z s (moved s (v ∷ s.running.operands) to) (sound_on image z count s i h 0 to (v ∷ s.running.operands) needs goes (omega arith) stores)

-- there are this many operands
enough : (image : ImageView) (z count : ℕ) (s : State) (i : Instr) (h : Steps image z count s i) (need : ℕ) → need_of image (row_of i).needs (row_of i).flow ≡ Some need → need ≤ length s.running.operands
enough image z count s i h need needs =
    let w = (finds image z count s i h).operands in
    let same : w.0 ≡ need = cc in omega (arith, w.2)

-- an instruction that takes one operand, and one that takes two
good_one : (image : ImageView) (z count : ℕ) (s : State) (i : Instr) (h : Steps image z count s i) (does : List ℕ → StepOutcome) →
    need_of image (row_of i).needs (row_of i).flow ≡ Some 1 →
    ((y : ℕ) (rest : List ℕ) → s.running.operands ≡ y ∷ rest → IsGood image count (does (y ∷ rest))) → IsGood image count (does s.running.operands)
good_one image z count s i h does needs good = by_operands (enough image z count s i h 1 needs) s.running.operands refl
  where
    by_operands : 1 ≤ length s.running.operands → (xs : List ℕ) → s.running.operands ≡ xs → IsGood image count (does xs)
    by_operands n [] is = absurd (omega (arith, ap length is))
    by_operands n (y ∷ rest) is = good y rest is

good_two : (image : ImageView) (z count : ℕ) (s : State) (i : Instr) (h : Steps image z count s i) (does : List ℕ → StepOutcome) →
    need_of image (row_of i).needs (row_of i).flow ≡ Some 2 →
    ((y x : ℕ) (rest : List ℕ) → s.running.operands ≡ y ∷ x ∷ rest → IsGood image count (does (y ∷ x ∷ rest))) → IsGood image count (does s.running.operands)
good_two image z count s i h does needs good = by_operands (enough image z count s i h 2 needs) s.running.operands refl
  where
    by_operands : 2 ≤ length s.running.operands → (xs : List ℕ) → s.running.operands ≡ xs → IsGood image count (does xs)
    by_operands n [] is = absurd (omega (arith, ap length is))
    by_operands n (y ∷ []) is = absurd (omega (arith, ap length is))
    by_operands n (y ∷ x ∷ rest) is = good y x rest is

good_constant : (image : ImageView) (z count : ℕ) (s : State) (k : ℕ) → Steps image z count s (LdcW k) → IsGood image count (step image z (LdcW k) s)
good_constant image z count s k h = by_constant (slice_get image.pool k) refl (finds image z count s (LdcW k) h).constant
  where
    by_constant : (o : Option ℕ) → slice_get image.pool k ≡ o → k < length image.pool → IsGood image count (pushed_constant z s o)
    by_constant None is lt = let some : slice_get image.pool k ≡ Some _ = slice_get-get_or image.pool k 0 lt in cc
    by_constant (Some v) is lt = good_push image z count s (LdcW k) h v (s.at + 3) refl refl refl (inl (refl, refl))

good_load : (image : ImageView) (z count : ℕ) (s : State) (i : Instr) (k to : ℕ) (h : Steps image z count s i) → (row_of i).reads ≡ Some k → need_of image (row_of i).needs (row_of i).flow ≡ Some 0 → (row_of i).gives ≡ 1 →
    (row_of i).stores ≡ None → GoesOn (row_of i).flow s.at (s.at + size_of (row_of i)) to → IsGood image count (loaded z s (slice_get s.running.locals k) to)
good_load image z count s i k to h reads needs gives stores goes =
    let w = (finds image z count s i h).read k reads in
    subst (λ (o : Option (Option ℕ)). IsGood image count (loaded z s o to)) (sym w.1) (good_push image z count s i h w.0 to needs gives stores goes)

-- what a write leaves unset
set_unset : (xs : List (Option ℕ)) (k v j : ℕ) → k < length xs → slice_get (slice_set xs k (Some v)) j ≡ Some None → (slice_get xs j ≡ Some None) × (j ≢ k)
set_unset [] k v j lt is = absurd (omega arith)
set_unset (x ∷ xs) zero v zero lt is = cc
set_unset (x ∷ xs) zero v (suc j) lt is = (is, omega arith)
set_unset (x ∷ xs) (suc k) v zero lt is = (is, omega arith)
set_unset (x ∷ xs) (suc k) v (suc j) lt is =
    let below : k < length xs = omega arith in
    let w = set_unset xs k v j below is in (w.0, λ e. w.1 (omega arith))

-- the frame of a unit after a write
frame_set : (text : List ℕ) (count : ℕ) (u back : Option ℕ) (xs : List (Option ℕ)) (k v : ℕ) → k < length xs → IsFrameOf text count u back xs → IsFrameOf text count u back (slice_set xs k (Some v))
frame_set text count None back xs k v lt f = (f.0, length-set xs k (Some v) ∙ f.1, λ j is. f.2 j (set_unset xs k v j lt is).0)
frame_set text count (Some e) back xs k v lt f = (f.0, length-set xs k (Some v) ∙ f.1)

good_store : (image : ImageView) (z count : ℕ) (s : State) (i : Instr) (k to : ℕ) (h : Steps image z count s i) → (row_of i).stores ≡ Some k → need_of image (row_of i).needs (row_of i).flow ≡ Some 1 → (row_of i).gives ≡ 0 →
    GoesOn (row_of i).flow s.at (s.at + size_of (row_of i)) to → IsGood image count (stored s k s.running.operands to)
good_store image z count s i k to h stores needs gives goes = good_one image z count s i h (λ xs. stored s k xs to) needs (λ v rest is.
    let own = own_local image z count s i h k (inr stores) in
    by_tests (is_own s.running.back k) (nat_lt k (length s.running.locals)) (with_local s k v rest to) own.1
    (lt-ltb k (length s.running.locals) own.0) (record {
      unit = h.sound.unit;
      running = stands_on image z count s i h 1 to (length rest) needs goes (omega (arith, ap length is)) (slice_set s.running.locals k (Some v))
          (frame_set image.text count h.sound.unit s.running.back s.running.locals k v own.0 h.sound.running.frame)
          (λ j unset. let w = set_unset s.running.locals k v j own.0 unset in
          (w.0, ap (λ (o : Option ℕ). left_unset o (Some j)) stores ∙ ap (λ (b : Bool). cond b None (Some j)) (ne_eqb j k w.1)));
      callers = h.sound.callers;
    }))
  where
    by_tests : (b c : Bool) (to : State) → b ≡ true → c ≡ true → IsSound image count to → IsGood image count (cond b (cond c (Goes to) Stuck) Stuck)
    by_tests true true to p q sound = sound
    by_tests true false to p q sound = cc
    by_tests false c to p q sound = cc

good_increase : (image : ImageView) (z count : ℕ) (s : State) (i : Instr) (k : ℕ) (n : ℤ) (to : ℕ) (h : Steps image z count s i) → (row_of i).reads ≡ Some k → need_of image (row_of i).needs (row_of i).flow ≡ Some 0 → (row_of i).gives ≡ 0 →
    (row_of i).stores ≡ None → GoesOn (row_of i).flow s.at (s.at + size_of (row_of i)) to → IsGood image count (increased s k n (slice_get s.running.locals k) to)
good_increase image z count s i k n to h reads needs gives stores goes =
    let w = (finds image z count s i h).read k reads in
    let own = own_local image z count s i h k (inl reads) in
    subst (λ (o : Option (Option ℕ)). IsGood image count (increased s k n o to)) (sym w.1) (record {
      unit = h.sound.unit;
      running = stands_on image z count s i h 0 to (length s.running.operands) needs goes (omega arith) (slice_set s.running.locals k (Some _))
          (frame_set image.text count h.sound.unit s.running.back s.running.locals k _ own.0 h.sound.running.frame)
          (λ j unset. ((set_unset s.running.locals k _ j own.0 unset).0, ap (λ (o : Option ℕ). left_unset o (Some j)) stores));
      callers = h.sound.callers;
    })

good_combine : (image : ImageView) (z count : ℕ) (s : State) (i : Instr) (f : ℕ → ℕ → ℕ) (h : Steps image z count s i) → need_of image (row_of i).needs (row_of i).flow ≡ Some 2 → (row_of i).gives ≡ 1 → (row_of i).stores ≡ None →
    GoesOn (row_of i).flow s.at (s.at + size_of (row_of i)) (s.at + 1) → IsGood image count (combined f s s.running.operands)
good_combine image z count s i f h needs gives stores goes = good_two image z count s i h (combined f s) needs
    (λ y x rest is. sound_on image z count s i h 2 (s.at + 1) (f x y ∷ rest) needs goes (omega (arith, ap length is)) stores)

good_branch : (image : ImageView) (z count : ℕ) (s : State) (i : Instr) (test : ℕ → Bool) (o : ℤ) (h : Steps image z count s i) → need_of image (row_of i).needs (row_of i).flow ≡ Some 1 → (row_of i).gives ≡ 0 →
    (row_of i).stores ≡ None → ((taken : Bool) → GoesOn (row_of i).flow s.at (s.at + size_of (row_of i)) (way s.at o taken)) → IsGood image count (branched test s o s.running.operands)
good_branch image z count s i test o h needs gives stores goes = good_one image z count s i h (branched test s o) needs
    (λ y rest is. sound_on image z count s i h 1 (way s.at o (test y)) rest needs (goes (test y)) (omega (arith, ap length is)) stores)

branch_ways : (at : ℕ) (o : ℤ) (taken : Bool) → GoesOn (Branch o) at (at + 3) (way at o taken)
branch_ways at o true = inr (o, refl, refl)
branch_ways at o false = inl (refl, refl)

good_in : (image : ImageView) (z count : ℕ) (s : State) → Steps image z count s In → IsGood image count (step image z In s)
good_in image z count s h =
    good_limited image count z (taken s) _
    (same_sound image count (moved s (next_byte s.untaken ∷ s.running.operands) (s.at + 1)) _ (record { running = refl; callers = refl; at = refl })
    (sound_on image z count s In h 0 (s.at + 1) (next_byte s.untaken ∷ s.running.operands) refl (inl (refl, refl)) (omega arith) refl))

good_return : (image : ImageView) (z count : ℕ) (s : State) → Steps image z count s Ireturn → IsGood image count (step image z Ireturn s)
good_return image z count s h =
    by_back s.running.back s.callers s.running.operands h.sound.callers (back_there ((finds image z count s Ireturn h).returns refl)) (enough image z count s Ireturn h 1 refl)
  where
    back_there : (to : ℕ) × (g : Frame) × (gs : List Frame) × (s.running.back ≡ Some to) × (s.callers ≡ g ∷ gs) × (to < length image.text) → s.running.back ≢ None
    back_there w none = let some : s.running.back ≡ Some w.0 = w.3 in cc

    by_back : (back : Option ℕ) (fs : List Frame) (xs : List ℕ) → AreWaiting image count back fs → back ≢ None → 1 ≤ length xs → IsGood image count (returned s back fs xs)
    by_back None fs xs w some n = some refl
    by_back (Some to) [] xs w some n = elim w [ ]
    by_back (Some to) (f ∷ fs) [] w some n = omega arith
    by_back (Some to) (f ∷ fs) (y ∷ rest) w some n = record {
      unit = w.0.0;
      running = subst (λ (d : ℕ). FrameStandsAt image count w.0.0 to d f.back f.locals) (omega arith) w.0.1;
      callers = w.1;
    }

length_onto : (ps : List ℕ) (xs : List (Option ℕ)) → length (onto ps xs) ≡ length ps + length xs
length_onto [] xs = omega arith
length_onto (p ∷ ps) xs = let e : length (onto ps (Some p ∷ xs)) ≡ length ps + length (Some p ∷ xs) = length_onto ps (Some p ∷ xs) in omega (arith, e)

-- the parameters are set
set_onto : (ps : List ℕ) (xs : List (Option ℕ)) (j : ℕ) → ((k : ℕ) → k < j → slice_get xs k ≢ Some None) → (k : ℕ) → k < length ps + j → slice_get (onto ps xs) k ≢ Some None
set_onto [] xs j h k lt = h k (omega arith)
set_onto (p ∷ ps) xs j h k lt = set_onto ps (Some p ∷ xs) (j + 1) first k (omega arith)
  where
    first : (i : ℕ) → i < j + 1 → slice_get (Some p ∷ xs) i ≢ Some None
    first zero lt is = cc
    first (suc i) lt is = h i (omega arith) is

-- a called method's frame, with a parameter for each of these operands
stands_in : (image : ImageView) (z count : ℕ) (s : State) (k : ℕ) (h : Steps image z count s (Invokevirtual k)) (m : Method) → IsCalled image (place_of h.sound.unit s None) k m →
    (ps : List ℕ) → m.params ≡ length ps + 1 → FrameStandsAt image count (Some m.entry) (m.entry + 4) 0 (Some (s.at + 3)) (None ∷ onto ps (replicate m.others None))
stands_in image z count s k h m is ps many = record {
  reached = into None tt;
  carried = carried;
  frame = ((λ none. cc), omega (arith, long, is.params_is, is.others_is));
}
  where
    into : (c : Option ℕ) → MayCarry image.text m.entry c → Reached image (arrival (Some m.entry) (m.entry + 4) 0 c)
    into c may = goes_in image z (place_of h.sound.unit s None) (Invokevirtual k) k m c (standing image z count s (Invokevirtual k) h) refl is may

    long : length (onto ps (replicate {A = Option ℕ} m.others None)) ≡ length ps + m.others
    long = length_onto ps (replicate m.others None) ∙ ap (λ n. length ps + n) (length-replicate {A = Option ℕ} m.others None)

    carried : (j : ℕ) → 0 < j → slice_get (None ∷ onto ps (replicate m.others None)) j ≡ Some None → Reached image (arrival (Some m.entry) (m.entry + 4) 0 (Some j))
    carried zero above unset = absurd (omega arith)
    carried (suc j) above unset =
        let within : j < length (onto ps (replicate {A = Option ℕ} m.others None)) = slice_get_within (onto ps (replicate m.others None)) j None unset in
        elim (cases_lt j (length ps)) [
          | inl param ↦ absurd (set_onto ps (replicate m.others None) 0 (λ i lt. absurd (omega arith)) j (omega arith) unset)
          | inr own ↦ into (Some (suc j)) (omega (arith, is.params_is), omega (arith, long, is.params_is, is.others_is))
        ]

sound_in : (image : ImageView) (z count : ℕ) (s : State) (k : ℕ) (h : Steps image z count s (Invokevirtual k)) (m : Method) → IsCalled image (place_of h.sound.unit s None) k m → (n : ℕ) → m.params ≡ n + 1 →
    n < length s.running.operands → IsSound image count (in_method s m n)
sound_in image z count s k h m is n many room =
    let long : length (take n s.running.operands) ≡ n = omega (arith, length-take n s.running.operands) in
    let needs : need_of image 0 (row_of (Invokevirtual k)).flow ≡ Some m.params = ap (option_map (λ (m : Method). m.params)) is.is in
    record {
      unit = Some m.entry;
      running = stands_in image z count s k h m is (take n s.running.operands) (omega arith);
      callers = (
        (
          h.sound.unit,
          stands_on image z count s (Invokevirtual k) h m.params (s.at + 3) (length (drop (n + 1) s.running.operands) + 1) needs (inl (refl, refl)) (omega (arith, length-drop (n + 1) s.running.operands)) s.running.locals
              h.sound.running.frame (λ j unset. (unset, refl)),
        ),
        h.sound.callers,
      );
    }

good_call : (image : ImageView) (z count : ℕ) (s : State) (k : ℕ) → Steps image z count s (Invokevirtual k) → IsGood image count (step image z (Invokevirtual k) s)
good_call image z count s k h =
    let w = method_there image z (place_of h.sound.unit s None) (Invokevirtual k) k (standing image z count s (Invokevirtual k) h) refl in
    let above : 0 < w.0.params = params_above image z (place_of h.sound.unit s None) (Invokevirtual k) k w.0 (standing image z count s (Invokevirtual k) h) refl w.1 in
    let needs : need_of image 0 (row_of (Invokevirtual k)).flow ≡ Some w.0.params = ap (option_map (λ (m : Method). m.params)) w.1.is in
    let room : w.0.params ≤ length s.running.operands = enough image z count s (Invokevirtual k) h w.0.params needs in
    subst (λ (o : Option Method). IsGood image count (called_at z s o)) (sym w.1.is) (by_params w.0 w.1 w.0.params refl above room)
  where
    by_room : (b : Bool) (to : State) → b ≡ true → IsSound image count to → IsGood image count (cond b (limited z s to) Stuck)
    by_room true to t sound = good_limited image count z s to sound
    by_room false to t sound = cc

    by_params : (m : Method) → IsCalled image (place_of h.sound.unit s None) k m → (p : ℕ) → m.params ≡ p → 0 < p → p ≤ length s.running.operands → IsGood image count (entered z s m p)
    by_params m is zero same above room = absurd (omega arith)
    by_params m is (suc n) same above room =
        let lt : n < length s.running.operands = omega arith in
        by_room (nat_lt n (length s.running.operands)) (in_method s m n) (lt-ltb n (length s.running.operands) lt) (sound_in image z count s k h m is n (omega arith) lt)

-- the outcome in a sound state is sound
pub good : (image : ImageView) (z count : ℕ) (s : State) (i : Instr) → Steps image z count s i → IsGood image count (step image z i s)
good image z count s Nop h = sound_on image z count s Nop h 0 (s.at + 1) s.running.operands refl (inl (refl, refl)) refl refl
good image z count s (Bipush b) h = good_push image z count s (Bipush b) h (word_of b) (s.at + 2) refl refl refl (inl (refl, refl))
good image z count s (LdcW k) h = good_constant image z count s k h
good image z count s (Iload k) h = good_load image z count s (Iload k) k (s.at + 2) h refl refl refl refl (inl (refl, refl))
good image z count s (Istore k) h = good_store image z count s (Istore k) k (s.at + 2) h refl refl refl (inl (refl, refl))
good image z count s Pop h = good_one image z count s Pop h (popped s) refl
    (λ y rest is. sound_on image z count s Pop h 1 (s.at + 1) rest refl (inl (refl, refl)) (omega (arith, ap length is)) refl)
good image z count s Dup h = good_one image z count s Dup h (doubled z s) refl (λ y rest is.
    good_limited image count z s (moved s (y ∷ s.running.operands) (s.at + 1))
    (sound_on image z count s Dup h 1 (s.at + 1) (y ∷ s.running.operands) refl (inl (refl, refl)) (omega arith) refl))
good image z count s Swap h = good_two image z count s Swap h (swapped s) refl
    (λ y x rest is. sound_on image z count s Swap h 2 (s.at + 1) (x ∷ y ∷ rest) refl (inl (refl, refl)) (omega (arith, ap length is)) refl)
good image z count s (Iinc k b) h = good_increase image z count s (Iinc k b) k b (s.at + 3) h refl refl refl refl (inl (refl, refl))
good image z count s (Ifeq o) h = good_branch image z count s (Ifeq o) _ o h refl refl refl (branch_ways s.at o)
good image z count s (Iflt o) h = good_branch image z count s (Iflt o) _ o h refl refl refl (branch_ways s.at o)
good image z count s (IfIcmpeq o) h = good_two image z count s (IfIcmpeq o) h (compared s o) refl
    (λ y x rest is. sound_on image z count s (IfIcmpeq o) h 2 (way s.at o (x == y)) rest refl (branch_ways s.at o (x == y)) (omega (arith, ap length is)) refl)
good image z count s (Goto o) h = sound_on image z count s (Goto o) h 0 (target s.at o) s.running.operands refl (inr (o, refl, refl)) refl refl
good image z count s Ireturn h = good_return image z count s h
good image z count s (Invokevirtual k) h = good_call image z count s k h
good image z count s (WideIload k) h = good_load image z count s (WideIload k) k (s.at + 4) h refl refl refl refl (inl (refl, refl))
good image z count s (WideIstore k) h = good_store image z count s (WideIstore k) k (s.at + 4) h refl refl refl (inl (refl, refl))
good image z count s (WideIinc k n) h = good_increase image z count s (WideIinc k n) k n (s.at + 6) h refl refl refl refl (inl (refl, refl))
good image z count s In h = good_in image z count s h
good image z count s Out h = good_one image z count s Out h (given_out s) refl (λ y rest is.
    same_sound image count (moved s rest (s.at + 1)) _ (record { running = refl; callers = refl; at = refl })
    (sound_on image z count s Out h 1 (s.at + 1) rest refl (inl (refl, refl)) (omega (arith, ap length is)) refl))
good image z count s Err h = tt
good image z count s Halt h = tt
good image z count s e h = good_combine image z count s e _ h refl refl refl (inl (refl, refl))

-- an instruction stands in a sound state's place
pub steps_there : (image : ImageView) (z count : ℕ) (s : State) → Accepts image z → IsMainCount image count → IsSound image count s → (i : Instr) × Steps image z count s i
steps_there image z count s accepts main sound =
    let w = code_there image z (place_of sound.unit s None) accepts sound.running.reached in
    (w.0, record { accepts = accepts; main = main; sound = sound; code = w.1.code })

good_outcome : (image : ImageView) (z count : ℕ) (s : State) → Accepts image z → IsMainCount image count → IsSound image count s → IsGood image count (step_outcome image z s)
good_outcome image z count s accepts main sound =
    let w = steps_there image z count s accepts main sound in
    subst (λ (o : Option Instr). IsGood image count (step_if_any image z s o)) (sym w.1.code) (good image z count s w.0 w.1)

sound_step : (image : ImageView) (z count : ℕ) → Accepts image z → IsMainCount image count → (s to : State) → IsSound image count s → step_outcome image z s ≡ Goes to → IsSound image count to
sound_step image z count accepts main s to sound goes = subst (λ (o : StepOutcome). IsGood image count o) goes (good_outcome image z count s accepts main sound)

sound_start : (image : ImageView) (count : ℕ) (input : List ℕ) → IsSound image count (start_of count input)
sound_start image count input = record {
  unit = None;
  running = record {
    reached = Start;
    carried = λ k above unset. absurd (zeros count k unset);
    frame = (refl, length-replicate {A = Option ℕ} count (Some 0), zeros count);
  };
  callers = tt;
}
  where
    zeros : (n k : ℕ) → slice_get (replicate {A = Option ℕ} n (Some 0)) k ≢ Some None
    zeros zero k is = cc
    zeros (suc n) zero is = cc
    zeros (suc n) (suc k) is = zeros n k is

-- each state that a run comes to is sound
sound_at : (image : ImageView) (z count : ℕ) → Accepts image z → IsMainCount image count → (s to : State) → IsSound image count s → ComesTo image z s to → IsSound image count to
sound_at image z count accepts main s to sound (Here t same) = same_sound image count s t same sound
sound_at image z count accepts main s to sound (Onward t u v comes goes same) =
    same_sound image count u v same (sound_step image z count accepts main t u (sound_at image z count accepts main s t sound comes) goes)

sound_after : (image : ImageView) (z count : ℕ) → Accepts image z → IsMainCount image count → (k : ℕ) (s to : State) → IsSound image count s → state_after image z k s ≡ Some to → IsSound image count to
sound_after image z count accepts main zero s to sound is = let same : s ≡ to = cc in subst (λ (t : State). IsSound image count t) same sound
sound_after image z count accepts main (suc k) s to sound is =
    by_outcome (λ t. sound_after image z count accepts main k t to) (step_outcome image z s) (good_outcome image z count s accepts main sound) is
  where
    by_outcome : ((t : State) → IsSound image count t → state_after image z k t ≡ Some to → IsSound image count to) →
        (o : StepOutcome) → IsGood image count o → after (state_after image z k) o ≡ Some to → IsSound image count to
    by_outcome later (Goes t) g e = later t g e
    by_outcome later _ g e = cc

-- the runs of an accepted image
pub keeps_sound : (image : ImageView) (z count : ℕ) → Accepts image z → IsMainCount image count → KeepsSound image z count
keeps_sound image z count accepts main = record {
  start = λ input. sound_start image count input;
  steps = λ s to sound goes. sound_step image z count accepts main s to sound goes;
  finds = λ s sound. let w = steps_there image z count s accepts main sound in (w.0, finds image z count s w.0 w.1);
  comes_to = λ input to comes. sound_at image z count accepts main (start_of count input) to (sound_start image count input) comes;
  after = λ input k to is. sound_after image z count accepts main k (start_of count input) to (sound_start image count input) is;
  safe = λ to comes stuck. not_stuck to (sound_at image z count accepts main (start_of count []) to (sound_start image count []) comes) stuck;
}
  where
    not_stuck : (s : State) → IsSound image count s → step_outcome image z s ≢ Stuck
    not_stuck s sound stuck = subst (λ (o : StepOutcome). IsGood image count o) stuck (good_outcome image z count s accepts main sound)
