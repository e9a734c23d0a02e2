-- What each instruction accesses, and what it leaves in the registers and the world, on any machine: a machine that has left these
-- stands for the state after the instruction.
use Rattle.std.proofs.Common.{◌≡◌, ◌≢◌, ℕ, suc, ◌+◌, ◌-◌, ◌%◌, ◌<◌, ◌≤◌, ◌==◌, Bool, true, false, None, Some, List}
use Rattle.std.proofs.Common.{[], ◌∷◌, ◌++◌, length, drop, refl, arith, sym, ◌∙◌, ap, ap₂, subst, append_assoc, All, length-set}
use Rattle.std.specs.Prelude.{slice_set, slice_get, ℤ}
use Rattle.ijvm_simulation.specs.Common.{set_comm, All-get_or, slice_get_within, plus, minus, next, before, World, StackLimit, next_byte, read_value}
use Rattle.ijvm_simulation.specs.Common.{untaken_after, after_read, after_write, read_refusal, write_refusal, Frame, State, IsWord, frames_of, operands_at}
use Rattle.ijvm_simulation.specs.Common.{base, tests, are_equal, moved, is_own, with_local, way, taken, VerifiedView}
use Rattle.ijvm_simulation.specs.Stands.{Origin, RegistersStand, FramesStand, IsTop}
use Rattle.ijvm_simulation.specs.Verified.{Loads, Fine}
use Rattle.ijvm_simulation.specs.Outcomes.{WithTop, WithTwo, WithLocal, Stores, Fits, Overflows, push}
use Rattle.ijvm_simulation.specs.Words.{next_is, plus_is, plus_comm, difference_zero}
use Rattle.ijvm_simulation.specs.Accesses.{IsMapEnd, IsWordAccess, IsConsoleAccess, console_address, console, access, port, limit}
use Rattle.ijvm_simulation.specs.Methods.{IsConstant}
use Rattle.ijvm_simulation.specs.Methods as methods
use Rattle.ijvm_simulation.specs.Images.{jump, Lands, running}
use Rattle.ijvm_simulation.specs.Images as images
use Rattle.ijvm_simulation.specs.Writes.{memory_set}
use Rattle.ijvm_simulation.specs.Writes as writes
use Rattle.ijvm_simulation.specs.Stack.{place_after, frame_with, above, frames_at, memory_at, next_top_is, Top, Two, pushes, drops}
use Rattle.ijvm_simulation.specs.Stack as stack

module _ {v : VerifiedView} {o : Origin} {s : State} {sp lv cpp tos : ℕ} {w : World} (loads : Loads v o)
    (h : RegistersStand o s sp lv cpp tos w) where
  abbrev map : IsMapEnd (length o.words)
  map = images.map v o loads

  abbrev top : ℕ
  top = length o.words

  abbrev read : ℕ → ℕ
  read a = read_value top w.words w.untaken a

  -- NOP and GOTO
  pub stays : (at : ℕ) → RegistersStand o (moved s s.running.operands at) sp lv cpp tos w
  stays at = drops loads h h.frames h.fits h.sp_is h.tos_is refl h.untaken h.given

  -- A word is pushed that the machine has at x, where u is untaken.
  pub record Pushed (x : ℕ) (u : List ℕ) (to : State) : Type 0 where
    pub room : IsWordAccess top w (next sp) (base (frames_of s))
    pub high : 0x8000 ≤ next sp
    pub leaves : RegistersStand o to (next sp) lv cpp x (after_write top (record w { untaken = u }) (next sp) x)

  pushed : {x y at : ℕ} {u left : List ℕ} {to : State} → Fits v.map.stack_end (record (push s y at) { untaken = left }) to → x ≡ y → u ≡ left →
      Pushed x u (record (push s y at) { untaken = left })
  pushed {x} went is same =
      let space : base (frames_of s) < top = omega (arith, went.fits, loads.long) in
      let r : IsWordAccess top w (next sp) (base (frames_of s)) =
      access top w (next sp) (base (frames_of s)) (next_is sp (base (frames_of s)) h.sp_is (omega (arith, map.high))) space in
      record {
        room = r;
        high = omega (arith, above s.callers, r.is);
        leaves = pushes loads h h.frames space r.is is (ap₂ (slice_set w.words) r.is is) same (r.given w.given x);
      }

  pub bipush : {x y at : ℕ} {to : State} → Fits v.map.stack_end (push s y at) to → x ≡ y → Pushed x w.untaken (push s y at)
  bipush went is = pushed went is h.untaken

  pub dup : {at : ℕ} {to : State} → (went : WithTop s.running.operands (λ y rest. Fits v.map.stack_end (push s y at) to)) → Pushed tos w.untaken
      (push s went.top at)
  dup went = bipush went.leads (stack.top loads h went.are).tos_is

  -- The stack has no room for one word more, where u is untaken.
  pub record Full (u : List ℕ) (left : State) : Type 0 where
    pub refused : write_refusal top (next sp) ≡ Some (StackLimit (next sp))
    pub untaken : u ≡ left.untaken
    pub given : w.given ≡ o.given ++ left.given

  full : {y at : ℕ} {u left : List ℕ} {to : State} → Overflows v.map.stack_end (record (push s y at) { untaken = left }) (record s { untaken = left }) to →
      u ≡ left → Full u to
  full over same =
      let there : next sp ≡ base (frames_of s) = next_is sp (base (frames_of s)) h.sp_is (omega (arith, h.fits, map.high)) in
      record {
        refused = limit top (next sp) (omega (arith, over.over, loads.long)) (omega (arith, h.fits, map.high));
        untaken = same ∙ ap (λ (t : State). t.untaken) over.leaves;
        given = h.given ∙ ap (λ (t : State). o.given ++ t.given) over.leaves;
      }

  pub push_full : {y at : ℕ} {left : State} → Overflows v.map.stack_end (push s y at) s left → Full w.untaken left
  push_full over = full over h.untaken

  -- A word y is read at a, and these bytes are left of the input.
  pub record From (a y : ℕ) (left : List ℕ) : Type 0 where
    pub from : read_refusal top a ≡ None
    pub value : read a ≡ y
    pub untaken : untaken_after top w.untaken a ≡ left

  -- a local of the running frame
  local : {a : ℕ} (k : ℕ) → k < length s.running.locals → a ≡ plus lv k → IsWordAccess top w a (base s.callers + k)
  local {a} k l is =
      access top w a (base s.callers + k) (is ∙ plus_is h.lv_is refl refl (omega (arith, h.fits, map.high))) (omega (arith, h.fits))

  pub local_from : {a y : ℕ} (k : ℕ) → slice_get s.running.locals k ≡ Some (Some y) → a ≡ plus lv k → From a y s.untaken
  local_from {y = y} k set is =
      let r = local k (slice_get_within s.running.locals k (Some y) set) is in
      record { from = r.read; value = r.value ∙ h.frames.0.locals k y set; untaken = r.untaken ∙ h.untaken }

  pub constant_from : {a y : ℕ} (k : ℕ) → slice_get v.image.pool k ≡ Some y → a ≡ plus cpp k → From a y s.untaken
  constant_from {a} {y} k found is =
      let c : IsConstant o k y = methods.constant v o loads k y found in
      let r : IsWordAccess top w a (0x4000 + k) =
      access top w a (0x4000 + k) (is ∙ plus_is h.cpp_is refl refl (omega (arith, c.small))) (omega (arith, c.small, map.low)) in
      record {
        from = r.read;
        value = r.value ∙ (h.memory.kept (0x4000 + k) (omega (arith, c.small)) ∙ c.there);
        untaken = r.untaken ∙ h.untaken;
      }

  pub taken_from : From console_address (next_byte s.untaken) (drop 1 s.untaken)
  taken_from =
      let p : IsConsoleAccess top w = port top w map h.memory.long in
      record { from = p.read; value = p.value ∙ ap next_byte h.untaken; untaken = p.untaken ∙ ap (drop 1) h.untaken }

  -- ILOAD, LDC_W and IN: what is read is pushed, or the stack has no room for it.
  pub record PushedFrom (a : ℕ) (to : State) : Type 0 where
    pub from : read_refusal top a ≡ None
    pub push : Pushed (read a) (untaken_after top w.untaken a) to

  pub pushed_from : {a y at : ℕ} {left : List ℕ} {to : State} → From a y left → Fits v.map.stack_end (record (push s y at) { untaken = left }) to →
      PushedFrom a (record (push s y at) { untaken = left })
  pushed_from f went = record { from = f.from; push = pushed went f.value f.untaken }

  pub record FullFrom (a : ℕ) (left : State) : Type 0 where
    pub from : read_refusal top a ≡ None
    pub full : Full (untaken_after top w.untaken a) left

  pub full_from : {a y at : ℕ} {left : List ℕ} {to : State} → From a y left →
      Overflows v.map.stack_end (record (push s y at) { untaken = left }) (record s { untaken = left }) to → FullFrom a to
  full_from f over = record { from = f.from; full = full over f.untaken }

  -- POP, IFEQ and IFLT: the last operand is taken off.
  pub record Popped (rest : List ℕ) : Type 0 where
    pub down : read_refusal top (before sp) ≡ None
    pub leaves : (at : ℕ) → RegistersStand o (moved s rest at) (before sp) lv cpp (read (before sp)) (after_read top w (before sp))

  pub popped : {y : ℕ} {rest : List ℕ} → s.running.operands ≡ y ∷ rest → Popped rest
  popped are =
      let t = stack.top loads h are in
      record {
        down = t.down.read;
        leaves = λ at. drops loads h t.frames (omega (arith, t.below)) (omega (arith, t.down.is, t.above)) t.next_top refl (t.down.untaken ∙ h.untaken) h.given;
      }

  -- IF_ICMPEQ: the last two are.
  pub record PoppedTwo (rest : List ℕ) : Type 0 where
    pub down : read_refusal top (before sp) ≡ None
    pub below : read_refusal top (before (before sp)) ≡ None
    pub leaves : (at : ℕ) → RegistersStand o (moved s rest at) (before (before sp)) lv cpp
        (read_value top w.words (untaken_after top w.untaken (before sp)) (before (before sp)))
        (after_read top (after_read top w (before sp)) (before (before sp)))

  pub popped_two : {y x : ℕ} {rest : List ℕ} → s.running.operands ≡ y ∷ x ∷ rest → PoppedTwo rest
  popped_two {rest = rest} are =
      let t = stack.two loads h are in
      let bottom : 0x8000 ≤ base s.callers = above s.callers in
      let a : ℕ = before (before sp) in
      record {
        down = t.at.read;
        below = t.down.read;
        leaves = λ at. drops loads h t.frames (omega (arith, t.at.below)) (omega (arith, t.down.is))
            (subst (λ (n : ℕ). IsTop n rest) (sym (ap (λ (u : List ℕ). read_value top w.words u a) t.at.untaken)) t.next_top)
            refl (ap (λ (u : List ℕ). untaken_after top u a) t.at.untaken ∙ (t.down.untaken ∙ h.untaken)) h.given;
      }

  -- A branch by a test of the machine, where the definition's is: the state that it leads to, and the test that its cycles are counted by.
  pub record Branches (test tested : Bool) (rest : List ℕ) (to : State) : Type 0 where
    pub taken : test ≡ true → (moved s rest (jump o.words s.at) ≡ to) × (tested ≡ true)
    pub falls : test ≡ false → (moved s rest (s.at + 3) ≡ to) × (tested ≡ false)

  branches : {test is tested : Bool} {z : ℤ} {rest : List ℕ} {to : State} → Lands o s z → test ≡ is → tested ≡ is →
      moved s rest (way s.at z is) ≡ to → Branches test tested rest to
  branches {z = z} {rest} j same counted goes =
      record {
        taken = λ e. (ap (moved s rest) (j.is ∙ ap (way s.at z) (sym e ∙ same)) ∙ goes, counted ∙ (sym same ∙ e));
        falls = λ e. (ap (moved s rest) (ap (way s.at z) (sym e ∙ same)) ∙ goes, counted ∙ (sym same ∙ e));
      }

  pub branches_by : (test : ℕ → Bool) {z : ℤ} {to : State} → Lands o s z →
      (went : WithTop s.running.operands (λ y rest. moved s rest (way s.at z (test y)) ≡ to)) →
      Branches (test tos) (tests test s.running.operands) went.rest to
  branches_by test j went = branches j (ap test (stack.top loads h went.are).tos_is) (ap (tests test) went.are) went.leads

  pub branches_equal : {z : ℤ} {to : State} → Fine v s → Lands o s z →
      (went : WithTwo s.running.operands (λ y x rest. moved s rest (way s.at z (x == y)) ≡ to)) →
      Branches (minus tos (read (before sp)) == 0) (are_equal s.running.operands) went.rest to
  branches_equal fine j went =
      let t = stack.two loads h went.are in
      let words : All IsWord (went.top ∷ went.second ∷ went.rest) = subst (All IsWord) went.are (running v s fine).operands in
      let ly : IsWord went.top = All-get_or IsWord (went.top ∷ went.second ∷ went.rest) 0 went.top (omega arith) words in
      let lx : IsWord went.second = All-get_or IsWord (went.top ∷ went.second ∷ went.rest) 1 went.second (omega arith) words in
      branches j (ap₂ (λ (i : ℕ) (k : ℕ). minus i k == 0) t.tos_is t.second ∙ difference_zero went.top went.second ly lx) (ap are_equal went.are) went.leads

  -- Two operands become the word that the machine has at x.
  pub record Operated (x : ℕ) (to : State) : Type 0 where
    pub down : read_refusal top (before sp) ≡ None
    pub write : write_refusal top (before sp) ≡ None
    pub high : 0x8000 ≤ before sp
    pub leaves : RegistersStand o to (before sp) lv cpp x (after_write top (after_read top w (before sp)) (before sp) x)

  operates : (f : ℕ → ℕ → ℕ) (x : ℕ) {at : ℕ} {to : State} → (went : WithTwo s.running.operands (λ y x rest. moved s (f x y ∷ rest) at ≡ to)) →
      x ≡ f (read (before sp)) tos → Operated x (moved s (f went.second went.top ∷ went.rest) at)
  operates f x went is =
      let t = stack.two loads h went.are in
      let e : x ≡ f went.second went.top = is ∙ ap₂ f t.second t.tos_is in
      record {
        down = t.at.read;
        write = t.at.write;
        high = omega (arith, above s.callers, t.at.is);
        leaves = pushes loads h t.frames t.at.below t.at.is e (ap₂ (slice_set w.words) t.at.is e) (t.at.untaken ∙ h.untaken) (t.at.given w.given x);
      }

  -- IADD, ISUB, IAND and IOR
  pub operated : (f : ℕ → ℕ → ℕ) {at : ℕ} {to : State} → (went : WithTwo s.running.operands (λ y x rest. moved s (f x y ∷ rest) at ≡ to)) →
      Operated (f (read (before sp)) tos) (moved s (f went.second went.top ∷ went.rest) at)
  operated f went = operates f (f (read (before sp)) tos) went refl

  -- by a machine that has the operands the other way round
  pub operated_turned : (f : ℕ → ℕ → ℕ) {at : ℕ} {to : State} → ((i j : ℕ) → f i j ≡ f j i) →
      (went : WithTwo s.running.operands (λ y x rest. moved s (f x y ∷ rest) at ≡ to)) → Operated (f tos (read (before sp)))
      (moved s (f went.second went.top ∷ went.rest) at)
  operated_turned f turns went = operates f (f tos (read (before sp))) went (turns tos (read (before sp)))

  pub record Swapped (to : State) : Type 0 where
    pub down : read_refusal top (before sp) ≡ None
    pub first : write_refusal top sp ≡ None
    pub second : write_refusal top (before sp) ≡ None
    pub high : 0x8000 ≤ sp
    pub high' : 0x8000 ≤ before sp
    pub leaves : RegistersStand o to sp lv cpp (read (before sp))
        (after_write top (after_write top (after_read top w (before sp)) sp (read (before sp))) (before sp) tos)

  pub swapped : {at : ℕ} {to : State} → (went : WithTwo s.running.operands (λ y x rest. moved s (x ∷ y ∷ rest) at ≡ to)) → Swapped
      (moved s (went.second ∷ went.top ∷ went.rest) at)
  swapped went =
      let y : ℕ = went.top in
      let x : ℕ = went.second in
      let rest : List ℕ = went.rest in
      let t : Two o s sp lv cpp tos w y x rest = stack.two loads h went.are in
      let bottom : 0x8000 ≤ base s.callers = above s.callers in
      let len : length s.running.operands ≡ suc (suc (length rest)) = ap length went.are in
      let a : ℕ = place_after s rest in
      let last : IsWordAccess top w sp (a + 1) = access top w sp (a + 1) t.sp_is (omega (arith, h.fits)) in
      let apart : a + 1 ≢ a = omega arith in
      let words : slice_set (slice_set w.words sp (read (before sp))) (before sp) tos ≡ slice_set (slice_set w.words a y) (a + 1) x =
      (λ j. slice_set (slice_set w.words (last.is j) (t.second j)) (t.at.is j) (t.tos_is j)) ∙ set_comm w.words (a + 1) a x y apart in
      let lower : FramesStand (slice_set w.words a y) (frame_with s (y ∷ rest) ∷ s.callers) =
      writes.pushed w.words a y (frame_with s rest) s.callers refl (omega (arith, t.at.below, h.memory.long)) t.frames in
      record {
        down = t.at.read;
        first = last.write;
        second = t.at.write;
        high = omega (arith, t.sp_is);
        high' = omega (arith, t.at.is);
        leaves = record {
          sp_is = omega (arith, t.sp_is);
          lv_is = h.lv_is;
          cpp_is = h.cpp_is;
          tos_is = t.second;
          frames = frames_at (frame_with s (x ∷ y ∷ rest)) s.callers (sym words)
              (writes.pushed (slice_set w.words a y) (a + 1) x (frame_with s (y ∷ rest)) s.callers (omega arith)
              (omega (arith, length-set w.words a y, h.memory.long, last.below)) lower);
          memory = memory_at (sym words) (memory_set o.words (slice_set w.words a y) (a + 1) x (omega arith)
              (memory_set o.words w.words a y (omega arith) h.memory));
          fits = omega (arith, last.below);
          untaken = t.at.untaken ∙ h.untaken;
          given = t.at.given _ _ ∙ (last.given _ _ ∙ h.given);
        };
      }

  -- ISTORE: the last operand is stored at a.
  pub record Stored (a : ℕ) (to : State) : Type 0 where
    pub write : write_refusal top a ≡ None
    pub high : 0x8000 ≤ a
    pub down : read_refusal top (before sp) ≡ None
    pub leaves : RegistersStand o to (before sp) lv cpp (read_value top (slice_set w.words a tos) w.untaken (before sp))
        (after_read top (after_write top w a tos) (before sp))

  pub stored : {a k at : ℕ} {to : State} → (went : WithTop s.running.operands (λ y rest. Stores s k y rest at to)) → a ≡ plus lv k → Stored a
      (with_local s k went.top went.rest at)
  stored {a} {k} went is =
      let y : ℕ = went.top in
      let rest : List ℕ = went.rest in
      let t : Top o s sp lv cpp tos w y rest = stack.top loads h went.are in
      let r : IsWordAccess top w a (base s.callers + k) = local k went.leads.inside is in
      let bottom : 0x8000 ≤ base s.callers = above s.callers in
      let words : slice_set w.words a tos ≡ slice_set w.words (base s.callers + k) y = ap₂ (slice_set w.words) r.is t.tos_is in
      let f : Frame = record s.running { locals = slice_set s.running.locals k (Some y); operands = rest } in
      let len : length f.locals ≡ length s.running.locals = length-set s.running.locals k (Some y) in
      let frames : FramesStand (slice_set w.words a tos) (f ∷ s.callers) =
      frames_at f s.callers (sym words) (writes.stored w.words k y (frame_with s rest) s.callers went.leads.inside went.leads.own
      (omega (arith, r.below, h.memory.long)) t.frames) in
      let down : IsWordAccess top (record w { words = slice_set w.words a tos }) (before sp) (place_after s rest - 1) =
      access top (record w { words = slice_set w.words a tos }) (before sp) (place_after s rest - 1) t.down.is t.down.below in
      record {
        write = r.write;
        high = omega (arith, r.is);
        down = t.down.read;
        leaves = record {
          sp_is = omega (arith, t.down.is, t.above);
          lv_is = h.lv_is;
          cpp_is = h.cpp_is;
          tos_is = next_top_is (slice_set w.words a tos) (operands_at (base s.callers) f) (place_after s rest - 1) _ rest (omega (arith, t.above)) down.value
              frames.0.operands;
          frames = frames;
          memory = memory_at (sym words) (memory_set o.words w.words (base s.callers + k) y (omega arith) h.memory);
          fits = omega (arith, t.below);
          untaken = t.down.untaken ∙ h.untaken;
          given = r.given _ _ ∙ h.given;
        };
      }

  -- IINC: the local at a becomes the word that the machine has at x.
  pub record Changed (a x : ℕ) (to : State) : Type 0 where
    pub from : read_refusal top a ≡ None
    pub write : write_refusal top a ≡ None
    pub high : 0x8000 ≤ a
    pub leaves : RegistersStand o to sp lv cpp tos (after_write top (after_read top w a) a x)

  changes : {a k at : ℕ} {to : State} (x z : ℕ) → is_own s.running.back k ≡ true →
      (went : WithLocal s.running.locals k (λ y. with_local s k (plus y z) s.running.operands at ≡ to)) → a ≡ plus lv k → x ≡ plus (read a) z →
      Changed a x (with_local s k (plus went.value z) s.running.operands at)
  changes {a} {k} x z own went is sum =
      let l : k < length s.running.locals = slice_get_within s.running.locals k (Some went.value) went.set in
      let r : IsWordAccess top w a (base s.callers + k) = local k l is in
      let bottom : 0x8000 ≤ base s.callers = above s.callers in
      let y : ℕ = plus went.value z in
      let words : slice_set w.words a x ≡ slice_set w.words (base s.callers + k) y =
      ap₂ (slice_set w.words) r.is (sum ∙ ap (λ (i : ℕ). plus i z) (r.value ∙ h.frames.0.locals k went.value went.set)) in
      let f : Frame = record s.running { locals = slice_set s.running.locals k (Some y) } in
      let len : length f.locals ≡ length s.running.locals = length-set s.running.locals k (Some y) in
      record {
        from = r.read;
        write = r.write;
        high = omega (arith, r.is);
        leaves = record {
          sp_is = omega (arith, h.sp_is);
          lv_is = h.lv_is;
          cpp_is = h.cpp_is;
          tos_is = h.tos_is;
          frames = frames_at f s.callers (sym words) (writes.stored w.words k y s.running s.callers l own (omega (arith, r.below, h.memory.long)) h.frames);
          memory = memory_at (sym words) (memory_set o.words w.words (base s.callers + k) y (omega arith) h.memory);
          fits = omega (arith, h.fits);
          untaken = r.untaken ∙ h.untaken;
          given = r.given _ _ ∙ h.given;
        };
      }

  pub changed : {a b k at : ℕ} {to : State} (z : ℕ) → is_own s.running.back k ≡ true →
      (went : WithLocal s.running.locals k (λ y. with_local s k (plus y z) s.running.operands at ≡ to)) → a ≡ plus lv k → b ≡ z →
      Changed a (plus (read a) b) (with_local s k (plus went.value z) s.running.operands at)
  changed {a} {b} z own went is by = changes (plus (read a) b) z own went is (ap (plus (read a)) by)

  -- by a machine that has the sum the other way round
  pub changed_turned : {a b k at : ℕ} {to : State} (z : ℕ) → is_own s.running.back k ≡ true →
      (went : WithLocal s.running.locals k (λ y. with_local s k (plus y z) s.running.operands at ≡ to)) → a ≡ plus lv k → b ≡ z →
      Changed a (plus b (read a)) (with_local s k (plus went.value z) s.running.operands at)
  changed_turned {a} {b} z own went is by = changes (plus b (read a)) z own went is (plus_comm b (read a) ∙ ap (plus (read a)) by)

  -- OUT: the last operand is given.
  pub record Given (to : State) : Type 0 where
    pub write : write_refusal top console_address ≡ None
    pub far : 0x8000 ≤ console_address
    pub down : read_refusal top (before sp) ≡ None
    pub leaves : RegistersStand o to (before sp) lv cpp (read_value top (slice_set w.words console_address tos) w.untaken (before sp))
        (after_read top (after_write top w console_address tos) (before sp))

  pub gives : {at : ℕ} {to : State} → (went : WithTop s.running.operands
      (λ y rest. record (moved s rest at) { given = s.given ++ (y % 256) ∷ [] } ≡ to)) →
      Given (record (moved s went.rest at) { given = s.given ++ (went.top % 256) ∷ [] })
  gives went =
      let t = stack.top loads h went.are in
      let p : IsConsoleAccess top w = port top w map h.memory.long in
      let same : slice_set w.words console_address tos ≡ w.words = p.words tos in
      record {
        write = p.write;
        far = console;
        down = t.down.read;
        leaves = drops loads h t.frames (omega (arith, t.below)) (omega (arith, t.down.is, t.above))
            (subst (λ (n : ℕ). IsTop n went.rest) (sym (ap (λ (ws : List ℕ). read_value top ws w.untaken (before sp)) same)) t.next_top)
            same (t.down.untaken ∙ h.untaken)
            (p.given tos ∙ (ap₂ (λ (g : List ℕ) (n : ℕ). g ++ n % 256 ∷ []) h.given t.tos_is ∙ append_assoc o.given s.given (went.top % 256 ∷ [])));
      }
