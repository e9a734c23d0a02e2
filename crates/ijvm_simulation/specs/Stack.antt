-- What a machine at a boundary knows of its stack, and what it stands for after a push, and after operands are taken off.
use Rattle.std.proofs.Common.{◌≡◌, ℕ, suc, ◌+◌, ◌-◌, ◌<◌, ◌≤◌, List, [], ◌∷◌, ◌++◌, length, refl, arith, ◌∙◌, ap, sym, subst}
use Rattle.std.specs.Prelude.{slice_index, slice_set}
use Rattle.ijvm_simulation.specs.Common.{before, World, read_value, Frame, State, frames_of, operands_at, base, moved, VerifiedView}
use Rattle.ijvm_simulation.specs.Stands.{Origin, RegistersStand, FramesStand, OperandsAt, IsTop, IsMemory}
use Rattle.ijvm_simulation.specs.Verified.{Loads}
use Rattle.ijvm_simulation.specs.Words.{before_is}
use Rattle.ijvm_simulation.specs.Accesses.{IsMapEnd, IsWordAccess, access}
use Rattle.ijvm_simulation.specs.Images as images
use Rattle.ijvm_simulation.specs.Writes.{memory_set, pushed}

-- the running frame with other operands
abbrev pub frame_with : State → List ℕ → Frame
frame_with s xs = record s.running { operands = xs }

-- the place after the operands, where these are xs
abbrev pub place_after : State → List ℕ → ℕ
place_after s xs = base (frame_with s xs ∷ s.callers)

-- the frames stand above the text and the pool
pub above : (fs : List Frame) → 0x8000 ≤ base fs
above [] = omega arith
above (f ∷ fs) = let l : 0x8000 ≤ base fs = above fs in omega arith

pub frames_at : (f : Frame) (fs : List Frame) {words other : List ℕ} → words ≡ other → FramesStand words (f ∷ fs) → FramesStand other (f ∷ fs)
frames_at f fs e h = subst (λ (ws : List ℕ). FramesStand ws (f ∷ fs)) e h

pub memory_at : {origin words other : List ℕ} → words ≡ other → IsMemory origin words → IsMemory origin other
memory_at {origin} e h = subst (λ (ws : List ℕ). IsMemory origin ws) e h

-- the word at the last of these operands is TOS
pub next_top_is : (words : List ℕ) (at a v : ℕ) (rest : List ℕ) → a + 1 ≡ at + length rest → v ≡ slice_index words a → OperandsAt words at rest → IsTop v rest
next_top_is words at a v [] e is h = tt
next_top_is words at a v (x ∷ xs) e is h = let same : a ≡ at + length xs = omega arith in is ∙ (ap (slice_index words) same ∙ h.0)

-- A machine that stands for the state s by its registers and its world.
module _ (o : Origin) (s : State) (sp lv cpp tos : ℕ) (w : World) where
  -- a last operand y over rest
  pub record Top (y : ℕ) (rest : List ℕ) : Type 0 where
    pub tos_is : tos ≡ y
    pub sp_is : sp ≡ place_after s rest
    pub below : place_after s rest < length o.words
    pub above : 0x8000 ≤ place_after s rest
    pub down : IsWordAccess (length o.words) w (before sp) (place_after s rest - 1)
    pub next_top : IsTop (read_value (length o.words) w.words w.untaken (before sp)) rest
    pub frames : FramesStand w.words (frame_with s rest ∷ s.callers)

  -- two last operands, y and x over rest
  pub record Two (y x : ℕ) (rest : List ℕ) : Type 0 where
    pub tos_is : tos ≡ y
    pub sp_is : sp ≡ place_after s rest + 1
    pub at : IsWordAccess (length o.words) w (before sp) (place_after s rest)
    pub second : read_value (length o.words) w.words w.untaken (before sp) ≡ x
    pub down : IsWordAccess (length o.words) w (before (before sp)) (place_after s rest - 1)
    pub next_top : IsTop (read_value (length o.words) w.words w.untaken (before (before sp))) rest
    pub frames : FramesStand w.words (frame_with s rest ∷ s.callers)

module _ {v : VerifiedView} {o : Origin} {s : State} {sp lv cpp tos : ℕ} {w : World} (loads : Loads v o) (h : RegistersStand o s sp lv cpp tos w) where
  abbrev map : IsMapEnd (length o.words)
  map = images.map v o loads

  pub top : {y : ℕ} {rest : List ℕ} → s.running.operands ≡ y ∷ rest → Top o s sp lv cpp tos w y rest
  top {y} {rest} has =
      let len : length s.running.operands ≡ suc (length rest) = ap length has in
      let bottom : 0x8000 ≤ base s.callers = above s.callers in
      let ops = rw has at h.frames.0.operands in
      let sp_at : sp ≡ place_after s rest = omega (arith, h.sp_is) in
      let fits : base (frames_of s) ≤ length o.words = h.fits in
      let below : place_after s rest < length o.words = omega arith in
      let high : length o.words < 0x80000000 = map.high in
      let down : IsWordAccess (length o.words) w (before sp) (place_after s rest - 1) =
      access (length o.words) w (before sp) (place_after s rest - 1) (before_is sp (place_after s rest - 1) (omega arith) (omega arith)) (omega arith) in
      record {
        tos_is = rw has at h.tos_is;
        sp_is = sp_at;
        below = below;
        above = omega arith;
        down = down;
        next_top = next_top_is w.words (operands_at (base s.callers) s.running) (place_after s rest - 1) _ rest (omega arith) down.value ops.1;
        frames = (record { locals = h.frames.0.locals; operands = ops.1; linked = h.frames.0.linked }, h.frames.1);
      }

  pub two : {y x : ℕ} {rest : List ℕ} → s.running.operands ≡ y ∷ x ∷ rest → Two o s sp lv cpp tos w y x rest
  two {y} {x} {rest} has =
      let t : Top o s sp lv cpp tos w y (x ∷ rest) = top has in
      let bottom : 0x8000 ≤ base s.callers = above s.callers in
      let high : length o.words < 0x80000000 = map.high in
      let same : place_after s (x ∷ rest) - 1 ≡ place_after s rest = omega arith in
      let at : IsWordAccess (length o.words) w (before sp) (place_after s rest) =
      access (length o.words) w (before sp) (place_after s rest) (t.down.is ∙ same) (omega (arith, t.below)) in
      let down : IsWordAccess (length o.words) w (before (before sp)) (place_after s rest - 1) =
      access (length o.words) w (before (before sp)) (place_after s rest - 1)
      (before_is (before sp) (place_after s rest - 1) (omega (arith, at.is)) (omega (arith, at.is, at.below))) (omega (arith, at.below)) in
      let ops = t.frames.0.operands.1 in
      record {
        tos_is = t.tos_is;
        sp_is = omega (arith, t.sp_is);
        at = at;
        second = t.next_top;
        down = down;
        next_top = next_top_is w.words (operands_at (base s.callers) s.running) (place_after s rest - 1) _ rest (omega arith) down.value ops;
        frames = (record { locals = t.frames.0.locals; operands = ops; linked = t.frames.0.linked }, t.frames.1);
      }

  -- after a push of y over the operands xs
  pub pushes : {xs : List ℕ} {y to sp' tos' : ℕ} {w' : World} {left : List ℕ} → FramesStand w.words (frame_with s xs ∷ s.callers) →
      place_after s xs < length o.words → sp' ≡ place_after s xs → tos' ≡ y → w'.words ≡ slice_set w.words (place_after s xs) y →
      w'.untaken ≡ left → w'.given ≡ w.given → RegistersStand o (record (moved s (y ∷ xs) to) { untaken = left }) sp' lv cpp tos' w'
  pushes {xs} {y} frames below sps toss words untaken given =
      let bottom : 0x8000 ≤ base s.callers = above s.callers in
      let a : ℕ = place_after s xs in
      record {
        sp_is = omega arith;
        lv_is = h.lv_is;
        cpp_is = h.cpp_is;
        tos_is = toss;
        frames = frames_at (frame_with s (y ∷ xs)) s.callers (sym words)
            (pushed w.words a y (frame_with s xs) s.callers refl (omega (arith, h.memory.long)) frames);
        memory = memory_at (sym words) (memory_set o.words w.words a y (omega arith) h.memory);
        fits = omega arith;
        untaken = untaken;
        given = given ∙ h.given;
      }

  -- after the operands have become xs, with no write to memory
  pub drops : {xs : List ℕ} {to sp' tos' : ℕ} {w' : World} {more : List ℕ} → FramesStand w.words (frame_with s xs ∷ s.callers) →
      place_after s xs ≤ length o.words → sp' + 1 ≡ place_after s xs → IsTop tos' xs → w'.words ≡ w.words → w'.untaken ≡ s.untaken →
      w'.given ≡ o.given ++ more → RegistersStand o (record (moved s xs to) { given = more }) sp' lv cpp tos' w'
  drops {xs} frames fits sps toss words untaken given =
      record {
        sp_is = sps;
        lv_is = h.lv_is;
        cpp_is = h.cpp_is;
        tos_is = toss;
        frames = frames_at (frame_with s xs) s.callers (sym words) frames;
        memory = memory_at (sym words) h.memory;
        fits = fits;
        untaken = untaken;
        given = given;
      }
