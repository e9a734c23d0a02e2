-- Steps keep words: what is pushed, stored, added and returned is a word.
use Rattle.std.proofs.Common.{◌≡◌, ◌<◌, ◌≤◌, ◌^◌, ℕ, zero, suc, ◌+◌, ◌-◌, ◌==◌, ℤ, pos, negsuc, FitsSigned, Bool, true, false, nat_lt, nat_le, if◌then◌else◌, List, [], ◌∷◌, All, length, take, drop, replicate, Option, Some, None, IfSome, refl, sym, subst, arith}
use Rattle.std.specs.Prelude.{slice_get, bit_and, bit_or}
use Rattle.std.specs.Int.{w8}
use Rattle.std.specs.Int.Bits.{and_lt}
use Rattle.std.proofs.lemmas.Nat.{or_lt}
use Rattle.std.proofs.lemmas.Bool.Decides.{nat_tests}
use Rattle.std.proofs.lemmas.List.Elements.{All-nil, All-cons, All-take, All-drop, All-set, All-replicate, All-head, All-tail}
use Rattle.mic_words.specs.Prelude.{wrap, plus, minus, is_negative}
use Rattle.console_port.specs.Prelude.{next_byte}
use Rattle.ijvm_instr.specs.declared.instr.Instr.{Instr}
use Rattle.ijvm_instr.specs.declared.instr.Instr.TheVariants.{Nop, Bipush, LdcW, Iload, Istore, Pop, Dup, Swap, Iadd, Isub, Iand, Iinc, Ifeq, Iflt, IfIcmpeq, Goto, Ireturn, Ior, Invokevirtual, WideIload, WideIstore, WideIinc, In, Out, Err, Halt}
use Rattle.ijvm_instr.specs.Prelude.{IsInstr, instr_at, word_of, target}
use Rattle.ijvm_image.specs.declared.method.Method.{Method}
use Rattle.ijvm_image.specs.Prelude.{ImageView, IsImage, method_at, params, others}
use Rattle.ijvm_meaning.specs.Prelude.{Frame, State, frames_of, base, start_of, IsWord, HasWords, AreWords, StepOutcome, Goes, Limits, Stuck, moved, pushed, pushed_constant, loaded, is_own, with_local, stored, increased, popped, doubled, swapped, combined, way, branched, compared, returned, onto, called, in_method, entered, called_at, taken, given_out, step, step_if_any, step_outcome, TimedImage, Point, Passes, Start, More}

found : {X : Type 0} (P : X → Type 0) (xs : List X) (i : ℕ) → All P xs → IfSome (slice_get xs i) P
found P [] i h = tt
found P (x ∷ xs) zero h = All-head P x xs h
found P (x ∷ xs) (suc i) h = found P xs i (All-tail P x xs h)

abbrev IsSet : Option ℕ → Type 0
IsSet v = IfSome v IsWord

-- the state that an outcome leads to, or leaves, has words
abbrev pub Keeps : StepOutcome → Type 0
Keeps (Goes to) = AreWords to
Keeps (Limits left) = AreWords left
Keeps _ = Unit {0}

wrapped : (x : ℕ) → IsWord (wrap x)
unfolding wrap
wrapped x = omega arith

running : (s : State) → AreWords s → HasWords s.running
running s h = All-head HasWords s.running s.callers h.frames

callers : (s : State) → AreWords s → All HasWords s.callers
callers s h = All-tail HasWords s.running s.callers h.frames

-- a state with another running frame and address
with_frame : (s : State) (f : Frame) (to : ℕ) → AreWords s → HasWords f → IsWord to → AreWords (record s { running = f; at = to })
with_frame s f to h hf there = record { frames = All-cons HasWords f s.callers hf (callers s h); at = there }

moved_words : (s : State) (operands : List ℕ) (to : ℕ) → AreWords s → All IsWord operands → IsWord to → AreWords (moved s operands to)
moved_words s operands to h ops there =
    with_frame s (record s.running { operands = operands }) to h (record { locals = (running s h).locals; operands = ops; back = (running s h).back }) there

limited_by : (t : Bool) (left to : State) → AreWords left → AreWords to → Keeps (if t then Goes to else Limits left)
limited_by true left to hl ht = ht
limited_by false left to hl ht = hl

pushed_words : (n : ℕ) (s : State) (v to : ℕ) → AreWords s → IsWord v → IsWord to → Keeps (pushed n s v to)
pushed_words n s v to h word there =
    let next : State = moved s (v ∷ s.running.operands) to in
    limited_by (nat_le (base (frames_of next)) n) s next h (moved_words s (v ∷ s.running.operands) to h (All-cons IsWord v s.running.operands word (running s h).operands) there)

constant_words : (n : ℕ) (s : State) (v : Option ℕ) → AreWords s → IfSome v IsWord → IsWord (s.at + 3) → Keeps (pushed_constant n s v)
constant_words n s None h word there = tt
constant_words n s (Some v) h word there = pushed_words n s v (s.at + 3) h word there

loaded_words : (n : ℕ) (s : State) (v : Option (Option ℕ)) (to : ℕ) → AreWords s → IfSome v IsSet → IsWord to → Keeps (loaded n s v to)
loaded_words n s None to h word there = tt
loaded_words n s (Some None) to h word there = tt
loaded_words n s (Some (Some v)) to h word there = pushed_words n s v to h word there

local_words : (s : State) (k v : ℕ) (operands : List ℕ) (to : ℕ) → AreWords s → IsWord v → All IsWord operands → IsWord to → AreWords (with_local s k v operands to)
local_words s k v operands to h word ops there =
    with_frame s (with_local s k v operands to).running to h
    (record { locals = All-set IsSet s.running.locals k (Some v) word (running s h).locals; operands = ops; back = (running s h).back }) there

stored_by : (a b : Bool) (to : State) → AreWords to → Keeps (if a then (if b then Goes to else Stuck) else Stuck)
stored_by true true to h = h
stored_by true false to h = tt
stored_by false b to h = tt

stored_words : (s : State) (k : ℕ) (operands : List ℕ) (to : ℕ) → AreWords s → All IsWord operands → IsWord to → Keeps (stored s k operands to)
stored_words s k [] to h ops there = tt
stored_words s k (v ∷ rest) to h ops there =
    stored_by (is_own s.running.back k) (nat_lt k (length s.running.locals)) (with_local s k v rest to)
    (local_words s k v rest to h (All-head IsWord v rest ops) (All-tail IsWord v rest ops) there)

increased_words : (s : State) (k : ℕ) (z : ℤ) (v : Option (Option ℕ)) (to : ℕ) → AreWords s → IsWord to → Keeps (increased s k z v to)
increased_words s k z None to h there = tt
increased_words s k z (Some None) to h there = tt
increased_words s k z (Some (Some v)) to h there = local_words s k (plus v (word_of z)) s.running.operands to h (wrapped (v + word_of z)) (running s h).operands there

popped_words : (s : State) (operands : List ℕ) → AreWords s → All IsWord operands → IsWord (s.at + 1) → Keeps (popped s operands)
popped_words s [] h ops there = tt
popped_words s (y ∷ rest) h ops there = moved_words s rest (s.at + 1) h (All-tail IsWord y rest ops) there

doubled_words : (n : ℕ) (s : State) (operands : List ℕ) → AreWords s → All IsWord operands → IsWord (s.at + 1) → Keeps (doubled n s operands)
doubled_words n s [] h ops there = tt
doubled_words n s (y ∷ rest) h ops there = pushed_words n s y (s.at + 1) h (All-head IsWord y rest ops) there

swapped_words : (s : State) (operands : List ℕ) → AreWords s → All IsWord operands → IsWord (s.at + 1) → Keeps (swapped s operands)
swapped_words s [] h ops there = tt
swapped_words s (y ∷ []) h ops there = tt
swapped_words s (y ∷ x ∷ rest) h ops there =
    let below : All IsWord (x ∷ rest) = All-tail IsWord y (x ∷ rest) ops in
    moved_words s (x ∷ y ∷ rest) (s.at + 1) h
    (All-cons IsWord x (y ∷ rest) (All-head IsWord x rest below) (All-cons IsWord y rest (All-head IsWord y (x ∷ rest) ops) (All-tail IsWord x rest below))) there

combined_words : (f : ℕ → ℕ → ℕ) (s : State) (operands : List ℕ) → ((x y : ℕ) → IsWord x → IsWord y → IsWord (f x y)) → AreWords s → All IsWord operands → IsWord (s.at + 1) →
    Keeps (combined f s operands)
combined_words f s [] hf h ops there = tt
combined_words f s (y ∷ []) hf h ops there = tt
combined_words f s (y ∷ x ∷ rest) hf h ops there =
    let below : All IsWord (x ∷ rest) = All-tail IsWord y (x ∷ rest) ops in
    moved_words s (f x y ∷ rest) (s.at + 1) h
    (All-cons IsWord (f x y) rest (hf x y (All-head IsWord x rest below) (All-head IsWord y (x ∷ rest) ops)) (All-tail IsWord x rest below)) there

target_word : (at : ℕ) (o : ℤ) → IsWord (target at o)
target_word at o = wrapped (at + word_of o)

way_word : (at : ℕ) (o : ℤ) (t : Bool) → IsWord (at + 3) → IsWord (way at o t)
way_word at o true there = target_word at o
way_word at o false there = there

branched_words : (test : ℕ → Bool) (s : State) (o : ℤ) (operands : List ℕ) → AreWords s → All IsWord operands → IsWord (s.at + 3) → Keeps (branched test s o operands)
branched_words test s o [] h ops there = tt
branched_words test s o (y ∷ rest) h ops there = moved_words s rest (way s.at o (test y)) h (All-tail IsWord y rest ops) (way_word s.at o (test y) there)

compared_words : (s : State) (o : ℤ) (operands : List ℕ) → AreWords s → All IsWord operands → IsWord (s.at + 3) → Keeps (compared s o operands)
compared_words s o [] h ops there = tt
compared_words s o (y ∷ []) h ops there = tt
compared_words s o (y ∷ x ∷ rest) h ops there =
    moved_words s rest (way s.at o (x == y)) h (All-tail IsWord x rest (All-tail IsWord y (x ∷ rest) ops)) (way_word s.at o (x == y) there)

returned_words : (s : State) (back : Option ℕ) (above : List Frame) (operands : List ℕ) → AreWords s → IfSome back IsWord → All HasWords above → All IsWord operands →
    Keeps (returned s back above operands)
returned_words s None above operands h hb hf ops = tt
returned_words s (Some back) [] operands h hb hf ops = tt
returned_words s (Some back) (f ∷ fs) [] h hb hf ops = tt
returned_words s (Some back) (f ∷ fs) (y ∷ rest) h hb hf ops =
    let caller : HasWords f = All-head HasWords f fs hf in
    let pushed_on : HasWords (record f { operands = y ∷ f.operands }) =
    record { locals = caller.locals; operands = All-cons IsWord y f.operands (All-head IsWord y rest ops) caller.operands; back = caller.back } in
    record { frames = All-cons HasWords (record f { operands = y ∷ f.operands }) fs pushed_on (All-tail HasWords f fs hf); at = hb }

onto_words : (ps : List ℕ) (locals : List (Option ℕ)) → All IsWord ps → All IsSet locals → All IsSet (onto ps locals)
onto_words [] locals hp hl = hl
onto_words (p ∷ ps) locals hp hl = onto_words ps (Some p ∷ locals) (All-tail IsWord p ps hp) (All-cons IsSet (Some p) locals (All-head IsWord p ps hp) hl)

in_method_words : (s : State) (m : Method) (n : ℕ) → AreWords s → IsWord (s.at + 3) → IsWord (m.entry + 4) → AreWords (in_method s m n)
in_method_words s m n h there entry =
    let r : HasWords s.running = running s h in
    let unset : All IsSet (replicate m.others None) = All-replicate IsSet m.others None tt in
    let frame : HasWords (called (take n s.running.operands) m.others (s.at + 3)) = record {
      locals = All-cons IsSet None (onto (take n s.running.operands) (replicate m.others None)) tt (onto_words (take n s.running.operands) (replicate m.others None) (All-take IsWord n s.running.operands r.operands) unset);
      operands = All-nil IsWord;
      back = there;
    } in
    let caller : HasWords (record s.running { operands = drop (n + 1) s.running.operands }) =
    record { locals = r.locals; operands = All-drop IsWord (n + 1) s.running.operands r.operands; back = r.back } in
    record {
      frames = All-cons HasWords (called (take n s.running.operands) m.others (s.at + 3)) (record s.running { operands = drop (n + 1) s.running.operands } ∷ s.callers) frame
          (All-cons HasWords (record s.running { operands = drop (n + 1) s.running.operands }) s.callers caller (callers s h));
      at = entry;
    }

entered_by : (t u : Bool) (s to : State) → AreWords s → AreWords to → Keeps (if t then (if u then Goes to else Limits s) else Stuck)
entered_by true u s to h ht = limited_by u s to h ht
entered_by false u s to h ht = tt

entered_words : (n : ℕ) (s : State) (m : Method) (params : ℕ) → AreWords s → IsWord (s.at + 3) → IsWord (m.entry + 4) → Keeps (entered n s m params)
entered_words n s m zero h there entry = tt
entered_words n s m (suc k) h there entry =
    entered_by (nat_lt k (length s.running.operands)) (nat_le (base (frames_of (in_method s m k))) n) s (in_method s m k) h (in_method_words s m k h there entry)

called_words : (n : ℕ) (s : State) (m : Option Method) → AreWords s → IsWord (s.at + 3) → IfSome m (λ x. IsWord (x.entry + 4)) → Keeps (called_at n s m)
called_words n s None h there entry = tt
called_words n s (Some m) h there entry = entered_words n s m m.params h there entry

method_inside : (text : List ℕ) (constant : Option ℕ) → length text ≤ 65536 → IfSome (method_at text constant) (λ m. IsWord (m.entry + 4))
method_inside text None fits = tt
method_inside text (Some entry) fits = by_test (nat_lt (entry + 4) (length text)) refl
  where
    by_test : (t : Bool) → nat_lt (entry + 4) (length text) ≡ t → IfSome {T = Method} (if t then Some (record { entry = entry; params = params text entry; others = others text entry }) else None) (λ m. IsWord (m.entry + 4))
    by_test true e = let inside : entry + 4 < length text = grind (arith, nat_tests) in omega arith
    by_test false e = tt

taken_words : (s : State) → AreWords s → AreWords (taken s)
taken_words s h = record { frames = h.frames; at = h.at }

next_word : (bytes : List ℕ) → IsWord (next_byte bytes)
next_word [] = omega arith
next_word (b ∷ bytes) = omega arith

given_words : (s : State) (operands : List ℕ) → AreWords s → All IsWord operands → IsWord (s.at + 1) → Keeps (given_out s operands)
given_words s [] h ops there = tt
given_words s (y ∷ rest) h ops there =
    let next : AreWords (moved s rest (s.at + 1)) = moved_words s rest (s.at + 1) h (All-tail IsWord y rest ops) there in
    record { frames = next.frames; at = there }

byte_word : (z : ℤ) → FitsSigned w8 z → IsWord (word_of z)
byte_word (pos n) h = let small : n < 2 ^ 7 = h.sfits in omega arith
byte_word (negsuc n) h = omega arith

near : (at k : ℕ) → at < 65536 → k ≤ 6 → IsWord (at + k)
near at k h few = omega arith

step_words : (image : ImageView) (n : ℕ) (i : Instr) (s : State) → length image.text ≤ 65536 → All IsWord image.pool → IsInstr i → s.at < 65536 → AreWords s → Keeps (step image n i s)
step_words image n Nop s fits pool real at h = moved_words s s.running.operands (s.at + 1) h (running s h).operands (near s.at 1 at (omega arith))
step_words image n (Bipush z) s fits pool real at h = pushed_words n s (word_of z) (s.at + 2) h (byte_word z real) (near s.at 2 at (omega arith))
step_words image n (LdcW k) s fits pool real at h = constant_words n s (slice_get image.pool k) h (found IsWord image.pool k pool) (near s.at 3 at (omega arith))
step_words image n (Iload k) s fits pool real at h = loaded_words n s (slice_get s.running.locals k) (s.at + 2) h (found IsSet s.running.locals k (running s h).locals) (near s.at 2 at (omega arith))
step_words image n (Istore k) s fits pool real at h = stored_words s k s.running.operands (s.at + 2) h (running s h).operands (near s.at 2 at (omega arith))
step_words image n Pop s fits pool real at h = popped_words s s.running.operands h (running s h).operands (near s.at 1 at (omega arith))
step_words image n Dup s fits pool real at h = doubled_words n s s.running.operands h (running s h).operands (near s.at 1 at (omega arith))
step_words image n Swap s fits pool real at h = swapped_words s s.running.operands h (running s h).operands (near s.at 1 at (omega arith))
step_words image n Iadd s fits pool real at h = combined_words plus s s.running.operands (λ x y hx hy. wrapped (x + y)) h (running s h).operands (near s.at 1 at (omega arith))
step_words image n Isub s fits pool real at h = combined_words minus s s.running.operands (λ x y hx hy. wrapped (x + (4294967296 - y))) h (running s h).operands (near s.at 1 at (omega arith))
step_words image n Iand s fits pool real at h = combined_words bit_and s s.running.operands (λ x y hx hy. and_lt 32 x y hx hy) h (running s h).operands (near s.at 1 at (omega arith))
step_words image n (Iinc k z) s fits pool real at h = increased_words s k z (slice_get s.running.locals k) (s.at + 3) h (near s.at 3 at (omega arith))
step_words image n (Ifeq o) s fits pool real at h = branched_words (λ y. y == 0) s o s.running.operands h (running s h).operands (near s.at 3 at (omega arith))
step_words image n (Iflt o) s fits pool real at h = branched_words is_negative s o s.running.operands h (running s h).operands (near s.at 3 at (omega arith))
step_words image n (IfIcmpeq o) s fits pool real at h = compared_words s o s.running.operands h (running s h).operands (near s.at 3 at (omega arith))
step_words image n (Goto o) s fits pool real at h = moved_words s s.running.operands (target s.at o) h (running s h).operands (target_word s.at o)
step_words image n Ireturn s fits pool real at h = returned_words s s.running.back s.callers s.running.operands h (running s h).back (callers s h) (running s h).operands
step_words image n Ior s fits pool real at h = combined_words bit_or s s.running.operands (λ x y hx hy. or_lt 32 x y hx hy) h (running s h).operands (near s.at 1 at (omega arith))
step_words image n (Invokevirtual k) s fits pool real at h =
    called_words n s (method_at image.text (slice_get image.pool k)) h (near s.at 3 at (omega arith)) (method_inside image.text (slice_get image.pool k) fits)
step_words image n (WideIload k) s fits pool real at h = loaded_words n s (slice_get s.running.locals k) (s.at + 4) h (found IsSet s.running.locals k (running s h).locals) (near s.at 4 at (omega arith))
step_words image n (WideIstore k) s fits pool real at h = stored_words s k s.running.operands (s.at + 4) h (running s h).operands (near s.at 4 at (omega arith))
step_words image n (WideIinc k z) s fits pool real at h = increased_words s k z (slice_get s.running.locals k) (s.at + 6) h (near s.at 6 at (omega arith))
step_words image n In s fits pool real at h =
    pushed_words n (taken s) (next_byte s.untaken) (s.at + 1) (taken_words s h) (next_word s.untaken) (near s.at 1 at (omega arith))
step_words image n Out s fits pool real at h = given_words s s.running.operands h (running s h).operands (near s.at 1 at (omega arith))
step_words image n Err s fits pool real at h = tt
step_words image n Halt s fits pool real at h = tt

-- Whole runs. What is read in the image's text is an instruction whose operands are in range, and stands inside the text.

abbrev Reads : ImageView → Type 0
Reads image = (at : ℕ) (i : Instr) → instr_at image.text at ≡ Some i → IsInstr i × (at < length image.text)

stepped_words : (image : ImageView) (n : ℕ) (s : State) (o : Option Instr) → IsImage image → Reads image → instr_at image.text s.at ≡ o → AreWords s → Keeps (step_if_any image n s o)
stepped_words image n s None good reads is h = tt
stepped_words image n s (Some i) good reads is h =
    let read : IsInstr i × (s.at < length image.text) = reads s.at i is in
    let fits : length image.text ≤ 65536 = good.limits.text_fits in
    step_words image n i s fits good.words read.0 (let inside : s.at < length image.text = read.1 in omega arith) h

pub goes_words : (image : ImageView) (n : ℕ) (s to : State) → IsImage image → Reads image → AreWords s → step_outcome image n s ≡ Goes to → AreWords to
goes_words image n s to good reads h goes = subst Keeps goes (stepped_words image n s (instr_at image.text s.at) good reads refl h)

pub limits_words : (image : ImageView) (n : ℕ) (s left : State) → IsImage image → Reads image → AreWords s → step_outcome image n s ≡ Limits left → AreWords left
limits_words image n s left good reads h limits = subst Keeps limits (stepped_words image n s (instr_at image.text s.at) good reads refl h)

pub start_words : (main_locals : ℕ) (input : List ℕ) → AreWords (start_of main_locals input)
start_words main_locals input =
    let zero_set : IsSet (Some 0) = omega arith in
    record {
      frames = All-cons HasWords _ [] (record { locals = All-replicate IsSet main_locals (Some 0) zero_set; operands = All-nil IsWord; back = tt }) (All-nil HasWords);
      at = omega arith;
    }

pub passed_words : (p : TimedImage) (bound : ℕ) (from at : Point) → IsImage p.image → Reads p.image → AreWords from.state → Passes p bound from at → AreWords at.state
passed_words p bound from at good reads h (Start a same) = subst (λ (x : Point). AreWords x.state) (sym same) h
passed_words p bound from at good reads h (More b next to first less goes is) =
    subst (λ (x : Point). AreWords x.state) (sym is) (goes_words p.image p.stack_end b.state to good reads (passed_words p bound from b good reads h first) goes)
