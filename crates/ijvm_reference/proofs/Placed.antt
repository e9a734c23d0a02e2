-- Frames keep their places.
use Rattle.std.proofs.Common.{◌≡◌, ◌≤◌, ◌<◌, ◌^◌, ℕ, ◌+◌, ◌-◌, take, drop, replicate, Bool, true, false, List, [], ◌∷◌, length, Option, Some}
use Rattle.std.proofs.Common.{None, slice_set, sym, ap, ap₂, ◌∙◌, subst, arith, length-set, length-drop, length-take-le}
use Rattle.std.proofs.lemmas.List.{length-replicate}
use Rattle.ijvm_meaning.specs.Prelude.{Frame, base, kept_words, called, onto}
use Rattle.ijvm_reference.specs.Prelude.{ArePlaced, Pops, Stores, Swaps}

pub base_least : (fs : List Frame) → 0x8000 ≤ base fs
base_least [] = omega arith
base_least (f ∷ fs) = let h : 0x8000 ≤ base fs = base_least fs in omega arith

-- a frame that takes no more words
smaller : (stack_end lv : ℕ) (old new : Frame) (callers : List Frame) → length new.locals ≡ length old.locals → new.back ≡ old.back → length new.operands ≤ length old.operands →
    ArePlaced stack_end lv old callers → ArePlaced stack_end lv new callers
smaller stack_end lv old new callers locals back operands h =
    let kept : kept_words new.back ≡ kept_words old.back = ap kept_words back in
    let fits : base callers + length old.locals + kept_words old.back + length old.operands ≤ stack_end = h.fits in
    record { begins = h.begins; fits = omega arith; word = h.word }

pub placed_pop : (stack_end lv : ℕ) (r : Option ℕ) (old new : Frame) (callers : List Frame) → Pops r old new → ArePlaced stack_end lv old callers → ArePlaced stack_end lv new callers
placed_pop stack_end lv None old new callers p h = subst (λ (f : Frame). ArePlaced stack_end lv f callers) (sym p.1) h
placed_pop stack_end lv (Some v) old new callers p h =
    let same : old ≡ record new { operands = v ∷ new.operands } = p in
    let locals : length new.locals ≡ length old.locals = sym (ap (λ (f : Frame). length f.locals) same) in
    let back : new.back ≡ old.back = sym (ap (λ (f : Frame). f.back) same) in
    let many : length old.operands ≡ length (v ∷ new.operands) = ap (λ (f : Frame). length f.operands) same in
    smaller stack_end lv old new callers locals back (omega arith) h

pub placed_store : (stack_end lv : ℕ) (r : Bool) (k v : ℕ) (old new : Frame) (callers : List Frame) → Stores r k v old new → ArePlaced stack_end lv old callers → ArePlaced stack_end lv new callers
placed_store stack_end lv false k v old new callers p h = subst (λ (f : Frame). ArePlaced stack_end lv f callers) (sym p.1) h
placed_store stack_end lv true k v old new callers p h =
    let same : new ≡ record old { locals = slice_set old.locals k (Some v) } = p.1 in
    let locals : length new.locals ≡ length old.locals = ap (λ (f : Frame). length f.locals) same ∙ length-set old.locals k (Some v) in
    let back : new.back ≡ old.back = ap (λ (f : Frame). f.back) same in
    let many : length new.operands ≡ length old.operands = ap (λ (f : Frame). length f.operands) same in
    smaller stack_end lv old new callers locals back (omega arith) h

pub length-onto : (ps : List ℕ) (locals : List (Option ℕ)) → length (onto ps locals) ≡ length ps + length locals
length-onto [] locals = omega arith
length-onto (p ∷ ps) locals =
    let later : length (onto ps (Some p ∷ locals)) ≡ length ps + length (Some p ∷ locals) = length-onto ps (Some p ∷ locals) in
    omega arith

-- the frames after a call take this many words more
pub base_call : (running : Frame) (callers : List Frame) (n others back : ℕ) → n + 1 ≤ length running.operands →
    base (called (take n running.operands) others back ∷ record running { operands = drop (n + 1) running.operands } ∷ callers)
    ≡ base (running ∷ callers) + (others + 2)
base_call running callers n others back enough =
    let rest : length (drop (n + 1) running.operands) ≡ length running.operands - (n + 1) = length-drop (n + 1) running.operands in
    let many : length (take n running.operands) ≡ n = length-take-le n running.operands (let e : n ≤ length running.operands = omega arith in e) in
    let own : length (onto (take n running.operands) (replicate {A = Option ℕ} others None)) ≡ length (take n running.operands) + length (replicate {A = Option ℕ} others None) =
    length-onto (take n running.operands) (replicate others None) in
    let unset : length (replicate {A = Option ℕ} others None) ≡ others = length-replicate others None in
    omega arith

-- a called method's frame begins where the caller's operands now end
pub placed_call : (stack_end lv lv' n others back : ℕ) (running caller frame : Frame) (callers : List Frame) → n + 1 ≤ length running.operands →
    base (running ∷ callers) + others + 2 ≤ stack_end → caller ≡ record running { operands = drop (n + 1) running.operands } →
    frame ≡ called (take n running.operands) others back → lv' ≡ lv + (length caller.locals + kept_words caller.back + length caller.operands) →
    ArePlaced stack_end lv running callers → ArePlaced stack_end lv' frame (caller ∷ callers)
placed_call stack_end lv lv' n others back running caller frame callers enough room is_caller is_frame begins h =
    let size : base (frame ∷ caller ∷ callers) ≡ base (running ∷ callers) + (others + 2) =
    ap₂ (λ (f g : Frame). base (f ∷ g ∷ callers)) is_frame is_caller ∙ base_call running callers n others back enough in
    record { begins = omega (arith, h.begins, begins); fits = omega (arith, room, size); word = h.word }

-- what is known of a caller
pub caller_words : (stack_end lv : ℕ) (running f : Frame) (callers fs : List Frame) → callers ≡ f ∷ fs → ArePlaced stack_end lv running callers →
    (length f.locals + 2 + length f.operands < 2 ^ 32) × (length f.locals + kept_words f.back + length f.operands ≤ lv)
caller_words stack_end lv running f callers fs e h =
    let least : 0x8000 ≤ base fs = base_least fs in
    let begins : lv ≡ base fs + length f.locals + kept_words f.back + length f.operands = h.begins ∙ ap base e in
    let all : base callers + length running.locals + kept_words running.back + length running.operands ≤ stack_end = h.fits in
    let word : stack_end < 2 ^ 32 = h.word in
    let same : base callers ≡ base fs + length f.locals + kept_words f.back + length f.operands = ap base e in
    (omega arith, omega arith)

pub placed_swap : (stack_end lv : ℕ) (r : Bool) (old new : Frame) (callers : List Frame) → Swaps r old new → ArePlaced stack_end lv old callers → ArePlaced stack_end lv new callers
placed_swap stack_end lv false old new callers p h = subst (λ (f : Frame). ArePlaced stack_end lv f callers) (sym p.1) h
placed_swap stack_end lv true old new callers p h =
    let locals : length new.locals ≡ length old.locals = ap (λ (f : Frame). length f.locals) p.1 in
    let back : new.back ≡ old.back = ap (λ (f : Frame). f.back) p.1 in
    let was : length old.operands ≡ length (p.0.0 ∷ p.0.1 ∷ p.0.2) = ap length p.0.3 in
    let is : length new.operands ≡ length (p.0.1 ∷ p.0.0 ∷ p.0.2) = ap length p.0.4 in
    smaller stack_end lv old new callers locals back (omega arith) h

pub placed_set : (stack_end lv k v : ℕ) (old new : Frame) (callers : List Frame) → new ≡ record old { locals = slice_set old.locals k (Some v) } →
    ArePlaced stack_end lv old callers → ArePlaced stack_end lv new callers
placed_set stack_end lv k v old new callers is h =
    let locals : length new.locals ≡ length old.locals = ap (λ (f : Frame). length f.locals) is ∙ length-set old.locals k (Some v) in
    let back : new.back ≡ old.back = ap (λ (f : Frame). f.back) is in
    let many : length new.operands ≡ length old.operands = ap (λ (f : Frame). length f.operands) is in
    smaller stack_end lv old new callers locals back (omega arith) h
