-- Frames stand in memory after the writes of a push, a store to a local and a call.
use Rattle.std.proofs.Common.{true, refl, subst, ◌≡◌, ◌≢◌, ℕ, zero, suc, ◌+◌, ◌<◌, ◌≤◌, ◌⊎◌, inl, inr, Option, Some, None, List, [], ◌∷◌, ◌++◌, length, replicate, arith, sym, ap, ◌∙◌, add-zero, get_or-set_same, get_or-set_other, length-set}
use Rattle.std.specs.Prelude.{slice_index, slice_set, slice_get}
use Rattle.ijvm_simulation.specs.Common.{length-replicate, slice_get_within, none-some, same_Some, is_own, onto, called, Frame, operands_at, frame_end, base}
use Rattle.ijvm_simulation.specs.Common.{kept_words}
use Rattle.ijvm_simulation.specs.Stands.{OperandsAt, IsLinked, FrameStands, FramesStand, caller_lv, IsMemory}
use Rattle.ijvm_simulation.specs.Methods.{length-onto}

-- the memory with the three words of a method's frame that a call writes: its link word, its return address, and its caller's LV
abbrev pub linked_words : List ℕ → ℕ → ℕ → ℕ → ℕ → List ℕ
linked_words words lv many back caller = slice_set (slice_set (slice_set words lv (lv + many)) (lv + many) back) (lv + many + 1) caller

read_other : (words : List ℕ) (a b v : ℕ) → (b < a) ⊎ (a < b) → slice_index (slice_set words a v) b ≡ slice_index words b
read_other words a b v h = let ne : b ≢ a = omega arith in get_or-set_other words a b v 0 ne

-- a write leaves the memory below the stack
pub memory_set : (origin words : List ℕ) (a v : ℕ) → 0x8000 ≤ a → IsMemory origin words → IsMemory origin (slice_set words a v)
memory_set origin words a v le h = record { kept = λ b l. read_other words a b v (inl (omega arith)) ∙ h.kept b l; long = length-set words a v ∙ h.long }

operands_apart : (words : List ℕ) (at a v : ℕ) (xs : List ℕ) → (a < at) ⊎ (at + length xs ≤ a) → OperandsAt words at xs → OperandsAt (slice_set words a v) at xs
operands_apart words at a v [] h o = tt
operands_apart words at a v (x ∷ xs) h o = (
  read_other words a (at + length xs) v (elim h [ inl l ↦ inr (omega arith) | inr r ↦ inl (omega arith) ]) ∙ o.0,
  operands_apart words at a v xs (elim h [ inl l ↦ inl l | inr r ↦ inr (omega arith) ]) o.1,
)

linked_below : (words : List ℕ) (lv many caller a v : ℕ) (back : Option ℕ) → lv + many + kept_words back ≤ a →
    IsLinked words lv many caller back → IsLinked (slice_set words a v) lv many caller back
linked_below words lv many caller a v None le h = tt
linked_below words lv many caller a v (Some r) le h = (
  read_other words a lv v (inl (omega arith)) ∙ h.0,
  read_other words a (lv + many) v (inl (omega arith)) ∙ h.1,
  read_other words a (lv + many + 1) v (inl (omega arith)) ∙ h.2,
)

-- a write after a frame
frame_below : (words : List ℕ) (lv caller a v : ℕ) (f : Frame) → frame_end lv f ≤ a → FrameStands words lv caller f → FrameStands (slice_set words a v) lv caller f
frame_below words lv caller a v f le h = record {
  locals = λ k u e. let lt : k < length f.locals = slice_get_within f.locals k (Some u) e in
      read_other words a (lv + k) v (inl (omega arith)) ∙ h.locals k u e;
  operands = operands_apart words (operands_at lv f) a v f.operands (inr le) h.operands;
  linked = linked_below words lv (length f.locals) caller a v f.back (omega arith) h.linked;
}

frames_below : (words : List ℕ) (a v : ℕ) (fs : List Frame) → base fs ≤ a → FramesStand words fs → FramesStand (slice_set words a v) fs
frames_below words a v [] le h = tt
frames_below words a v (f ∷ fs) le h = (
  frame_below words (base fs) (caller_lv fs) a v f le h.0,
  frames_below words a v fs (omega arith) h.1,
)

-- a word is pushed
pub pushed : (words : List ℕ) (a v : ℕ) (f : Frame) (fs : List Frame) → a ≡ base (f ∷ fs) → a < length words → FramesStand words (f ∷ fs) →
    FramesStand (slice_set words a v) (record f { operands = v ∷ f.operands } ∷ fs)
pushed words a v f fs e lt h =
    let below : FrameStands (slice_set words a v) (base fs) (caller_lv fs) f = frame_below words (base fs) (caller_lv fs) a v f (omega arith) h.0 in (
      record {
        locals = below.locals;
        operands = (rw (← e) (get_or-set_same words a v 0 lt), below.operands);
        linked = below.linked;
      },
      frames_below words a v fs (omega arith) h.1,
    )

-- A local is stored.

own_above : (r k : ℕ) → is_own (Some r) k ≡ true → 0 < k
own_above r zero h = absurd (cc)
own_above r (suc k) h = omega arith

stored_link : (words : List ℕ) (lv many caller k v : ℕ) (back : Option ℕ) → k < many → is_own back k ≡ true →
    IsLinked words lv many caller back → IsLinked (slice_set words (lv + k) v) lv many caller back
stored_link words lv many caller k v None l own h = tt
stored_link words lv many caller k v (Some r) l own h =
    let pos : 0 < k = own_above r k own in (
      read_other words (lv + k) lv v (inl (omega arith)) ∙ h.0,
      read_other words (lv + k) (lv + many) v (inr (omega arith)) ∙ h.1,
      read_other words (lv + k) (lv + many + 1) v (inr (omega arith)) ∙ h.2,
    )

-- what a list has after its element is replaced
get_set : (xs : List (Option ℕ)) (k j : ℕ) (x : Option ℕ) → k < length xs → ((j ≡ k) × (slice_get (slice_set xs k x) j ≡ Some x)) ⊎ ((j ≢ k) × (slice_get (slice_set xs k x) j ≡ slice_get xs j))
get_set [] k j x l = absurd (omega arith)
get_set (y ∷ ys) zero zero x l = inl (refl, refl)
get_set (y ∷ ys) zero (suc j) x l = inr (omega arith, refl)
get_set (y ∷ ys) (suc k) zero x l = inr (omega arith, refl)
get_set (y ∷ ys) (suc k) (suc j) x l = elim (get_set ys k j x (omega arith)) [
  | inl h ↦ inl (ap (λ (i : ℕ). suc i) h.0, h.1)
  | inr h ↦ inr (let ne : j ≢ k = h.0 in omega arith, h.1)
]

stored_locals : (words : List ℕ) (lv k v : ℕ) (xs : List (Option ℕ)) → k < length xs → lv + k < length words →
    ((j u : ℕ) → slice_get xs j ≡ Some (Some u) → slice_index words (lv + j) ≡ u) →
    (j u : ℕ) → slice_get (slice_set xs k (Some v)) j ≡ Some (Some u) → slice_index (slice_set words (lv + k) v) (lv + j) ≡ u
stored_locals words lv k v xs l room h j u e =
    elim (get_set xs k j (Some v) l) [
      | inl g ↦
          let at : lv + j ≡ lv + k = omega (arith, g.0) in
          ap (slice_index (slice_set words (lv + k) v)) at ∙ (get_or-set_same words (lv + k) v 0 room ∙ same_Some v u (same_Some (Some v) (Some u) (sym g.1 ∙ e)))
      | inr g ↦
          let other : j ≢ k = g.0 in
          let ne : lv + j ≢ lv + k = omega arith in
          get_or-set_other words (lv + k) (lv + j) v 0 ne ∙ h j u (sym g.1 ∙ e)
    ]

pub stored : (words : List ℕ) (k v : ℕ) (f : Frame) (fs : List Frame) → k < length f.locals → is_own f.back k ≡ true → base fs + k < length words →
    FramesStand words (f ∷ fs) → FramesStand (slice_set words (base fs + k) v) (record f { locals = slice_set f.locals k (Some v) } ∷ fs)
stored words k v f fs l own room h =
    let len : length (slice_set f.locals k (Some v)) ≡ length f.locals = length-set f.locals k (Some v) in
    let ops : OperandsAt (slice_set words (base fs + k) v) (operands_at (base fs) f) f.operands =
    operands_apart words (operands_at (base fs) f) (base fs + k) v f.operands (inl (omega arith)) h.0.operands in
    let link : IsLinked (slice_set words (base fs + k) v) (base fs) (length f.locals) (caller_lv fs) f.back =
    stored_link words (base fs) (length f.locals) (caller_lv fs) k v f.back l own h.0.linked in (
      record {
        locals = stored_locals words (base fs) k v f.locals l room h.0.locals;
        operands = subst (λ (n : ℕ). OperandsAt (slice_set words (base fs + k) v) (base fs + n + kept_words f.back) f.operands) (sym len) ops;
        linked = subst (λ (n : ℕ). IsLinked (slice_set words (base fs + k) v) (base fs) n (caller_lv fs) f.back) (sym len) link;
      },
      frames_below words (base fs + k) v fs (omega arith) h.1,
    )

-- A method is called.

-- words that locals name
abbrev LocalsAt : List ℕ → ℕ → List (Option ℕ) → Type 0
LocalsAt words a xs = (k v : ℕ) → slice_get xs k ≡ Some (Some v) → slice_index words (a + k) ≡ v

none_at : (words : List ℕ) (a more : ℕ) → LocalsAt words a (replicate more None)
none_at words a zero k v e = absurd (cc)
none_at words a (suc more) zero v e = absurd (cc)
none_at words a (suc more) (suc k) v e = absurd (none_there more k v e)
  where
    none_there : (i j u : ℕ) → slice_get (replicate i None) j ≡ Some (Some u) → ⊥
    none_there zero j u e = cc
    none_there (suc i) zero u e = cc
    none_there (suc i) (suc j) u e = none_there i j u e

cons_at : (words : List ℕ) (a : ℕ) (x : Option ℕ) (xs : List (Option ℕ)) → ((v : ℕ) → x ≡ Some v → slice_index words a ≡ v) → LocalsAt words (a + 1) xs → LocalsAt words a (x ∷ xs)
cons_at words a x xs first h zero v e = rw add-zero (first v (same_Some _ _ e))
cons_at words a x xs first h (suc k) v e = let same : a + suc k ≡ a + 1 + k = omega arith in ap (slice_index words) same ∙ h k v e

-- the arguments on the stack are the parameters in their places
onto_at : (words : List ℕ) (b : ℕ) (ps tail : List ℕ) (xs : List (Option ℕ)) → OperandsAt words b (ps ++ tail) → LocalsAt words (b + length (ps ++ tail)) xs →
    LocalsAt words (b + length tail) (onto ps xs)
onto_at words b [] tail xs o h = h
onto_at words b (p ∷ ps) tail xs o h = onto_at words b ps tail (Some p ∷ xs) o.1
    (cons_at words (b + length (ps ++ tail)) (Some p) xs (λ v e. o.0 ∙ same_Some p v e)
    (λ k v e. let same : b + length (ps ++ tail) + 1 + k ≡ b + length (p ∷ (ps ++ tail)) + k = omega arith in ap (slice_index words) same ∙ h k v e))

-- the operands below the last ones
dropped : (words : List ℕ) (b : ℕ) (ps tail : List ℕ) → OperandsAt words b (ps ++ tail) → OperandsAt words b tail
dropped words b [] tail h = h
dropped words b (p ∷ ps) tail h = dropped words b ps tail h.1

locals_below : (words : List ℕ) (lv a v : ℕ) (xs : List (Option ℕ)) → lv + length xs ≤ a → LocalsAt words lv xs → LocalsAt (slice_set words a v) lv xs
locals_below words lv a v xs le h k u e = let l : k < length xs = slice_get_within xs k (Some u) e in read_other words a (lv + k) v (inl (omega arith)) ∙ h k u e

locals_at_link : (words : List ℕ) (lv v : ℕ) (xs : List (Option ℕ)) → LocalsAt words lv (None ∷ xs) → LocalsAt (slice_set words lv v) lv (None ∷ xs)
locals_at_link words lv v xs h zero u e = absurd (none-some u (same_Some _ _ e))
locals_at_link words lv v xs h (suc k) u e = read_other words lv (lv + suc k) v (inr (omega arith)) ∙ h (suc k) u e

pub entered : (words : List ℕ) (ps : List ℕ) (o : ℕ) (rest : List ℕ) (more r : ℕ) (f : Frame) (fs : List Frame) →
    base (record f { operands = rest } ∷ fs) + length ps + 1 + more + 1 < length words → f.operands ≡ ps ++ o ∷ rest → FramesStand words (f ∷ fs) →
    FramesStand (linked_words words (base (record f { operands = rest } ∷ fs)) (length ps + 1 + more) r (base fs))
    (called ps more r ∷ record f { operands = rest } ∷ fs)
entered words ps o rest more r f fs room ops h =
    let g : Frame = record f { operands = rest } in
    let lv : ℕ = base (g ∷ fs) in
    let many : ℕ = length ps + 1 + more in
    let locals : List (Option ℕ) = None ∷ onto ps (replicate more None) in
    let m1 : List ℕ = slice_set words lv (lv + many) in
    let m2 : List ℕ = slice_set m1 (lv + many) r in
    let m3 : List ℕ = slice_set m2 (lv + many + 1) (base fs) in
    let len1 : length m1 ≡ length words = length-set words lv (lv + many) in
    let len2 : length m2 ≡ length m1 = length-set m1 (lv + many) r in
    let all : OperandsAt words (operands_at (base fs) f) (ps ++ o ∷ rest) = subst (λ (k : List ℕ). OperandsAt words (operands_at (base fs) f) k) ops h.0.operands in
    let lower : OperandsAt words (operands_at (base fs) f) rest = (dropped words (operands_at (base fs) f) ps (o ∷ rest) all).1 in
    let params_at : LocalsAt words (operands_at (base fs) f + length (o ∷ rest)) (onto ps (replicate more None)) =
    onto_at words (operands_at (base fs) f) ps (o ∷ rest) (replicate more None) all (none_at words _ more) in
    let own : LocalsAt words lv locals =
    cons_at words lv None (onto ps (replicate more None)) (λ v e. absurd (none-some v e))
    (λ k v e. let same : lv + 1 + k ≡ operands_at (base fs) f + length (o ∷ rest) + k = omega arith in ap (slice_index words) same ∙ params_at k v e) in
    let len : length locals ≡ many = omega (arith, length-onto ps (replicate more None), length-replicate {A = Option ℕ} more None) in
    let own1 : LocalsAt m1 lv locals = locals_at_link words lv (lv + many) (onto ps (replicate more None)) own in
    let own2 : LocalsAt m2 lv locals = locals_below m1 lv (lv + many) r locals (omega arith) own1 in
    let own3 : LocalsAt m3 lv locals = locals_below m2 lv (lv + many + 1) (base fs) locals (omega arith) own2 in
    let below : FramesStand words (g ∷ fs) = (record { locals = h.0.locals; operands = lower; linked = h.0.linked }, h.1) in
    let below1 : FramesStand m1 (g ∷ fs) = frames_below words lv (lv + many) (g ∷ fs) (omega arith) below in
    let below2 : FramesStand m2 (g ∷ fs) = frames_below m1 (lv + many) r (g ∷ fs) (omega arith) below1 in
    let below3 : FramesStand m3 (g ∷ fs) = frames_below m2 (lv + many + 1) (base fs) (g ∷ fs) (omega arith) below2 in
    let link : IsLinked m3 lv many (base fs) (Some r) = (
      read_other m2 (lv + many + 1) lv (base fs) (inl (omega arith)) ∙ (read_other m1 (lv + many) lv r (inl (omega arith)) ∙ get_or-set_same words lv (lv + many) 0 (omega arith)),
      read_other m2 (lv + many + 1) (lv + many) (base fs) (inl (omega arith)) ∙ get_or-set_same m1 (lv + many) r 0 (omega arith),
      get_or-set_same m2 (lv + many + 1) (base fs) 0 (omega arith),
    ) in
    (record { locals = own3; operands = tt; linked = subst (λ (k : ℕ). IsLinked m3 lv k (base fs) (Some r)) (sym len) link }, below3)
