-- Each outcome of an instruction shows what was found and what state comes of it.
use Rattle.ijvm_simulation.proofs.Common.{◌≡◌, ℕ, zero, suc, ◌+◌, ◌<◌, ◌≤◌, ◌==◌, Bool, true, false, if◌then◌else◌, List, [], ◌∷◌, length, Option, Some, None}
use Rattle.ijvm_simulation.proofs.Common.{refl, arith, nat_le, nat_lt, slice_get, ℤ, bit_and, bit_or, nat_tests, plus, minus, is_negative, next_byte, Instr}
use Rattle.ijvm_simulation.proofs.Common.{word_of, Method, ImageView, method_at}
use Rattle.ijvm_instr.specs.declared.instr.Instr.TheVariants.{Bipush, LdcW, Iload, Istore, Pop, Dup, Swap, Iadd, Isub, Iand, Iinc, Ifeq, Iflt, IfIcmpeq, Ireturn, Ior, Invokevirtual, WideIload, WideIstore, WideIinc, In, Out}
use Rattle.ijvm_meaning.specs.Prelude.{Frame, State, frames_of, base, StepOutcome, Goes, Limits, Stuck, limited, pushed_constant, loaded, is_own, with_local, stored, increased, popped, doubled, swapped, combined, branched, compared, returned, in_method, entered, called_at, taken, given_out, step}
use Rattle.ijvm_simulation.specs.Prelude.{WithLocal, Stores, Fits, Overflows, push, Went, Overran, IsOutcome}

module _ (image : ImageView) (stack_end : ℕ) (s : State) where
  abbrev Says_of : Instr → StepOutcome → Type 0
  Says_of i o = IsOutcome image stack_end s i o

  -- a push or a call: the stack has room, or has none
  room : (i : Instr) (left next : State) → (base (frames_of next) ≤ stack_end → Went image stack_end s next i) → (stack_end < base (frames_of next) → Overran image stack_end s left i) →
      Says_of i (limited stack_end left next)
  room i left next fits over = by_test (nat_le (base (frames_of next)) stack_end) refl
    where
      by_test : (t : Bool) → nat_le (base (frames_of next)) stack_end ≡ t → Says_of i (if t then Goes next else Limits left)
      by_test true e = fits (grind (arith, nat_tests))
      by_test false e = over (grind (arith, nat_tests))

  constant : (k : ℕ) (found : Option ℕ) → slice_get image.pool k ≡ found → Says_of (LdcW k) (pushed_constant stack_end s found)
  constant k None e = tt
  constant k (Some v) e =
      room (LdcW k) s (push s v (s.at + 3)) (λ l. record { value = v; found = e; leads = record { fits = l; goes = refl } })
      (λ l. record { value = v; found = e; leads = record { over = l; leaves = refl } })

  load : (i : Instr) (k at : ℕ) → ((to : State) → WithLocal s.running.locals k (λ v. Fits stack_end (push s v at) to) → Went image stack_end s to i) →
      ((left : State) → WithLocal s.running.locals k (λ v. Overflows stack_end (push s v at) s left) → Overran image stack_end s left i) →
      (found : Option (Option ℕ)) → slice_get s.running.locals k ≡ found → Says_of i (loaded stack_end s found at)
  load i k at fits over (Some (Some v)) e =
      room i s (push s v at) (λ l. fits (push s v at) (record { value = v; set = e; leads = record { fits = l; goes = refl } }))
      (λ l. over s (record { value = v; set = e; leads = record { over = l; leaves = refl } }))
  load i k at fits over _ e = tt

  -- a store, where the local may be stored to
  store : (i : Instr) (k v : ℕ) (rest : List ℕ) (at : ℕ) → (Stores s k v rest at (with_local s k v rest at) → Went image stack_end s (with_local s k v rest at) i) →
      Says_of i (if is_own s.running.back k then (if nat_lt k (length s.running.locals) then Goes (with_local s k v rest at) else Stuck) else Stuck)
  store i k v rest at leads = by_tests (is_own s.running.back k) (nat_lt k (length s.running.locals)) refl refl
    where
      by_tests : (own inside : Bool) → is_own s.running.back k ≡ own → nat_lt k (length s.running.locals) ≡ inside →
          Says_of i (if own then (if inside then Goes (with_local s k v rest at) else Stuck) else Stuck)
      by_tests true true e f = leads (record { own = e; inside = grind (arith, nat_tests); goes = refl })
      by_tests _ _ e f = tt

  increase : (i : Instr) (k at : ℕ) (n : ℤ) →
      ((to : State) → WithLocal s.running.locals k (λ v. with_local s k (plus v (word_of n)) s.running.operands at ≡ to) → Went image stack_end s to i) →
      (found : Option (Option ℕ)) → slice_get s.running.locals k ≡ found → Says_of i (increased s k n found at)
  increase i k at n leads (Some (Some v)) e =
      leads (with_local s k (plus v (word_of n)) s.running.operands at) (record { value = v; set = e; leads = refl })
  increase i k at n leads _ e = tt

  -- an instruction on the last operand, or on the last two, which is stuck where there are fewer
  with_top : (i : Instr) (f : List ℕ → StepOutcome) → Says_of i (f []) →
      ((y : ℕ) (rest : List ℕ) → s.running.operands ≡ y ∷ rest → Says_of i (f (y ∷ rest))) → Says_of i (f s.running.operands)
  with_top i f none some = by_operands s.running.operands refl
    where
      by_operands : (xs : List ℕ) → s.running.operands ≡ xs → Says_of i (f xs)
      by_operands [] e = none
      by_operands (y ∷ rest) e = some y rest e

  with_two : (i : Instr) (f : List ℕ → StepOutcome) → Says_of i (f []) → ((y : ℕ) → Says_of i (f (y ∷ []))) →
      ((y x : ℕ) (rest : List ℕ) → s.running.operands ≡ y ∷ x ∷ rest → Says_of i (f (y ∷ x ∷ rest))) → Says_of i (f s.running.operands)
  with_two i f none one some = by_operands s.running.operands refl
    where
      by_operands : (xs : List ℕ) → s.running.operands ≡ xs → Says_of i (f xs)
      by_operands [] e = none
      by_operands (y ∷ []) e = one y
      by_operands (y ∷ x ∷ rest) e = some y x rest e

  return : (back : Option ℕ) (above : List Frame) (xs : List ℕ) → s.running.back ≡ back → s.callers ≡ above → s.running.operands ≡ xs → Says_of Ireturn (returned s back above xs)
  return (Some back) (f ∷ fs) (y ∷ rest) b a e =
      record { back = back; caller = f; above = fs; back_is = b; callers_are = a; with_top = record { top = y; rest = rest; are = e; leads = refl } }
  return _ _ _ b a e = tt

  enter : (k : ℕ) (m : Method) (found : method_at image.text (slice_get image.pool k) ≡ Some m) (params : ℕ) → m.params ≡ params → Says_of (Invokevirtual k) (entered stack_end s m params)
  enter k m found zero e = tt
  enter k m found (suc n) e = by_test (nat_lt n (length s.running.operands)) refl
    where
      by_test : (t : Bool) → nat_lt n (length s.running.operands) ≡ t → Says_of (Invokevirtual k) (if t then limited stack_end s (in_method s m n) else Stuck)
      by_test false g = tt
      by_test true g =
          let enough : n < length s.running.operands = grind (arith, nat_tests) in
          room (Invokevirtual k) s (in_method s m n)
          (λ l. record { method = m; others = n; found = found; params = e; enough = enough; leads = record { fits = l; goes = refl } })
          (λ l. record { method = m; others = n; found = found; params = e; enough = enough; leads = record { over = l; leaves = refl } })

  call : (k : ℕ) (m : Option Method) → method_at image.text (slice_get image.pool k) ≡ m → Says_of (Invokevirtual k) (called_at stack_end s m)
  call k None e = tt
  call k (Some m) e = enter k m e m.params refl

  pub says : (i : Instr) → IsOutcome image stack_end s i (step image stack_end i s)
  says (Bipush b) = room (Bipush b) s (push s (word_of b) (s.at + 2)) (λ l. record { fits = l; goes = refl }) (λ l. record { over = l; leaves = refl })
  says (LdcW k) = constant k (slice_get image.pool k) refl
  says (Iload k) = load (Iload k) k (s.at + 2) (λ to h. h) (λ left h. h) (slice_get s.running.locals k) refl
  says (Istore k) = with_top (Istore k) (λ xs. stored s k xs (s.at + 2)) tt
      (λ y rest e. store (Istore k) k y rest (s.at + 2) (λ h. record { top = y; rest = rest; are = e; leads = h }))
  says Pop = with_top Pop (popped s) tt (λ y rest e. record { top = y; rest = rest; are = e; leads = refl })
  says Dup = with_top Dup (doubled stack_end s) tt (λ y rest e.
      room Dup s (push s y (s.at + 1)) (λ l. record { top = y; rest = rest; are = e; leads = record { fits = l; goes = refl } })
      (λ l. record { top = y; rest = rest; are = e; leads = record { over = l; leaves = refl } }))
  says Swap = with_two Swap (swapped s) tt (λ y. tt) (λ y x rest e. record { top = y; second = x; rest = rest; are = e; leads = refl })
  says Iadd = with_two Iadd (combined plus s) tt (λ y. tt) (λ y x rest e. record { top = y; second = x; rest = rest; are = e; leads = refl })
  says Isub = with_two Isub (combined minus s) tt (λ y. tt) (λ y x rest e. record { top = y; second = x; rest = rest; are = e; leads = refl })
  says Iand = with_two Iand (combined bit_and s) tt (λ y. tt) (λ y x rest e. record { top = y; second = x; rest = rest; are = e; leads = refl })
  says (Iinc k b) = increase (Iinc k b) k (s.at + 3) b (λ to h. h) (slice_get s.running.locals k) refl
  says (Ifeq o) = with_top (Ifeq o) (branched (λ y. y == 0) s o) tt (λ y rest e. record { top = y; rest = rest; are = e; leads = refl })
  says (Iflt o) = with_top (Iflt o) (branched is_negative s o) tt (λ y rest e. record { top = y; rest = rest; are = e; leads = refl })
  says (IfIcmpeq o) = with_two (IfIcmpeq o) (compared s o) tt (λ y. tt) (λ y x rest e. record { top = y; second = x; rest = rest; are = e; leads = refl })
  says Ireturn = return s.running.back s.callers s.running.operands refl refl refl
  says Ior = with_two Ior (combined bit_or s) tt (λ y. tt) (λ y x rest e. record { top = y; second = x; rest = rest; are = e; leads = refl })
  says (Invokevirtual k) = call k (method_at image.text (slice_get image.pool k)) refl
  says (WideIload k) = load (WideIload k) k (s.at + 4) (λ to h. h) (λ left h. h) (slice_get s.running.locals k) refl
  says (WideIstore k) = with_top (WideIstore k) (λ xs. stored s k xs (s.at + 4)) tt
      (λ y rest e. store (WideIstore k) k y rest (s.at + 4) (λ h. record { top = y; rest = rest; are = e; leads = h }))
  says (WideIinc k n) = increase (WideIinc k n) k (s.at + 6) n (λ to h. h) (slice_get s.running.locals k) refl
  says In = room In (taken s) (push (taken s) (next_byte s.untaken) (s.at + 1)) (λ l. record { fits = l; goes = refl }) (λ l. record { over = l; leaves = refl })
  says Out = with_top Out (given_out s) tt (λ y rest e. record { top = y; rest = rest; are = e; leads = refl })
  says _ = refl
