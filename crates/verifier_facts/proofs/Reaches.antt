-- What acceptance says of an arrival and its instruction.
use Rattle.std.proofs.Common.{◌≡◌, ◌≢◌, ℕ, ℤ, zero, suc, ◌+◌, ◌<◌, ◌≤◌, inl, inr, Bool, cond, Option, Some, None, length, refl, arith, ◌∙◌, ap, sym, subst}
use Rattle.std.specs.Prelude.{slice_get}
use Rattle.std.proofs.lemmas.Bool.{cases_lt, lt-ltb}
use Rattle.std.proofs.lemmas.Option.{slice_get_past, slice_get-get_or}
use Rattle.std.specs.Option.{option_map}
use Rattle.ijvm_instr.specs.declared.instr.Instr.{Instr}
use Rattle.ijvm_instr.specs.declared.row.Flow.{Flow}
use Rattle.ijvm_instr.specs.declared.row.Flow.TheVariants.{Next, Jump, Branch, Call, Return, End}
use Rattle.ijvm_instr.specs.Prelude.{row_of, size_of, instr_at, target}
use Rattle.ijvm_image.specs.declared.method.Method.{Method}
use Rattle.ijvm_image.specs.Prelude.{ImageView, method_at, params, others}
use Rattle.verifier_facts.specs.declared.error.VerifyError.TheVariants.{BadCode, FallsOff, BadTarget, BadConstant, BadEntry, BadHeader, TooFewArguments, Underflow, ReturnInMain}
use Rattle.verifier_facts.specs.Prelude.{Arrival, arrival, HasRow, HasConstant, callee, need_by, need_of, GoesOn, left_unset, MayCarry, On, Into, Reached, Then, HasNext, HasJump, IsNoCall, Accepts}
use Rattle.verifier_facts.proofs.Rows.{size_fits, size_above, call_constant}

-- an accepted image's path, and the instruction where it ends
pub record Stands (image : ImageView) (z : ℕ) (a : Arrival) (i : Instr) : Type 0 where
  pub accepts : Accepts image z
  pub reached : Reached image a
  pub code : instr_at image.text a.at ≡ Some i

pub row_there : (image : ImageView) (z : ℕ) (a : Arrival) (i : Instr) → Stands image z a i → HasRow image.text a.at (row_of i)
row_there image z a i h = (i, h.code, refl)

-- an instruction stands where a path ends
pub code_there : (image : ImageView) (z : ℕ) (a : Arrival) → Accepts image z → Reached image a → (i : Instr) × Stands image z a i
code_there image z a accepts reached = by_code (instr_at image.text a.at) refl
  where
    by_code : (o : Option Instr) → instr_at image.text a.at ≡ o → (i : Instr) × Stands image z a i
    by_code None is = absurd (accepts (BadCode a.at) (a, reached, (refl, is)))
    by_code (Some i) is = (i, record { accepts = accepts; reached = reached; code = is })

pub reached_inside : (image : ImageView) (z : ℕ) (a : Arrival) → Accepts image z → Reached image a → a.at < length image.text
reached_inside image z a accepts reached =
    let w = code_there image z a accepts reached in
    omega (arith, size_fits image.text a.at w.0 w.1.code, size_above (row_of w.0))

pub constant_there : (image : ImageView) (z : ℕ) (a : Arrival) (i : Instr) → Stands image z a i → HasConstant image.pool (row_of i).constant
constant_there image z a i h = by_constant (row_of i).constant refl
  where
    by_constant : (o : Option ℕ) → (row_of i).constant ≡ o → HasConstant image.pool o
    by_constant None is = tt
    by_constant (Some k) is = elim (cases_lt k (length image.pool)) [
      | inl there ↦ there
      | inr past ↦ absurd (h.accepts (BadConstant a.at k) (a, h.reached, (refl, row_of i, row_there image z a i h, is, slice_get_past image.pool k past)))
    ]

-- the method that a call's constant names, and the path into it
pub record IsCalled (image : ImageView) (a : Arrival) (k : ℕ) (m : Method) : Type 0 where
  pub constant : slice_get image.pool k ≡ Some m.entry
  pub is : callee image k ≡ Some m
  pub inside : m.entry + 4 < length image.text
  pub params_is : m.params ≡ params image.text m.entry
  pub others_is : m.others ≡ others image.text m.entry

pub method_there : (image : ImageView) (z : ℕ) (a : Arrival) (i : Instr) (k : ℕ) → Stands image z a i → (row_of i).flow ≡ Call k → (m : Method) × IsCalled image a k m
method_there image z a i k h call =
    by_constant (slice_get image.pool k) refl (subst (λ (o : Option ℕ). HasConstant image.pool o) (call_constant i k call) (constant_there image z a i h))
  where
    by_constant : (o : Option ℕ) → slice_get image.pool k ≡ o → k < length image.pool → (m : Method) × IsCalled image a k m
    by_constant None is there = let some : slice_get image.pool k ≡ Some _ = slice_get-get_or image.pool k 0 there in cc
    by_constant (Some e) is there = elim (cases_lt (e + 4) (length image.text)) [
      | inl inside ↦ (
        record { entry = e; params = params image.text e; others = others image.text e },
        record {
          constant = is;
          is = ap (method_at image.text) is ∙ ap (λ (b : Bool). cond b (Some (record { entry = e; params = params image.text e; others = others image.text e })) None) (lt-ltb (e + 4) (length image.text) inside);
          inside = inside;
          params_is = refl;
          others_is = refl;
        },
      )
      | inr past ↦ absurd (h.accepts (BadEntry k) (a, h.reached, (row_of i, row_there image z a i h, call, e, is, past)))
    ]

-- the operands that the instruction needs are available
pub operands_there : (image : ImageView) (z : ℕ) (a : Arrival) (i : Instr) → Stands image z a i → (need : ℕ) × (need_of image (row_of i).needs (row_of i).flow ≡ Some need) × (need ≤ a.depth)
operands_there image z a i h = by_flow (row_of i).flow refl
  where
    plain : (f : Flow) → (row_of i).flow ≡ f → IsNoCall f → (need : ℕ) × (need_of image (row_of i).needs (row_of i).flow ≡ Some need) × (need ≤ a.depth)
    plain f flow other = (
      (row_of i).needs,
      ap (need_by image (row_of i).needs) (subst IsNoCall (sym flow) other),
      elim (cases_lt a.depth (row_of i).needs) [
        | inl low ↦ absurd (h.accepts (Underflow a.at) (a, h.reached, (refl, row_of i, row_there image z a i h, subst IsNoCall (sym flow) other, low)))
        | inr enough ↦ enough
      ],
    )

    by_flow : (f : Flow) → (row_of i).flow ≡ f → (need : ℕ) × (need_of image (row_of i).needs (row_of i).flow ≡ Some need) × (need ≤ a.depth)
    by_flow Next flow = plain Next flow refl
    by_flow (Jump o) flow = plain (Jump o) flow refl
    by_flow (Branch o) flow = plain (Branch o) flow refl
    by_flow Return flow = plain Return flow refl
    by_flow End flow = plain End flow refl
    by_flow (Call k) flow =
        let w = method_there image z a i k h flow in
        let needs : need_of image (row_of i).needs (row_of i).flow ≡ Some w.0.params = ap (need_of image (row_of i).needs) flow ∙ ap (option_map (λ (m : Method). m.params)) w.1.is in (
          w.0.params,
          needs,
          elim (cases_lt a.depth w.0.params) [
            | inl low ↦ absurd (h.accepts (TooFewArguments a.at a.depth w.0.params) (a, h.reached, (refl, row_of i, row_there image z a i h, k, flow, needs, refl, low)))
            | inr enough ↦ enough
          ],
        )

-- the next address is inside the text
next_inside : (image : ImageView) (z : ℕ) (a : Arrival) (i : Instr) → Stands image z a i → HasNext (row_of i).flow → a.at + size_of (row_of i) < length image.text
next_inside image z a i h next =
    let fits : a.at + size_of (row_of i) ≤ length image.text = size_fits image.text a.at i h.code in
    elim (cases_lt (a.at + size_of (row_of i)) (length image.text)) [
      | inl low ↦ low
      | inr high ↦ absurd (h.accepts (FallsOff a.at) (a, h.reached, (refl, row_of i, row_there image z a i h, next, omega arith)))
    ]

jump_inside : (image : ImageView) (z : ℕ) (a : Arrival) (i : Instr) (o : ℤ) → Stands image z a i → HasJump (row_of i).flow o → target a.at o < length image.text
jump_inside image z a i o h jump =
    elim (cases_lt (target a.at o) (length image.text)) [
      | inl low ↦ low
      | inr high ↦ absurd (h.accepts (BadTarget a.at) (a, h.reached, (refl, row_of i, row_there image z a i h, o, jump, high)))
    ]

-- wherever the unit goes on is inside the text
pub inside : (image : ImageView) (z : ℕ) (a : Arrival) (i : Instr) (to : ℕ) → Stands image z a i → GoesOn (row_of i).flow a.at (a.at + size_of (row_of i)) to → to < length image.text
inside image z a i to h (inl on) = rw on.1 (next_inside image z a i h on.0)
inside image z a i to h (inr off) = rw off.2 (jump_inside image z a i off.0 h off.1)

-- a path goes on
pub goes_on : (image : ImageView) (z : ℕ) (a : Arrival) (i : Instr) (need to d : ℕ) → Stands image z a i → need_of image (row_of i).needs (row_of i).flow ≡ Some need →
    GoesOn (row_of i).flow a.at (a.at + size_of (row_of i)) to → d + need ≡ a.depth + (row_of i).gives → Reached image (arrival a.unit to d (left_unset (row_of i).stores a.unset))
goes_on image z a i need to d h needs way depth =
    let w = operands_there image z a i h in
    let same : w.0 ≡ need = cc in
    Then a _ h.reached (On (row_of i) need (record {
      works = record { has_row = row_there image z a i h; constant = constant_there image z a i h; needs = needs; enough = omega (arith, w.2) };
      way = way;
      inside = inside image z a i to h way;
      unit_is = refl;
      depth_is = depth;
      unset_is = refl;
    }))

-- a path enters the called method
pub goes_in : (image : ImageView) (z : ℕ) (a : Arrival) (i : Instr) (k : ℕ) (m : Method) (unset : Option ℕ) → Stands image z a i → (row_of i).flow ≡ Call k → IsCalled image a k m →
    MayCarry image.text m.entry unset → Reached image (arrival (Some m.entry) (m.entry + 4) 0 unset)
goes_in image z a i k m unset h call is may =
    let w = operands_there image z a i h in
    Then a _ h.reached (Into (row_of i) w.0 m.entry (record {
      works = record { has_row = row_there image z a i h; constant = constant_there image z a i h; needs = w.1; enough = w.2 };
      calls = (k, call, is.constant);
      inside = is.inside;
      unit_is = refl;
      at_is = refl;
      depth_is = refl;
      unset_is = may;
    }))

-- a called method has a parameter
pub params_above : (image : ImageView) (z : ℕ) (a : Arrival) (i : Instr) (k : ℕ) (m : Method) → Stands image z a i → (row_of i).flow ≡ Call k → IsCalled image a k m → 0 < m.params
params_above image z a i k m h call is = by_params m.params is.params_is
  where
    by_params : (n : ℕ) → n ≡ params image.text m.entry → 0 < n
    by_params zero none = absurd (h.accepts (BadHeader m.entry) (arrival (Some m.entry) (m.entry + 4) 0 None, goes_in image z a i k m None h call is tt, (refl, sym none)))
    by_params (suc n) some = omega arith

-- a return is a method's
pub return_in_method : (image : ImageView) (z : ℕ) (a : Arrival) (i : Instr) → Stands image z a i → (row_of i).flow ≡ Return → a.unit ≢ None
return_in_method image z a i h flow none = h.accepts (ReturnInMain a.at) (a, h.reached, (refl, row_of i, row_there image z a i h, none, flow))
