-- What the search for reached addresses keeps, and what follows when it is over.
use Rattle.verifier_reach.proofs.Common.{◌≡◌, ◌≢◌, ℕ, zero, suc, ◌+◌, ◌-◌, ◌*◌, ◌<◌, ◌≤◌, inl, inr, Bool, true, false, cond, Option, Some, None, List, [], ◌∷◌}
use Rattle.verifier_reach.proofs.Common.{◌++◌, length, refl, arith, ◌∙◌, ap, sym, subst, length-set, length-append, replicate, slice_get, slice_set, Contains}
use Rattle.verifier_reach.proofs.Common.{not, nat_lt, option_eq, option_map, eqb, cases_eq, le-ltb, eq-eqb, ltb-true, slice_get_within, slice_get-get_or}
use Rattle.verifier_reach.proofs.Common.{same_Some, Instr, Row, Flow, Call, Return, row_of, size_of, of_bytes, instr_at, target, ImageView, method_at, params}
use Rattle.verifier_reach.proofs.Common.{others, Kept, VerifyError, Arrival, arrival, HasRow, HasConstant, callee, need_by, need_of, GoesOn, left_unset, On}
use Rattle.verifier_reach.proofs.Common.{Into, Reached, Start, Then, HasNext, HasJump, Names, IsWrongAt, IsTrueOf, Code, kept_at, kept_of, IsChecked, empties}
use Rattle.verifier_reach.proofs.Common.{IsKept, IsDone, IsSearch, Grows, IsRunning, IsClosed, IsDecided, get_set_other, get_set_same}
use Rattle.std.proofs.lemmas.List.Elements.{Contains-append_left, Contains-push, Contains-push_cases}
use Rattle.ijvm_image.specs.declared.method.Method.{Method}
use Rattle.verifier_facts.specs.declared.error.VerifyError.TheVariants.{BadCode, FallsOff, BadTarget, Overlap, BadConstant, BadEntry, BadHeader, LinkSlot, BadLocal, UnsetLocal, TooFewArguments, Underflow, DepthDiffers, ReturnInMain, MainFrame, OutOfMemory}

empties_set : (xs : List (Option Kept)) (i : ℕ) (k : Kept) → slice_get xs i ≡ Some None → empties (slice_set xs i (Some k)) + 1 ≡ empties xs
empties_set [] i k is = cc
empties_set (None ∷ xs) zero k is = omega arith
empties_set (Some j ∷ xs) zero k is = cc
empties_set (None ∷ xs) (suc i) k is = let e : empties (slice_set xs i (Some k)) + 1 ≡ empties xs = empties_set xs i k is in omega arith
empties_set (Some j ∷ xs) (suc i) k is = empties_set xs i k is

pub empties_few : (xs : List (Option Kept)) → empties xs ≤ length xs
empties_few [] = omega arith
empties_few (None ∷ xs) = let h : empties xs ≤ length xs = empties_few xs in omega arith
empties_few (Some k ∷ xs) = let h : empties xs ≤ length xs = empties_few xs in omega arith

pub grows_on : (a b c : List (Option Kept)) (x y z : List ℕ) → Grows a b x y → Grows b c y z → Grows a c x z
grows_on a b c x y z g h = record {
  keeps = λ at k is. h.keeps at k (g.keeps at k is);
  fresh = λ at k is. elim (h.fresh at k is) [ inl old ↦ elim (g.fresh at k old) [ inl older ↦ inl older | inr waits ↦ inr (h.todo_stays at waits) ] | inr waits ↦ inr waits ];
  todo_stays = λ at has. h.todo_stays at (g.todo_stays at has);
  fewer = omega (arith, g.fewer, h.fewer);
  measure = h.measure ∙ g.measure;
}

-- an empty place is filled
pub grows_set : (seen : List (Option Kept)) (todo : List ℕ) (at : ℕ) (here : Kept) → slice_get seen at ≡ Some None → Grows seen (slice_set seen at (Some here)) todo (todo ++ at ∷ [])
grows_set seen todo at here empty =
    let e : empties (slice_set seen at (Some here)) + 1 ≡ empties seen = empties_set seen at here empty in
    record {
      keeps = λ j k is. elim (cases_eq j at) [
        | inl same ↦ absurd (differ j k same is)
        | inr ne ↦ get_set_other seen at j (Some here) ne ∙ is
      ];
      fresh = λ j k is. elim (cases_eq j at) [
        | inl same ↦ inr (subst (λ (i : ℕ). Contains (todo ++ at ∷ []) i) (sym same) (Contains-push todo at))
        | inr ne ↦ inl (sym (get_set_other seen at j (Some here) ne) ∙ is)
      ];
      todo_stays = λ j has. Contains-append_left todo (at ∷ []) j has;
      fewer = omega arith;
      measure = omega (arith, length-append todo (at ∷ []));
    }
  where
    differ : (j : ℕ) (k : Kept) → j ≡ at → slice_get seen j ≡ Some (Some k) → ⊥
    differ j k same is = let e : slice_get seen j ≡ Some None = ap (slice_get seen) same ∙ empty in cc

pub search_set : (image : ImageView) (seen : List (Option Kept)) (todo : List ℕ) (at : ℕ) (here : Kept) → IsSearch image seen todo → slice_get seen at ≡ Some None → Reached image (kept_at here at) →
    here.depth + 2 * empties seen ≤ 2 * length image.text + 2 → IsSearch image (slice_set seen at (Some here)) (todo ++ at ∷ [])
search_set image seen todo at here s empty reached low =
    let e : empties (slice_set seen at (Some here)) + 1 ≡ empties seen = empties_set seen at here empty in
    let g : Grows seen (slice_set seen at (Some here)) todo (todo ++ at ∷ []) = grows_set seen todo at here empty in
    let lt : at < length seen = slice_get_within seen at None empty in
    let new : slice_get (slice_set seen at (Some here)) at ≡ Some (Some here) = get_set_same seen at (Some here) lt in
    record {
      long = length-set seen at (Some here) ∙ s.long;
      reached = λ j k is. elim (cases_eq j at) [
        | inl same ↦ let this : here ≡ k = one j k same new is in
            subst (λ (i : ℕ). Reached image (kept_at k i)) (sym same) (subst (λ (h : Kept). Reached image (kept_at h at)) this reached)
        | inr ne ↦ s.reached j k (sym (get_set_other seen at j (Some here) ne) ∙ is)
      ];
      low = λ j k is. elim (cases_eq j at) [
        | inl same ↦ let this : here ≡ k = one j k same new is in
            let depth : here.depth ≡ k.depth = ap (λ (h : Kept). h.depth) this in omega arith
        | inr ne ↦ let old : k.depth + 2 * empties seen ≤ 2 * length image.text = s.low j k (sym (get_set_other seen at j (Some here) ne) ∙ is) in omega arith
      ];
      waiting = λ j has. elim (Contains-push_cases todo at j has) [
        | inl old ↦ let w = s.waiting j old in (w.0, g.keeps j w.0 w.1)
        | inr same ↦ (here, subst (λ (i : ℕ). slice_get (slice_set seen at (Some here)) i ≡ Some (Some here)) same new)
      ];
    }
  where
    one : (j : ℕ) (k : Kept) → j ≡ at → slice_get (slice_set seen at (Some here)) at ≡ Some (Some here) → slice_get (slice_set seen at (Some here)) j ≡ Some (Some k) → here ≡ k
    one j k same new is = let e : slice_get (slice_set seen at (Some here)) at ≡ Some (Some k) = ap (slice_get (slice_set seen at (Some here))) (sym same) ∙ is in cc

-- the last waiting address is taken
pub search_pop : (image : ImageView) (seen : List (Option Kept)) (todo rest : List ℕ) (at : ℕ) → IsSearch image seen todo → todo ≡ rest ++ at ∷ [] → IsSearch image seen rest
search_pop image seen todo rest at s is = record {
  long = s.long;
  reached = s.reached;
  low = s.low;
  waiting = λ j has. s.waiting j (subst (λ (xs : List ℕ). Contains xs j) (sym is) (Contains-append_left rest (at ∷ []) j has));
}

-- the paths that go on from a checked arrival
reach_on : (image : ImageView) (a : Arrival) (r : Row) (need to d : ℕ) → Reached image a → a.unset ≡ None → IsChecked image a r need → GoesOn r.flow a.at (a.at + size_of r) to → to < length image.text →
    d + need ≡ a.depth + r.gives → Reached image (arrival a.unit to d None)
reach_on image a r need to d h none checked way inside depth =
    Then a _ h (On r need (record {
      works = record { has_row = checked.has_row; constant = checked.constant; needs = checked.needs; enough = checked.enough };
      way = way;
      inside = inside;
      unit_is = refl;
      depth_is = depth;
      unset_is = sym (ap (left_unset r.stores) none ∙ keeps_none r.stores);
    }))
  where
    keeps_none : (o : Option ℕ) → left_unset o None ≡ None
    keeps_none None = refl
    keeps_none (Some k) = refl

pub reach_in : (image : ImageView) (a : Arrival) (r : Row) (need k e : ℕ) → Reached image a → IsChecked image a r need → r.flow ≡ Call k → slice_get image.pool k ≡ Some e → e + 4 < length image.text →
    Reached image (arrival (Some e) (e + 4) 0 None)
reach_in image a r need k e h checked call constant inside =
    Then a _ h (Into r need e (record {
      works = record { has_row = checked.has_row; constant = checked.constant; needs = checked.needs; enough = checked.enough };
      calls = (k, call, constant);
      inside = inside;
      unit_is = refl;
      at_is = refl;
      depth_is = refl;
      unset_is = tt;
    }))

pub on_way : (image : ImageView) (here : Kept) (at : ℕ) (r : Row) (need to : ℕ) (f : Flow) → Reached image (kept_at here at) → IsChecked image (kept_at here at) r need → r.flow ≡ f → GoesOn f at (at + size_of r) to → to < length image.text →
    Reached image (kept_at (kept_of here.unit (here.depth - need + r.gives)) to)
on_way image here at r need to f reached checked flow way inside =
    reach_on image (kept_at here at) r need to (here.depth - need + r.gives) reached refl checked
    (subst (λ (g : Flow). GoesOn g at (at + size_of r) to) (sym flow) way) inside (omega (arith, checked.enough))

-- the one fact that this search does not decide of an arrival
abbrev IsCarried : VerifyError → Type 0
IsCarried (UnsetLocal at k) = Unit {0}
IsCarried e = ⊥

no_need : (image : ImageView) (needs k : ℕ) → callee image k ≡ None → need_of image needs (Call k) ≡ None
no_need image needs k none = ap (option_map (λ (m : Method). m.params)) none

-- nothing else is wrong at a checked arrival
clear : (image : ImageView) (here : Kept) (at : ℕ) (c : Option ℕ) (r : Row) (need : ℕ) → IsChecked image (kept_at here at) r need → (e : VerifyError) → IsWrongAt image (arrival here.unit at here.depth c) e → IsCarried e
clear image here at c r need h (BadCode p) w = absurd (code h.has_row w.1)
  where
    code : HasRow image.text at r → instr_at image.text at ≡ None → ⊥
    code row none = let e : instr_at image.text at ≡ Some row.0 = row.1 in cc
clear image here at c r need h (FallsOff p) w =
    let same : w.1 ≡ r = h.alone w.1 w.2 in
    let next : at + size_of r < length image.text = h.next (subst (λ (x : Row). HasNext x.flow) same w.3) in
    let end : at + size_of r ≡ length image.text = subst (λ (x : Row). at + size_of x ≡ length image.text) same w.4 in absurd (omega arith)
clear image here at c r need h (BadTarget p) w =
    let same : w.1 ≡ r = h.alone w.1 w.2 in
    let inside : target at w.3 < length image.text = h.jump w.3 (subst (λ (x : Row). HasJump x.flow w.3) same w.4) in
    absurd (omega (arith, w.5))
clear image here at c r need h (BadConstant p k) w =
    let same : w.1 ≡ r = h.alone w.1 w.2 in
    let there : k < length image.pool = subst (λ (o : Option ℕ). HasConstant image.pool o) (sym (ap (λ (x : Row). x.constant) same) ∙ w.3) h.constant in
    absurd (absent there w.4)
  where
    absent : k < length image.pool → slice_get image.pool k ≡ None → ⊥
    absent lt none = let some : slice_get image.pool k ≡ Some _ = slice_get-get_or image.pool k 0 lt in cc
clear image here at c r need h (BadEntry k) w =
    let same : w.0 ≡ r = h.alone w.0 w.1 in
    let needs : need_of image w.0.needs w.0.flow ≡ Some need = subst (λ (x : Row). need_of image x.needs x.flow ≡ Some need) (sym same) h.needs in
    let none : callee image k ≡ None = ap (method_at image.text) w.4 ∙ ap (λ (b : Bool). cond b (Some (record { entry = w.3; params = params image.text w.3; others = others image.text w.3 })) None) (le-ltb (w.3 + 4) (length image.text) w.5) in
    let no : need_of image w.0.needs w.0.flow ≡ None = ap (need_of image w.0.needs) w.2 ∙ no_need image w.0.needs k none in cc
clear image here at c r need h (BadHeader e) w = absurd (h.header e w.0 w.1)
clear image here at c r need h (LinkSlot p) w =
    let same : w.1 ≡ r = h.alone w.1 w.2 in
    let own = h.locals w.3 0 w.4 (subst (λ (x : Row). Names x 0) same w.5) in absurd (omega (arith, own.0))
clear image here at c r need h (BadLocal p k) w =
    let same : w.1 ≡ r = h.alone w.1 w.2 in
    let own = h.locals w.3 k w.4 (subst (λ (x : Row). Names x k) same w.5) in absurd (omega (arith, own.1, w.6))
clear image here at c r need h (UnsetLocal p k) w = tt
clear image here at c r need h (TooFewArguments p have many) w =
    let same : w.1 ≡ r = h.alone w.1 w.2 in
    let needs : need_of image w.1.needs w.1.flow ≡ Some need = subst (λ (x : Row). need_of image x.needs x.flow ≡ Some need) (sym same) h.needs in
    let more : need_of image w.1.needs w.1.flow ≡ Some many = w.5 in
    let equal : need ≡ many = cc in
    let enough : need ≤ here.depth = h.enough in absurd (omega (arith, w.6, w.7))
clear image here at c r need h (Underflow p) w =
    let same : w.1 ≡ r = h.alone w.1 w.2 in
    let needs : need_of image w.1.needs w.1.flow ≡ Some need = subst (λ (x : Row). need_of image x.needs x.flow ≡ Some need) (sym same) h.needs in
    let plain : need_of image w.1.needs w.1.flow ≡ Some w.1.needs = ap (need_by image w.1.needs) w.3 in
    let equal : need ≡ w.1.needs = cc in
    let enough : need ≤ here.depth = h.enough in absurd (omega (arith, w.4))
clear image here at c r need h (ReturnInMain p) w =
    let same : w.1 ≡ r = h.alone w.1 w.2 in
    absurd (h.returns w.3 (subst (λ (x : Row). x.flow ≡ Return) same w.4))
clear image here at c r need h (DepthDiffers p d e) w = w
clear image here at c r need h _ w = w

-- at the end each path's arrival is kept
all_kept : (image : ImageView) (seen : List (Option Kept)) → slice_get seen 0 ≡ Some (Some (kept_of None 0)) → ((at : ℕ) (k : Kept) → slice_get seen at ≡ Some (Some k) → IsDone image seen k at) →
    (a : Arrival) → Reached image a → IsKept seen a
all_kept image seen start done a Start = start
all_kept image seen start done b (Then a to reached follows) =
    (done a.at (kept_of a.unit a.depth) (all_kept image seen start done a reached)).1 a.unset to follows

-- each reached method is kept from its start on
start_kept : (image : ImageView) (seen : List (Option Kept)) → ((a : Arrival) → Reached image a → IsKept seen a) → (e : ℕ) (a : Arrival) → Reached image a → a.unit ≡ Some e → slice_get seen (e + 4) ≡ Some (Some (kept_of (Some e) 0))
start_kept image seen all e a Start unit = cc
start_kept image seen all e b (Then a to reached (On r need g)) unit = start_kept image seen all e a reached (sym g.unit_is ∙ unit)
start_kept image seen all e b (Then a to reached (Into r need f g)) unit =
    let kept : slice_get seen to.at ≡ Some (Some (kept_of to.unit to.depth)) = all to (Then a to reached (Into r need f g)) in
    let at : to.at ≡ e + 4 = g.at_is ∙ ap (λ (x : ℕ). x + 4) (same_Some f e (sym g.unit_is ∙ unit)) in
    ap (slice_get seen) (sym at) ∙ (kept ∙ ap (λ (k : Kept). Some (Some k)) (λ i. kept_of (unit i) (g.depth_is i)))

-- a kept address has one unit and one depth
pub one_kept : (image : ImageView) (seen : List (Option Kept)) → IsClosed image seen → (a b : Arrival) → Reached image a → Reached image b → a.at ≡ b.at → kept_of a.unit a.depth ≡ kept_of b.unit b.depth
one_kept image seen closed a b g h same =
    let p : slice_get seen a.at ≡ Some (Some (kept_of a.unit a.depth)) = closed.all a g in
    let q : slice_get seen b.at ≡ Some (Some (kept_of b.unit b.depth)) = closed.all b h in
    one (kept_of a.unit a.depth) (kept_of b.unit b.depth) (slice_get seen a.at) (slice_get seen b.at) (ap (slice_get seen) same) p q
  where
    one : (j k : Kept) (o u : Option (Option Kept)) → o ≡ u → o ≡ Some (Some j) → u ≡ Some (Some k) → j ≡ k
    one j k o u e p q = cc

-- so no fact that this search decides holds
pub decided : (image : ImageView) (z : ℕ) (seen : List (Option Kept)) → IsClosed image seen → (e : VerifyError) → IsDecided e → IsTrueOf image z e → ⊥
decided image z seen closed e = by_fact e
  where
    carried : (a : Arrival) → Reached image a → (e : VerifyError) → IsWrongAt image a e → IsCarried e
    carried a h e w =
        let d = closed.checked a.at (kept_of a.unit a.depth) (closed.all a h) in
        clear image (kept_of a.unit a.depth) a.at a.unset d.0 d.1 d.2 e w

    by_fact : (e : VerifyError) → IsDecided e → IsTrueOf image z e → ⊥
    by_fact (DepthDiffers p d e) i h =
        let same : kept_of h.0.unit h.0.depth ≡ kept_of h.1.unit h.1.depth = one_kept image seen closed h.0 h.1 h.2 h.3 (h.4 ∙ sym h.5) in
        let depth : h.0.depth ≡ h.1.depth = ap (λ (k : Kept). k.depth) same in omega (arith, h.6, h.7, h.8)
    by_fact (UnsetLocal p k) i h = i
    by_fact (Overlap p) i h = i
    by_fact (MainFrame n) i h = i
    by_fact e i h = carried h.0 h.1 e h.2

-- two units reach one instruction
pub overlap : (image : ImageView) (z : ℕ) (old here : Kept) (at : ℕ) (i : Instr) → Reached image (kept_at old at) → Reached image (kept_at here at) → old.unit ≢ here.unit → instr_at image.text at ≡ Some i → 0 < size_of (row_of i) →
    IsTrueOf image z (Overlap at)
overlap image z old here at i g h differ code above =
    let within : at < at + size_of (row_of i) = omega arith in (
      Code old.unit at,
      Code here.unit at,
      λ e. differ (unit_of e),
      (kept_at old at, g, refl, refl, row_of i, (i, code, refl), omega arith, within),
      (kept_at here at, h, refl, refl, row_of i, (i, code, refl), omega arith, within),
    )
  where
    unit_of : Code old.unit at ≡ Code here.unit at → old.unit ≡ here.unit
    unit_of e = cc

-- what the derived test of two units shows
pub units_differ : (a b : Option ℕ) → true ≡ not (option_eq eqb a b) → a ≢ b
units_differ a b h e = same a (subst (λ (x : Option ℕ). true ≡ not (option_eq eqb a x)) (sym e) h)
  where
    same : (x : Option ℕ) → true ≡ not (option_eq eqb x x) → ⊥
    same None g = cc
    same (Some n) g = let t : eqb n n ≡ true = eq-eqb n n refl in let f : not (eqb n n) ≡ false = ap not t in cc

-- a checked call's constant and method exist
pub call_there : (image : ImageView) (a : Arrival) (r : Row) (need k : ℕ) → IsChecked image a r need → r.flow ≡ Call k → (e : ℕ) × (slice_get image.pool k ≡ Some e) × (e + 4 < length image.text)
call_there image a r need k checked call = by_constant (slice_get image.pool k) refl (sym (ap (need_of image r.needs) call) ∙ checked.needs)
  where
    made : (e : ℕ) → Method
    made e = record { entry = e; params = params image.text e; others = others image.text e }

    by_test : (e : ℕ) (b : Bool) → option_map (λ (m : Method). m.params) (cond b (Some (made e)) None) ≡ Some need → b ≡ true
    by_test e true is = refl
    by_test e false is = cc

    by_constant : (o : Option ℕ) → slice_get image.pool k ≡ o → option_map (λ (m : Method). m.params) (method_at image.text o) ≡ Some need → (e : ℕ) × (slice_get image.pool k ≡ Some e) × (e + 4 < length image.text)
    by_constant None is e = cc
    by_constant (Some e) is t = (e, is, ltb-true (e + 4) (length image.text) (by_test e (nat_lt (e + 4) (length image.text)) t))

pub call_inside : (image : ImageView) (a : Arrival) (r : Row) (need k e : ℕ) → IsChecked image a r need → r.flow ≡ Call k → slice_get image.pool k ≡ Some e → e + 4 < length image.text
call_inside image a r need k e checked call constant =
    let t = call_there image a r need k checked call in
    let same : t.0 ≡ e = one t.0 e t.1 constant in
    omega (arith, t.2)
  where
    one : (x y : ℕ) → slice_get image.pool k ≡ Some x → slice_get image.pool k ≡ Some y → x ≡ y
    one x y p q = cc

-- the waiting address that is taken is kept
pub taken_kept : (seen : List (Option Kept)) (todo rest : List ℕ) (at : ℕ) → ((j : ℕ) → Contains todo j → (k : Kept) × (slice_get seen j ≡ Some (Some k))) → todo ≡ rest ++ at ∷ [] → (k : Kept) × (slice_get seen at ≡ Some (Some k))
taken_kept seen todo rest at waiting is = waiting at (subst (λ (xs : List ℕ). Contains xs at) (sym is) (Contains-push rest at))

-- what is wrong at an arrival of a path is a fact of the image
pub wrong_holds : (image : ImageView) (z : ℕ) (a : Arrival) (e : VerifyError) → Reached image a → IsWrongAt image a e → IsTrueOf image z e
wrong_holds image z a (DepthDiffers p d e) h w = elim w [ ]
wrong_holds image z a (Overlap p) h w = elim w [ ]
wrong_holds image z a (MainFrame n) h w = elim w [ ]
wrong_holds image z a OutOfMemory h w = elim w [ ]
wrong_holds image z a _ h w = (a, h, w)

-- what was done stays done
done_on : (image : ImageView) (seen new : List (Option Kept)) (todo later : List ℕ) (k : Kept) (at : ℕ) → Grows seen new todo later → IsDone image seen k at → IsDone image new k at
done_on image seen new todo later k at g d = (d.0, λ c b f. g.keeps b.at (kept_of b.unit b.depth) (d.1 c b f))

-- one more address is done
pub running_on : (image : ImageView) (seen new : List (Option Kept)) (todo rest later : List ℕ) (here : Kept) (at : ℕ) → IsRunning image seen todo → todo ≡ rest ++ at ∷ [] → slice_get seen at ≡ Some (Some here) → IsSearch image new later →
    Grows seen new rest later → IsDone image new here at → IsRunning image new later
running_on image seen new todo rest later here at r is kept s g d = record {
  search = s;
  start = g.keeps 0 (kept_of None 0) r.start;
  each = λ j k has. elim (g.fresh j k has) [
    | inl old ↦ elim (cases_eq j at) [
      | inl same ↦ inr (this j k same old)
      | inr ne ↦ elim (r.each j k old) [
        | inl waits ↦ elim (Contains-push_cases rest at j (subst (λ (xs : List ℕ). Contains xs j) is waits)) [
          | inl before ↦ inl (g.todo_stays j before)
          | inr same ↦ absurd (ne (sym same))
        ]
        | inr done ↦ inr (done_on image seen new rest later k j g done)
      ]
    ]
    | inr waits ↦ inl waits
  ];
}
  where
    this : (j : ℕ) (k : Kept) → j ≡ at → slice_get seen j ≡ Some (Some k) → IsDone image new k j
    this j k same old =
        let e : slice_get seen at ≡ Some (Some k) = ap (slice_get seen) (sym same) ∙ old in
        let one : here ≡ k = cc in
        subst (λ (i : ℕ). IsDone image new k i) (sym same) (subst (λ (h : Kept). IsDone image new h at) one d)

pub closed_from : (image : ImageView) (seen : List (Option Kept)) (todo : List ℕ) → IsRunning image seen todo → todo ≡ [] → IsClosed image seen
closed_from image seen todo r none = record {
  long = r.search.long;
  reached = r.search.reached;
  all = all;
  starts = λ e m. start_kept image seen all e m.0 m.1 m.2;
  checked = λ at k is. (done at k is).0;
}
  where
    empty : (at : ℕ) → Contains {X = ℕ} [] at → ⊥
    empty at h = omega (arith, h.1)

    done : (at : ℕ) (k : Kept) → slice_get seen at ≡ Some (Some k) → IsDone image seen k at
    done at k is = elim (r.each at k is) [ inl waits ↦ absurd (empty at (subst (λ (xs : List ℕ). Contains xs at) none waits)) | inr d ↦ d ]

    all : (a : Arrival) → Reached image a → IsKept seen a
    all = all_kept image seen r.start done

-- nothing is kept in the beginning
pub none_kept : (n at : ℕ) (k : Kept) → slice_get (replicate {A = Option Kept} n None) at ≡ Some (Some k) → ⊥
none_kept zero at k is = cc
none_kept (suc n) zero k is = cc
none_kept (suc n) (suc at) k is = none_kept n at k is

-- no instruction stands in an empty text
pub empty_text : (text : List ℕ) → length text ≡ 0 → instr_at text 0 ≡ None
unfolding instr_at of_bytes
empty_text [] none = refl
empty_text (x ∷ xs) none = absurd (omega arith)
