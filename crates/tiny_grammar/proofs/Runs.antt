-- The machine over many tokens: how far it goes, and where it is refused.
use Rattle.tiny_grammar.proofs.Common.{◌≡◌, ℕ, ◌+◌, ◌-◌, ◌<◌, Bool, true, false, List, [], ◌∷◌, ◌++◌, map, cond, refl, ap, sym, subst, arith, Option, Some}
use Rattle.tiny_grammar.proofs.Common.{None, Ok, Err, ◌==◌, option_and_then, eqb-true, eqb-false, ne_eqb, Token, Refusal}
use Rattle.tiny_grammar.specs.declared.refusal.Refusal.TheVariants as refusals
use Rattle.tiny_grammar.specs.Prelude.{kept, Closes, IsShallow, MayTurn, Opens, Stays, Turn, left, left_by, turn, Outcome, Part, fault_by, follow, go_on, spent, take_on, walk}

abbrev pub steps : List Part → List Token → Option (List Part)
steps ps [] = Some ps
steps ps (t ∷ ts) = option_and_then (λ qs. steps qs ts) (follow ps t.kind)

pub steps_kept : (ts : List Token) (ps : List Part) → steps ps (map kept ts) ≡ steps ps ts
steps_kept [] ps = refl
steps_kept (t ∷ ts) ps = go (follow ps t.kind) (λ qs. steps_kept ts qs)
  where
    go : (r : Option (List Part)) → ((qs : List Part) → steps qs (map kept ts) ≡ steps qs ts) → option_and_then (λ qs. steps qs (map kept ts)) r ≡ option_and_then (λ qs. steps qs ts) r
    go None rec = refl
    go (Some qs) rec = rec qs

pub steps_more : (ts us : List Token) (ps qs : List Part) → steps ps ts ≡ Some qs → steps ps (ts ++ us) ≡ steps qs us
steps_more [] us ps qs h = let e : ps ≡ qs = cc in ap (λ x. steps x us) e
steps_more (t ∷ ts) us ps qs h = go (follow ps t.kind) (λ rs k. steps_more ts us rs qs k) h
  where
    go : (r : Option (List Part)) → ((rs : List Part) → steps rs ts ≡ Some qs → steps rs (ts ++ us) ≡ steps qs us) → option_and_then (λ rs. steps rs ts) r ≡ Some qs
        → option_and_then (λ rs. steps rs (ts ++ us)) r ≡ steps qs us
    go None rec h = absurd (cc)
    go (Some rs) rec h = rec rs h

-- what takes all takes the front
pub steps_front : (ts us : List Token) (ps qs : List Part) → steps ps (ts ++ us) ≡ Some qs → (rs : List Part) × (steps ps ts ≡ Some rs) × (steps rs us ≡ Some qs)
steps_front [] us ps qs h = (ps, refl, h)
steps_front (t ∷ ts) us ps qs h = go (follow ps t.kind) (λ vs k. steps_front ts us vs qs k) h
  where
    go : (r : Option (List Part)) → ((vs : List Part) → steps vs (ts ++ us) ≡ Some qs → (rs : List Part) × (steps vs ts ≡ Some rs) × (steps rs us ≡ Some qs))
        → option_and_then (λ vs. steps vs (ts ++ us)) r ≡ Some qs → (rs : List Part) × (option_and_then (λ vs. steps vs ts) r ≡ Some rs) × (steps rs us ≡ Some qs)
    go None rec h = absurd (cc)
    go (Some vs) rec h = rec vs h

pub one_step : (t : Token) (ps qs : List Part) → steps ps (t ∷ []) ≡ Some qs → follow ps t.kind ≡ Some qs
one_step t ps qs h = go (follow ps t.kind) h
  where
    go : (r : Option (List Part)) → option_and_then (λ rs. steps rs []) r ≡ Some qs → r ≡ Some qs
    go None h = absurd (cc)
    go (Some rs) h = h

-- ---- where a walk is refused

-- why it stops at this token
pub data Why (levels : ℕ) (qs : List Part) (t : Token) (e : Refusal) : Type 0 where
  astray : follow qs t.kind ≡ None → e ≡ fault_by t.kind t.line → Why levels qs t e
  deep : (rs : List Part) → follow qs t.kind ≡ Some rs → turn t.kind ≡ Opens → levels ≡ 0 → e ≡ refusals.TooDeep t.line → Why levels qs t e

pub data Stuck (levels : ℕ) (ps : List Part) (ts : List Token) (e : Refusal) : Type 0 where
  at_token : (front : List Token) (token : Token) (others : List Token) (qs : List Part) → ts ≡ front ++ token ∷ others → steps ps front ≡ Some qs
      → IsShallow levels front → Why (left levels front) qs token e → Stuck levels ps ts e
  at_end : (qs : List Part) → steps ps ts ≡ Some qs → spent qs ≡ false → IsShallow levels ts → e ≡ refusals.Unfinished → Stuck levels ps ts e

module _ (levels : ℕ) (ps : List Part) (t : Token) (ts : List Token) (e : Refusal) where
  here : Why levels ps t e → Stuck levels ps (t ∷ ts) e
  here w = at_token [] t ts ps refl refl tt w

  later : (qs : List Part) → follow ps t.kind ≡ Some qs → MayTurn (turn t.kind) levels → Stuck (left_by (turn t.kind) levels) qs ts e → Stuck levels ps (t ∷ ts) e
  later qs h may (at_token front token others rs split reach shallow why) =
      at_token (t ∷ front) token others rs (ap (λ x. t ∷ x) split) (rw h reach) (may, shallow) why
  later qs h may (at_end rs reach un shallow is) = at_end rs (rw h reach) un (may, shallow) is

abbrev pub done : Outcome
done = Ok tt

pub walk_stuck : (ts : List Token) (levels : ℕ) (ps : List Part) (e : Refusal) → walk levels ps ts ≡ Err e → Stuck levels ps ts e
unfolding walk
walk_stuck [] levels ps e h = go (spent ps) refl h
  where
    go : (w : Bool) → spent ps ≡ w → cond w done (Err refusals.Unfinished) ≡ Err e → Stuck levels ps [] e
    go true s h = absurd (cc)
    go false s h = let is : refusals.Unfinished ≡ e = cc in at_end ps refl s tt (sym is)
walk_stuck (t ∷ ts) levels ps e h = go (follow ps t.kind) refl (λ l qs k. walk_stuck ts l qs e k) h
  where
    turned : (qs : List Part) (u : Turn) → ((l : ℕ) → walk l qs ts ≡ Err e → Stuck l qs ts e) → follow ps t.kind ≡ Some qs → turn t.kind ≡ u
        → go_on levels u t.line (λ l. walk l qs ts) ≡ Err e → Stuck levels ps (t ∷ ts) e
    turned qs Stays rec f u h = later levels ps t ts e qs f (subst (λ v. MayTurn v levels) (sym u) tt) (subst (λ v. Stuck (left_by v levels) qs ts e) (sym u) (rec levels h))
    turned qs Closes rec f u h = later levels ps t ts e qs f (subst (λ v. MayTurn v levels) (sym u) tt) (subst (λ v. Stuck (left_by v levels) qs ts e) (sym u) (rec (levels + 1) h))
    turned qs Opens rec f u h = opened (levels == 0) refl h
      where
        opened : (z : Bool) → (levels == 0) ≡ z → cond z (Err (refusals.TooDeep t.line)) (walk (levels - 1) qs ts) ≡ Err e → Stuck levels ps (t ∷ ts) e
        opened true z h = let is : refusals.TooDeep t.line ≡ e = cc in here levels ps t ts e (deep qs f u (eqb-true levels 0 z) (sym is))
        opened false z h =
            let some : 0 < levels = omega (arith, eqb-false levels 0 z) in
            later levels ps t ts e qs f (subst (λ v. MayTurn v levels) (sym u) some) (subst (λ v. Stuck (left_by v levels) qs ts e) (sym u) (rec (levels - 1) h))

    go : (r : Option (List Part)) → follow ps t.kind ≡ r → ((l : ℕ) (qs : List Part) → walk l qs ts ≡ Err e → Stuck l qs ts e)
        → take_on levels t r (λ l qs. walk l qs ts) ≡ Err e → Stuck levels ps (t ∷ ts) e
    go None f rec h = let is : fault_by t.kind t.line ≡ e = cc in here levels ps t ts e (astray f (sym is))
    go (Some qs) f rec h = turned qs (turn t.kind) (λ l k. rec l qs k) f refl h

-- ---- where it is not

pub walk_shallow : (ts : List Token) (levels : ℕ) (ps : List Part) → walk levels ps ts ≡ done → IsShallow levels ts
unfolding walk
walk_shallow [] levels ps h = tt
walk_shallow (t ∷ ts) levels ps h = go (follow ps t.kind) (λ l qs k. walk_shallow ts l qs k) h
  where
    turned : (qs : List Part) (u : Turn) → turn t.kind ≡ u → ((l : ℕ) → walk l qs ts ≡ done → IsShallow l ts) → go_on levels u t.line (λ l. walk l qs ts) ≡ done → IsShallow levels (t ∷ ts)
    turned qs Stays u rec h = subst (λ v. MayTurn v levels × IsShallow (left_by v levels) ts) (sym u) (tt, rec levels h)
    turned qs Closes u rec h = subst (λ v. MayTurn v levels × IsShallow (left_by v levels) ts) (sym u) (tt, rec (levels + 1) h)
    turned qs Opens u rec h = opened (levels == 0) refl h
      where
        opened : (z : Bool) → (levels == 0) ≡ z → cond z (Err (refusals.TooDeep t.line)) (walk (levels - 1) qs ts) ≡ done → IsShallow levels (t ∷ ts)
        opened true z h = absurd (cc)
        opened false z h =
            let some : 0 < levels = omega (arith, eqb-false levels 0 z) in
            subst (λ v. MayTurn v levels × IsShallow (left_by v levels) ts) (sym u) (some, rec (levels - 1) h)

    go : (r : Option (List Part)) → ((l : ℕ) (qs : List Part) → walk l qs ts ≡ done → IsShallow l ts) → take_on levels t r (λ l qs. walk l qs ts) ≡ done → IsShallow levels (t ∷ ts)
    go None rec h = absurd (cc)
    go (Some qs) rec h = turned qs (turn t.kind) refl (λ l k. rec l qs k) h

-- over a front that is taken and opens no level too many
pub walk_along : (front rest : List Token) (levels : ℕ) (ps qs : List Part) → steps ps front ≡ Some qs → IsShallow levels front
    → walk levels ps (front ++ rest) ≡ walk (left levels front) qs rest
unfolding walk
walk_along [] rest levels ps qs h s = let e : ps ≡ qs = cc in ap (λ x. walk levels x rest) e
walk_along (t ∷ front) rest levels ps qs h s = go (follow ps t.kind) (λ l rs k z. walk_along front rest l rs qs k z) h
  where
    turned : (rs : List Part) (u : Turn) → ((l : ℕ) → IsShallow l front → walk l rs (front ++ rest) ≡ walk (left l front) qs rest) → MayTurn u levels → IsShallow (left_by u levels) front
        → go_on levels u t.line (λ l. walk l rs (front ++ rest)) ≡ walk (left (left_by u levels) front) qs rest
    turned rs Stays rec may z = rec levels z
    turned rs Closes rec may z = rec (levels + 1) z
    turned rs Opens rec may z =
        let n : (levels == 0) ≡ false = ne_eqb levels 0 (λ e. absurd (omega (arith, may, e))) in
        rw n (rec (levels - 1) z)

    go : (r : Option (List Part)) → ((l : ℕ) (rs : List Part) → steps rs front ≡ Some qs → IsShallow l front → walk l rs (front ++ rest) ≡ walk (left l front) qs rest)
        → option_and_then (λ rs. steps rs front) r ≡ Some qs → take_on levels t r (λ l rs. walk l rs (front ++ rest)) ≡ walk (left levels (t ∷ front)) qs rest
    go None rec h = absurd (cc)
    go (Some rs) rec h = turned rs (turn t.kind) (λ l z. rec l rs h z) s.0 s.1
